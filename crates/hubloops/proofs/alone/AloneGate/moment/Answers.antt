use Rattle.std.specs.Prelude.{false, refl}
use Rattle.hubloops.specs.Calls.{Passed, fault_of}
use Rattle.hubloops.proofs.Answering.{does_pass}
use Rattle.hubloops.proofs.Turning.{made_of}
use Rattle.hubloops.proofs.alone.AloneGate.moment.Goals as goal

pub returns : goal.returns
returns c = record { call = made_of (Passed c.args.at (fault_of c.moment_uncounted.result)) c.args.self.now c.self.inside.hub c.self.inside.quit c.self.inside.calls c.self.inside.idle c.self.inside.over c.saturating_add-self-inside.result c.moment_uncounted.new.self false c.self.view_is c.saturating_add-self-inside.ensures (does_pass c.self.inside.hub c.moment_uncounted.new.self c.args.at c.moment_uncounted.result c.moment_uncounted.ensures.ok c.moment_uncounted.ensures.kept c.moment_uncounted.ensures.same c.moment_uncounted.ensures.room c.moment_uncounted.ensures.asking c.moment_uncounted.ensures.asks); idle = refl }
