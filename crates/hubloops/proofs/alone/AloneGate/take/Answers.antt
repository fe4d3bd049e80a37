use Rattle.std.specs.Prelude.{◌==◌}
use Rattle.hubloops.specs.Calls.{Took}
use Rattle.hubloops.proofs.Answering.{does_take}
use Rattle.hubloops.proofs.Turning.{made_of}
use Rattle.hubloops.proofs.alone.AloneGate.take.Goals as goal

pub returns-clause-call : goal.returns-clause-call
returns-clause-call c = made_of (Took c.args.session c.args.piece.now c.take-count.result) c.args.self.now c.self.inside.hub c.self.inside.quit c.self.inside.calls c.self.inside.idle c.self.inside.over c.saturating_add-self-inside.result c.take-count.new.self (c.take-count.result == 0) c.self.view_is c.saturating_add-self-inside.ensures (does_take c.self.inside.hub c.take-count.new.self c.args.session c.args.piece.now c.take-count.result c.take-count.ensures.count c.take-count.ensures.hub c.take-count.ensures.kept c.take-count.ensures.asking)
