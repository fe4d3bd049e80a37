use Rattle.std.specs.Prelude.{false}
use Rattle.hubloops.specs.Calls.{Received}
use Rattle.hubloops.proofs.Answering.{does_hear}
use Rattle.hubloops.proofs.Turning.{made_of}
use Rattle.hubloops.proofs.alone.AloneGate.hear.Goals as goal

pub returns-clause-call : goal.returns-clause-call
returns-clause-call c = made_of (Received c.args.link c.args.datagram.now c.hear_uncounted.result) c.args.self.now c.self.inside.hub c.self.inside.quit c.self.inside.calls c.self.inside.idle c.self.inside.over c.saturating_add-self-inside.result c.hear_uncounted.new.self false c.self.view_is c.saturating_add-self-inside.ensures (does_hear c.self.inside.hub c.hear_uncounted.new.self c.args.link c.args.datagram.now c.hear_uncounted.result c.hear_uncounted.ensures.ok c.hear_uncounted.ensures.kept c.hear_uncounted.ensures.same c.hear_uncounted.ensures.asking c.hear_uncounted.ensures.asks)
