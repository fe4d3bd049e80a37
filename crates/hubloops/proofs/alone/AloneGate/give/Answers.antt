use Rattle.hubloops.specs.Calls.{Gave}
use Rattle.hubloops.proofs.Answering.{does_give}
use Rattle.hubloops.proofs.Turning.{made_of}
use Rattle.hubloops.proofs.alone.AloneGate.give.Goals as goal

pub returns-clause-call : goal.returns-clause-call
returns-clause-call c = made_of (Gave c.args.session c.args.buf.now c.give_uncounted-answer.new.buf c.give_uncounted-answer.result) c.args.self.now c.self.inside.hub c.self.inside.quit c.self.inside.calls c.self.inside.idle c.self.inside.over c.saturating_add-self-inside.result c.give_uncounted-answer.new.self c.has_nothing-self-inside.result c.self.view_is c.saturating_add-self-inside.ensures (does_give c.self.inside.hub c.give_uncounted-answer.new.self c.args.session c.args.buf.now c.give_uncounted-answer.new.buf c.give_uncounted-answer.result c.give_uncounted-answer.ensures.ok c.give_uncounted-answer.ensures.memory c.give_uncounted-answer.ensures.kept c.give_uncounted-answer.ensures.same c.give_uncounted-answer.ensures.asking c.give_uncounted-answer.ensures.asks)
