use Rattle.hubloops.proofs.Answering.{does_ask, does_not_ask}
use Rattle.hublock.proofs.locked.Locked.ask.Goals as goal

pub returns-clause-call : goal.returns-clause-call
returns-clause-call g c = rw (← c.self.view_is) (does_ask c.self.inside.hub c.ask.new.self c.args.link c.args.buf.now c.ask.new.buf c.in_ok-ask.field-0 c.in_ok-ask.ensures.asked c.in_ok-ask.ensures.asks c.in_ok-ask.ensures.bound c.ask.ensures.size c.in_ok-ask.ensures.rest c.ask.ensures.hub)

pub returns-in_err-ask-clause-call : goal.returns-in_err-ask-clause-call
returns-in_err-ask-clause-call g c = rw (← c.self.view_is) (does_not_ask _ c.self.inside.hub c.ask.new.self c.args.link c.args.buf.now c.ask.new.buf c.from_residual.result c.from_residual.ensures.1 c.in_err-ask.ensures.nothing c.in_err-ask.ensures.err)
