use Rattle.std.specs.Prelude.{false, Ok}
use Rattle.hubloops.specs.Calls.{Asked}
use Rattle.hubloops.proofs.Answering.{does_ask, does_not_ask}
use Rattle.hubloops.proofs.Turning.{made_of}
use Rattle.hubloops.proofs.alone.AloneGate.ask.Goals as goal

pub returns-clause-call : goal.returns-clause-call
returns-clause-call c = made_of (Asked c.args.link c.args.buf.now c.ask.new.buf (Ok c.in_ok-ask.field-0)) c.args.self.now c.self.inside.hub c.self.inside.quit c.self.inside.calls c.self.inside.idle c.self.inside.over c.saturating_add-self-inside.result c.ask.new.self false c.self.view_is c.saturating_add-self-inside.ensures (does_ask c.self.inside.hub c.ask.new.self c.args.link c.args.buf.now c.ask.new.buf c.in_ok-ask.field-0 c.in_ok-ask.ensures.asked c.in_ok-ask.ensures.asks c.in_ok-ask.ensures.bound c.ask.ensures.size c.in_ok-ask.ensures.rest c.ask.ensures.hub)

pub returns-in_err-ask-clause-call : goal.returns-in_err-ask-clause-call
returns-in_err-ask-clause-call c = made_of (Asked c.args.link c.args.buf.now c.ask.new.buf c.from_residual.result) c.args.self.now c.self.inside.hub c.self.inside.quit c.self.inside.calls c.self.inside.idle c.self.inside.over c.saturating_add-self-inside.result c.ask.new.self false c.self.view_is c.saturating_add-self-inside.ensures (does_not_ask _ c.self.inside.hub c.ask.new.self c.args.link c.args.buf.now c.ask.new.buf c.from_residual.result c.from_residual.ensures.1 c.in_err-ask.ensures.nothing c.in_err-ask.ensures.err)
