-- The plain client's call.
use Rattle.pushclient.proofs.Calls.{answered, keeps_answered, keeps_same}
use Rattle.pushclient.proofs.Hears.{heard_stands}
use Rattle.pushclient.specs.HeardMessages.{kept_heard}
use Rattle.pushclient.specs.Steps.{step}
use Rattle.pushclient.proofs.client.Client.step.Goals as goal

pub returns-clause-ok : goal.returns-clause-ok
returns-clause-ok c = answered kept_heard step heard_stands c.args.self.now c.self.inside.keeping c.step.new.self c.in_ok-step.field-0 c.self.view_is c.in_ok-step.ensures.told c.in_ok-step.ensures.ok

pub invariant_of-self : goal.invariant_of-self
invariant_of-self c = keeps_same c.self.inside.keeping c.step.new.self c.in_err-step.ensures.err c.self.invariant

pub invariant_of-self-2 : goal.invariant_of-self-2
invariant_of-self-2 c = keeps_answered kept_heard step heard_stands c.self.inside.keeping c.step.new.self c.in_ok-step.ensures.ok c.self.invariant
