-- The plain client's call.
use Rattle.pushclient.proofs.Calls.{answered, keeps_answered, keeps_same}
use Rattle.pushclient.proofs.Dropping.{unsubscribe_stands}
use Rattle.pushclient.specs.Clients.{unsubscribe}
use Rattle.pushclient.specs.Kept.{kept_unsubscribe}
use Rattle.pushclient.proofs.client.Client.unsubscribe.Goals as goal

pub returns-clause-ok : goal.returns-clause-ok
returns-clause-ok c = answered (λ k. kept_unsubscribe k c.args.question.now) (λ p. unsubscribe p c.args.question.now) (λ k p s. unsubscribe_stands k p s c.args.question.now) c.args.self.now c.self.inside.keeping c.unsubscribe.new.self c.in_ok-unsubscribe.field-0 c.self.view_is c.in_ok-unsubscribe.ensures.wanted c.in_ok-unsubscribe.ensures.ok

pub invariant_of-self : goal.invariant_of-self
invariant_of-self c = keeps_same c.self.inside.keeping c.unsubscribe.new.self c.in_err-unsubscribe.ensures.err c.self.invariant

pub invariant_of-self-2 : goal.invariant_of-self-2
invariant_of-self-2 c = keeps_answered (λ k. kept_unsubscribe k c.args.question.now) (λ p. unsubscribe p c.args.question.now) (λ k p s. unsubscribe_stands k p s c.args.question.now) c.self.inside.keeping c.unsubscribe.new.self c.in_ok-unsubscribe.ensures.ok c.self.invariant
