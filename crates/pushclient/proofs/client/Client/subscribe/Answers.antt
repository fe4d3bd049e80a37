-- The plain client's call.
use Rattle.pushclient.proofs.Calls.{answered, keeps_answered, keeps_same}
use Rattle.pushclient.proofs.AskingAgain.{subscribe_stands}
use Rattle.pushclient.specs.Clients.{subscribe}
use Rattle.pushclient.specs.Kept.{kept_subscribe}
use Rattle.pushclient.proofs.client.Client.subscribe.Goals as goal

pub returns-clause-ok : goal.returns-clause-ok
returns-clause-ok c = answered (λ k. kept_subscribe k c.args.question) (λ p. subscribe p c.args.question) (λ k p s. subscribe_stands k p s c.args.question) c.args.self.now c.self.inside.keeping c.subscribe.new.self c.in_ok-subscribe.field-0 c.self.view_is c.in_ok-subscribe.ensures.asked c.in_ok-subscribe.ensures.ok

pub invariant_of-self : goal.invariant_of-self
invariant_of-self c = keeps_same c.self.inside.keeping c.subscribe.new.self c.in_err-subscribe.ensures.err c.self.invariant

pub invariant_of-self-2 : goal.invariant_of-self-2
invariant_of-self-2 c = keeps_answered (λ k. kept_subscribe k c.args.question) (λ p. subscribe p c.args.question) (λ k p s. subscribe_stands k p s c.args.question) c.self.inside.keeping c.subscribe.new.self c.in_ok-subscribe.ensures.ok c.self.invariant
