-- The plain client's call.
use Rattle.pushclient.proofs.Calls.{answered, keeps_answered, keeps_same}
use Rattle.pushclient.proofs.Standing.{reconfirm_stands}
use Rattle.pushclient.specs.Clients.{reconfirm}
use Rattle.pushclient.specs.Kept.{kept_reconfirm}
use Rattle.pushclient.proofs.client.Client.reconfirm.Goals as goal

pub returns-clause-ok : goal.returns-clause-ok
returns-clause-ok c = answered (λ k. kept_reconfirm k c.args.rr.now) (λ p. reconfirm p c.args.rr.now) (λ k p s. reconfirm_stands k p s c.args.rr.now) c.args.self.now c.self.inside.keeping c.reconfirm.new.self c.in_ok-reconfirm.field-0 c.self.view_is c.in_ok-reconfirm.ensures.said c.in_ok-reconfirm.ensures.ok

pub invariant_of-self : goal.invariant_of-self
invariant_of-self c = keeps_same c.self.inside.keeping c.reconfirm.new.self c.in_err-reconfirm.ensures.err c.self.invariant

pub invariant_of-self-2 : goal.invariant_of-self-2
invariant_of-self-2 c = keeps_answered (λ k. kept_reconfirm k c.args.rr.now) (λ p. reconfirm p c.args.rr.now) (λ k p s. reconfirm_stands k p s c.args.rr.now) c.self.inside.keeping c.reconfirm.new.self c.in_ok-reconfirm.ensures.ok c.self.invariant
