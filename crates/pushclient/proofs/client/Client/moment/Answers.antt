-- The plain client's call.
use Rattle.pushclient.proofs.Calls.{moved, keeps, keeps_same}
use Rattle.pushclient.proofs.Standing.{moment_stands}
use Rattle.pushclient.specs.Steps.{moment}
use Rattle.pushclient.specs.Kept.{kept_moment}
use Rattle.pushclient.proofs.client.Client.moment.Goals as goal

pub returns-clause-ok : goal.returns-clause-ok
returns-clause-ok c = moved (λ k. kept_moment k c.args.now) (λ p. moment p c.args.now) (λ k p s. moment_stands k p s c.args.now) c.args.self.now c.self.inside.keeping c.moment.new.self c.self.view_is c.in_ok-moment.ensures.ok

pub invariant_of-self : goal.invariant_of-self
invariant_of-self c = keeps_same c.self.inside.keeping c.moment.new.self c.in_err-moment.ensures.err c.self.invariant

pub invariant_of-self-2 : goal.invariant_of-self-2
invariant_of-self-2 c = keeps (λ k. kept_moment k c.args.now) (λ p. moment p c.args.now) (λ k p s. moment_stands k p s c.args.now) c.self.inside.keeping c.moment.new.self c.in_ok-moment.ensures.ok c.self.invariant
