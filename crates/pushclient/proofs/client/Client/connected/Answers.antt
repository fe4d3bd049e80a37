-- The plain client's call.
use Rattle.pushclient.proofs.Calls.{moved, keeps, keeps_same}
use Rattle.pushclient.proofs.Dropping.{connected_stands}
use Rattle.pushclient.specs.Clients.{connected}
use Rattle.pushclient.specs.Kept.{kept_connected}
use Rattle.pushclient.proofs.client.Client.connected.Goals as goal

pub returns-clause-ok : goal.returns-clause-ok
returns-clause-ok c = moved (kept_connected c.args.now) (connected c.args.now) (λ k p s. connected_stands k p s c.args.now) c.args.self.now c.self.inside.keeping c.connected.new.self c.self.view_is c.in_ok-connected.ensures.ok

pub invariant_of-self : goal.invariant_of-self
invariant_of-self c = keeps_same c.self.inside.keeping c.connected.new.self c.in_err-connected.ensures.err c.self.invariant

pub invariant_of-self-2 : goal.invariant_of-self-2
invariant_of-self-2 c = keeps (kept_connected c.args.now) (connected c.args.now) (λ k p s. connected_stands k p s c.args.now) c.self.inside.keeping c.connected.new.self c.in_ok-connected.ensures.ok c.self.invariant
