-- The plain client's call.
use Rattle.pushclient.proofs.Calls.{moved, keeps}
use Rattle.pushclient.proofs.Standing.{take_stands}
use Rattle.pushclient.specs.Clients.{take_octets}
use Rattle.pushclient.specs.Kept.{kept_take}
use Rattle.pushclient.proofs.client.Client.take.Goals as goal

pub returns-clause-taken : goal.returns-clause-taken
returns-clause-taken c = moved (kept_take c.args.piece.now) (take_octets c.args.piece.now) (λ k p s. take_stands k p s c.args.piece.now) c.args.self.now c.self.inside.keeping c.take.new.self c.self.view_is c.take.ensures.taken

pub invariant_of-self : goal.invariant_of-self
invariant_of-self c = keeps (kept_take c.args.piece.now) (take_octets c.args.piece.now) (λ k p s. take_stands k p s c.args.piece.now) c.self.inside.keeping c.take.new.self c.take.ensures.taken c.self.invariant
