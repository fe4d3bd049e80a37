-- The hub stands for the plain one afterwards.
use Rattle.std.proofs.Common.{arith}
use Rattle.pushserver.specs.Hubs.{take_octets}
use Rattle.pushserver.specs.HubState.{kept_of}
use Rattle.pushserver.proofs.Observed.{are_octets}
use Rattle.pushserver.proofs.Soundness.{sound}
use Rattle.pushserver.proofs.HubSteps.{keeps-hub, take-stands, seen}
use Rattle.pushserver.proofs.hub.Hub.take.Goals as goal

pub take-requires : goal.take-requires
take-requires c = sound c.self.inside.keeping c.self.invariant

pub invariant_of-self : goal.invariant_of-self
invariant_of-self c =
    let octets = are_octets c.args.piece.now (λ i h. omega (arith, c.type_inv.piece i)) in
    keeps-hub c.self.inside.keeping c.take.new.self (λ hub. take_octets hub c.args.session c.args.piece.now) c.take.ensures.index c.take.ensures.watched
    (λ hub stands. (take-stands (kept_of c.self.inside.keeping) (kept_of c.take.new.self) c.args.session c.args.piece.now c.take.result octets c.take.ensures.count c.take.ensures.hub hub stands).1) c.self.invariant

pub returns-clause-count : goal.returns-clause-count
returns-clause-count c = λ hub stands.
    (take-stands (kept_of c.self.inside.keeping) (kept_of c.take.new.self) c.args.session c.args.piece.now c.take.result (are_octets c.args.piece.now (λ i h. omega (arith, c.type_inv.piece i))) c.take.ensures.count c.take.ensures.hub hub (seen (kept_of c.self.inside.keeping) c.args.self.now c.self.view_is hub stands)).0

pub returns-clause-hub : goal.returns-clause-hub
returns-clause-hub c = λ hub stands.
    (take-stands (kept_of c.self.inside.keeping) (kept_of c.take.new.self) c.args.session c.args.piece.now c.take.result (are_octets c.args.piece.now (λ i h. omega (arith, c.type_inv.piece i))) c.take.ensures.count c.take.ensures.hub hub (seen (kept_of c.self.inside.keeping) c.args.self.now c.self.view_is hub stands)).1

pub returns-clause-kept : goal.returns-clause-kept
returns-clause-kept c = rw (← c.self.view_is) c.take.ensures.hub
