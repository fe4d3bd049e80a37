-- The hub stands for the plain one afterwards.
use Rattle.std.proofs.Common.{◌≤◌, None, Some, sym, subst, ◌∙◌}
use Rattle.pushserver.specs.Hubs.{connect, max_sessions}
use Rattle.pushserver.specs.HubState.{kept_of}
use Rattle.pushserver.specs.KeptHubs.{KeptHub}
use Rattle.pushserver.proofs.AddedEntries.{connect-many}
use Rattle.pushserver.proofs.Soundness.{sound}
use Rattle.pushserver.proofs.HubSteps.{keeps-hub, connect-stands, seen}
use Rattle.pushserver.proofs.hub.Hub.connect.Goals as goal

pub connect-requires : goal.connect-requires
connect-requires c = sound c.self.inside.keeping c.self.invariant

pub returns-in_default-clause-no_seat : goal.returns-in_default-clause-no_seat
returns-in_default-clause-no_seat c = λ err hub stands.
    connect-stands (kept_of c.self.inside.keeping) (kept_of c.connect.new.self) None (sym c.in_default.is ∙ c.in_ok-number.ensures.number) c.in_ok-number.ensures.hub hub (seen (kept_of c.self.inside.keeping) c.args.self.now c.self.view_is hub stands)

pub returns-in_default-clause-many : goal.returns-in_default-clause-many
returns-in_default-clause-many c = λ err.
    let is = sound c.self.inside.keeping c.self.invariant in
    subst (λ (k : KeptHub). max_sessions ≤ k.numbers_given) c.self.view_is (connect-many (kept_of c.self.inside.keeping) is.apart is.below (sym c.in_ok-number.ensures.number ∙ c.in_default.is))

pub invariant_of-self-2 : goal.invariant_of-self-2
invariant_of-self-2 c =
    keeps-hub c.self.inside.keeping c.connect.new.self (λ hub. (connect hub).1) c.connect.ensures.index c.connect.ensures.watched
    (λ hub stands. (connect-stands (kept_of c.self.inside.keeping) (kept_of c.connect.new.self) c.in_ok-number.field-0 c.in_ok-number.ensures.number c.in_ok-number.ensures.hub hub stands).1) c.self.invariant

pub returns-clause-ok : goal.returns-clause-ok
returns-clause-ok c = λ hub stands.
    connect-stands (kept_of c.self.inside.keeping) (kept_of c.connect.new.self) (Some c.in-Some.number) (sym c.in-Some.is ∙ c.in_ok-number.ensures.number) c.in_ok-number.ensures.hub hub (seen (kept_of c.self.inside.keeping) c.args.self.now c.self.view_is hub stands)
