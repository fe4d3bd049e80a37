-- The homes keep their names.
use Rattle.std.proofs.Common.{refl, sym, subst, ◌∙◌}
use Rattle.std.proofs.lemmas.List.{with_items_is}
use Rattle.history.specs.Kept.{HomesKept, states_at}
use Rattle.history.specs.HeldPlans.{AreKept, led_to}
use Rattle.history.proofs.KeptHomes.{kept-led}
use Rattle.history.proofs.homes.Homes.apply.Goals as goal

pub invariant_of-self : goal.invariant_of-self
invariant_of-self c =
    let old : HomesKept = record { zones = c.self.inside.zones.items; links = c.self.inside.links.items; names = c.self.inside.names.items } in
    let new : HomesKept = record { zones = c.apply_plan.new.zones; links = c.apply_plan.new.links; names = c.self.inside.names.items } in
    let zones = with_items_is c.self.inside.zones c.apply_plan.new.zones (c.apply_plan.auto.zones ∙ c.deref_mut.ensures.len) in
    let links = with_items_is c.self.inside.links c.apply_plan.new.links (c.apply_plan.auto.links ∙ c.deref_mut-2.ensures.len) in
    let led = c.apply_plan.ensures ∙ (λ i. led_to (states_at (c.deref_mut.ensures.value i) (c.deref_mut-2.ensures.value i) c.args.moment) c.args.plan) in
    subst AreKept (λ i. record { zones = sym zones i; links = sym links i; names = c.self.inside.names.items }) (kept-led old new c.args.moment c.apply_plan.result c.args.plan c.self.invariant refl led)
