-- One plan more is made.
use Rattle.std.proofs.Common.{subst}
use Rattle.history.specs.HeldPlans.{links_changed}
use Rattle.history.proofs.LinkSlots.{PlansLeft, link_states, first-ready, plans-more}
use Rattle.history.proofs.link_lists.apply_links.Goals as goal

pub apply_link-requires : goal.apply_link-requires
apply_link-requires c =
    let whole = links_changed c.args.plans.items (link_states c.args.links.now) in
    first-ready whole c.plans.links c.plans.index c.in-Some.plan c.next.new.self.rest.items (subst (PlansLeft whole c.plans.links c.plans.index) c.in-Some.ensures.steps.0 c.plans.invariant)

pub plans-preserved : goal.plans-preserved
plans-preserved c =
    plans-more (links_changed c.args.plans.items (link_states c.args.links.now)) c.plans.links c.apply_link.new.links c.plans.index c.in-Some.plan c.plans.plan-iterator.rest.items c.next.new.self.rest.items c.plans.invariant c.in-Some.ensures.steps.0
    c.apply_link.ensures.states c.apply_link.ensures.behind
