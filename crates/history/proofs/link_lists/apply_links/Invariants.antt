use Rattle.history.specs.HeldPlans.{links_changed}
use Rattle.history.proofs.LinkSlots.{PlansLeft, link_states}
use Rattle.history.proofs.link_lists.apply_links.Given as goal

abbrev pub invariant-plans : goal.invariant-plans
invariant-plans l = PlansLeft (links_changed l.fn.plans.items (link_states l.fn.links)) l.links l.index l.plan-iterator.rest.items
