-- The link has the rows that the plan leads to.
use Rattle.linkcache.specs.Links.{LinkKept}
use Rattle.history.specs.HeldPlans.{link_changed}
use Rattle.history.proofs.Elements.{map-changed}
use Rattle.history.proofs.LinkSlots.{ready-within}
use Rattle.history.proofs.link_lists.apply_link.Goals as goal

pub returns-clause-states : goal.returns-clause-states
returns-clause-states c =
    map-changed (λ (l : LinkKept). l.state) (link_changed c.args.plan) c.args.links.now c.args.index c.index-links-index.result c.apply.new.self (ready-within c.args.links.now c.args.index c.args.plan c.requires) c.index-links-index.is c.apply.ensures
