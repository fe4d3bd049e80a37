-- The link has its rows, and the room that was made.
use Rattle.linkcache.specs.Links.{LinkKept}
use Rattle.history.proofs.Elements.{map-kept}
use Rattle.history.proofs.LinkSlots.{ready-step}
use Rattle.history.proofs.link_lists.step_at.Goals as goal

pub returns-clause-states : goal.returns-clause-states
returns-clause-states c = map-kept (λ (l : LinkKept). l.state) c.args.links.now c.args.index c.index-links-index.result c.step.new.link c.requires.within c.index-links-index.is c.step.ensures.state

pub returns-clause-room : goal.returns-clause-room
returns-clause-room c = ready-step c.args.links.now c.args.index c.step.new.link c.step.result c.requires.within c.step.ensures.room
