-- The link has its rows, and the room that was made.
use Rattle.linkcache.specs.Links.{LinkKept}
use Rattle.history.proofs.Elements.{map-kept}
use Rattle.history.proofs.LinkSlots.{ready-moment}
use Rattle.history.proofs.link_lists.moment_at.Goals as goal

pub returns-clause-states : goal.returns-clause-states
returns-clause-states c = map-kept (λ (l : LinkKept). l.state) c.args.links.now c.args.index c.index-links-index.result c.moment.new.self c.requires c.index-links-index.is c.moment.ensures.state

pub returns-clause-room : goal.returns-clause-room
returns-clause-room c = ready-moment c.args.links.now c.args.index c.index-links-index.result c.moment.new.self c.args.now c.moment.result c.requires c.moment.ensures.state c.moment.ensures.plan c.moment.ensures.room
