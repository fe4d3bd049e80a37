-- The link that is there has one reverse domain more.
use Rattle.history.proofs.LinkSlots.{apart-here, reversed-here}
use Rattle.history.proofs.link_lists.add_reverse_to.Goals as goal

pub add_reverse-requires-clause-apart : goal.add_reverse-requires-clause-apart
add_reverse-requires-clause-apart c = apart-here c.args.links.now c.args.index c.index-links-index.result c.args.domain c.requires.rows c.index-links-index.is c.requires.apart

pub returns-clause-ok : goal.returns-clause-ok
returns-clause-ok c = reversed-here c.args.links.now c.args.index c.index-links-index.result c.add_reverse.new.self c.args.domain c.add_reverse.result c.requires.rows c.index-links-index.is c.add_reverse.ensures.ok
