-- One link more tells its names.
use Rattle.history.proofs.TellingNames.{links-turn}
use Rattle.history.proofs.link_lists.tell_links.Goals as goal

pub links-preserved : goal.links-preserved
links-preserved c = links-turn c.args.links.now c.links.link-index c.link-item.result c.links-test.true c.link-item.is c.rows.ensures.link c.links.invariant
