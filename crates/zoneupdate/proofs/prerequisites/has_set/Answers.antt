use Rattle.std.proofs.Common.{◌∙◌}
use Rattle.zoneupdate.proofs.SetPlaces.{any-among, named-rising, named-lower}
use Rattle.zoneupdate.proofs.prerequisites.has_set.Goals as goal

pub set_among-requires-clause-order : goal.set_among-requires-clause-order
set_among-requires-clause-order c = named-rising c.args.owner.now c.args.rows.now.rows c.at.result.now c.requires c.at.ensures

pub set_among-requires-clause-lower : goal.set_among-requires-clause-lower
set_among-requires-clause-lower c = named-lower c.args.owner.now c.args.rows.now.rows c.at.result.now c.requires c.at.ensures

pub returns : goal.returns
returns c = c.has_kind.ensures ∙ any-among c.args.owner.now c.args.kind c.args.rows.now.rows c.at.result.now c.set_among.result.now c.at.ensures c.set_among.ensures
