use Rattle.zoneupdate.proofs.SetPlaces.{same-among, named-rising, named-lower}
use Rattle.zoneupdate.proofs.agreeing.have_same_set.Goals as goal

pub set_among-second-requires-clause-order : goal.set_among-second-requires-clause-order
set_among-second-requires-clause-order c = named-rising c.args.key.now.owner c.args.rows.now.rows c.at.result.now c.requires c.at.ensures

pub set_among-second-requires-clause-lower : goal.set_among-second-requires-clause-lower
set_among-second-requires-clause-lower c = named-lower c.args.key.now.owner c.args.rows.now.rows c.at.result.now c.requires c.at.ensures

pub returns : goal.returns
returns c = same-among c.args.key.now.owner c.args.key.now.kind c.args.wanted.now.rows c.entries.result.now c.args.rows.now.rows c.at.result.now c.set_among-first.result.now c.set_among-second.result.now
    c.have_same_kind.result c.entries.ensures.rows c.at.ensures c.set_among-first.ensures c.set_among-second.ensures c.have_same_kind.ensures
