-- The zone has the records that the plan leads to.
use Rattle.history.proofs.ZoneSlots.{zone-applied}
use Rattle.history.proofs.zone_lists.apply_zone.Goals as goal

pub returns : goal.returns
returns c = zone-applied c.args.zones.now c.args.index c.index-zones-index.result c.index-zones-index-2.result c.apply.new.self c.args.plan c.requires c.index-zones-index-2.is c.rows.ensures.kept c.apply.ensures
