use Rattle.std.proofs.Common.{true}
use Rattle.zoneupdate.proofs.KeptZone.{zone_parts}
use Rattle.zoneupdate.proofs.update_check.planned.Goals as goal

pub planned_part-requires-clause-set : goal.planned_part-requires-clause-set
planned_part-requires-clause-set c = (zone_parts (record { apex = c.args.apex.now; writable = true; rows = c.args.rows.now.rows }) c.requires.zone).set
