use Rattle.std.proofs.Common.{◌≡◌, drop, map, fold}
use Rattle.zoneupdate.specs.Updates.{changed_by, with_counted_ttl}
use Rattle.zoneupdate.proofs.changing.change_all.Given as goal

abbrev pub invariant-changes : goal.invariant-changes
invariant-changes l = fold (changed_by l.fn.apex) l.work.rows (map with_counted_ttl (drop l.rr-index l.list)) ≡ fold (changed_by l.fn.apex) l.fn.work.rows (map with_counted_ttl l.fn.changes)
