use Rattle.std.proofs.Common.{◌≡◌, [], drop, map}
use Rattle.std.specs.Prelude.{fold}
use Rattle.zoneupdate.specs.Singles.{with_record_of}
use Rattle.zoneupdate.specs.Updates.{with_counted_ttl}
use Rattle.zoneupdate.proofs.sought.sought.Given as goal

abbrev pub invariant-changes : goal.invariant-changes
invariant-changes l = fold (with_record_of l.rows.rows) l.part.rows (map with_counted_ttl (drop l.rr-index l.rr-items)) ≡ fold (with_record_of l.rows.rows) [] (map with_counted_ttl l.changes)
