use Rattle.std.proofs.Common.{◌≡◌, drop, map, filter}
use Rattle.std.specs.Prelude.{fold}
use Rattle.rrset.specs.RecordSet.{put_rr, set_of}
use Rattle.zoneupdate.specs.Checking.{is_in}
use Rattle.zoneupdate.specs.Updates.{with_counted_ttl}
use Rattle.zoneupdate.proofs.agreeing.wanted.Given as goal

abbrev pub invariant-prereqs : goal.invariant-prereqs
invariant-prereqs l = fold put_rr l.table.rows (filter is_in (map with_counted_ttl (drop l.rr-index l.rr-items))) ≡ set_of (filter is_in (map with_counted_ttl l.prereqs))
