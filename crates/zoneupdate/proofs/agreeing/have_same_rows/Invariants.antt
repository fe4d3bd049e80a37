use Rattle.std.proofs.Common.{◌≡◌, drop}
use Rattle.rrset.specs.RecordSet.{same_rows}
use Rattle.zoneupdate.specs.Zones.{set_at}
use Rattle.zoneupdate.proofs.agreeing.have_same_rows.Given as goal

abbrev pub invariant-entries : goal.invariant-entries
invariant-entries l = same_rows (set_at l.owner l.kind (drop l.entry-index l.first)) (set_at l.owner l.kind l.others) ≡ same_rows (set_at l.owner l.kind l.first) (set_at l.owner l.kind l.second)
