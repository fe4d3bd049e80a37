use Rattle.std.proofs.Common.{◌≡◌, length, drop}
use Rattle.rrset.specs.RecordSet.{same_rows}
use Rattle.rrset.proofs.comparing.same_rows.Given as goal

abbrev pub invariant-rows : goal.invariant-rows
invariant-rows l = (length l.first ≡ length l.second) × (same_rows (drop l.index l.first) (drop l.index l.second) ≡ same_rows l.first l.second)
