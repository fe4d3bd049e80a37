use Rattle.std.proofs.Common.{◌≡◌, length}
use Rattle.rrset.specs.RecordSet.{same_rows}
use Rattle.coalesce.proofs.form.same_records.Given as goal

abbrev pub invariant-records : goal.invariant-records
invariant-records l = same_rows l.rest l.others ≡ same_rows l.fn.rest l.fn.others

abbrev pub decreases-records : goal.decreases-records
decreases-records l = length l.rest
