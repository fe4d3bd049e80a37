use Rattle.std.proofs.Common.{◌≡◌, length, drop}
use Rattle.rrset.specs.RecordSet.{same_rows}
use Rattle.linkcache.specs.Rows.{keys_and_shown}
use Rattle.linkcache.proofs.moving.are_alike.Given as goal

abbrev pub invariant-rows : goal.invariant-rows
invariant-rows l = (length l.first ≡ length l.second) × (same_rows (keys_and_shown (drop l.index l.first)) (keys_and_shown (drop l.index l.second)) ≡ same_rows (keys_and_shown l.first) (keys_and_shown l.second))
