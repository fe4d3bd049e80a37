use Rattle.std.proofs.Common.{◌≡◌, length, drop}
use Rattle.rrset.specs.RecordSet.{same_keys}
use Rattle.rrset.proofs.comparing.same_keys.Given as goal

abbrev pub invariant-rows : goal.invariant-rows
invariant-rows l = (length l.first ≡ length l.second) × (same_keys (drop l.index l.first) (drop l.index l.second) ≡ same_keys l.first l.second)
