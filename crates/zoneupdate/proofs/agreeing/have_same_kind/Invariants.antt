use Rattle.std.proofs.Common.{◌≡◌, drop}
use Rattle.rrset.specs.RecordSet.{only, same_keys}
use Rattle.zoneupdate.specs.Checking.{is_of_kind}
use Rattle.zoneupdate.proofs.agreeing.have_same_kind.Given as goal

abbrev pub invariant-entries : goal.invariant-entries
invariant-entries l = same_keys (only (is_of_kind l.kind) (drop l.key-index l.first)) (only (is_of_kind l.kind) l.others) ≡ same_keys (only (is_of_kind l.kind) l.first) (only (is_of_kind l.kind) l.second)
