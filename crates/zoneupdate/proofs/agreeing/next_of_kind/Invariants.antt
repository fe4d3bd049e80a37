use Rattle.std.proofs.Common.{◌≡◌, length}
use Rattle.rrset.specs.RecordSet.{only}
use Rattle.zoneupdate.specs.Checking.{is_of_kind}
use Rattle.zoneupdate.proofs.agreeing.next_of_kind.Given as goal

abbrev pub invariant-entries : goal.invariant-entries
invariant-entries l = only (is_of_kind l.kind) l.rest ≡ only (is_of_kind l.kind) l.entries

abbrev pub decreases-entries : goal.decreases-entries
decreases-entries l = length l.rest
