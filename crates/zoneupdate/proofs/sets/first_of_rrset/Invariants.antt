use Rattle.std.proofs.Common.{◌≡◌, drop}
use Rattle.rrset.specs.RecordSet.{is_of_rrset}
use Rattle.zoneupdate.proofs.OneName.{first_of}
use Rattle.zoneupdate.proofs.sets.first_of_rrset.Given as goal

abbrev pub invariant-entries : goal.invariant-entries
invariant-entries l = first_of (is_of_rrset l.fn.owner 1 l.fn.kind) (drop l.entry-index l.fn.entries) ≡ first_of (is_of_rrset l.fn.owner 1 l.fn.kind) l.fn.entries
