use Rattle.std.proofs.Common.{◌≡◌, take}
use Rattle.rrset.specs.RecordSet.{size_of}
use Rattle.rrset.specs.Tables.{counted}
use Rattle.zoneupdate.proofs.planning.size_of.Given as goal

abbrev pub invariant-entries : goal.invariant-entries
invariant-entries l = l.size ≡ counted (size_of (take l.entry-index l.entries))
