use Rattle.std.proofs.Common.{◌≡◌, take}
use Rattle.rrset.specs.RecordSet.{size_of}
use Rattle.rrset.specs.Tables.{counted}
use Rattle.rrset.proofs.table.Table+Shown.size_at.Given as goal

abbrev pub invariant-entries : goal.invariant-entries
invariant-entries l = l.size ≡ counted (size_of (take l.entry-index l.entry-items))
