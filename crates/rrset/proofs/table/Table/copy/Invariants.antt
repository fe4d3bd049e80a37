use Rattle.std.proofs.Common.{◌≡◌, take}
use Rattle.rrset.proofs.table.Table.copy.Given as goal

abbrev pub invariant-entries : goal.invariant-entries
invariant-entries g l = l.entries.items ≡ take l.entry-index l.entry-items
