use Rattle.std.proofs.Common.{◌≡◌}
use Rattle.rrset.specs.RecordSet.{union}
use Rattle.rrset.specs.Tables.{HaveLowerOwners}
use Rattle.nametable.proofs.uniting.put_entries.Given as goal

abbrev pub invariant-entries : goal.invariant-entries
invariant-entries l = HaveLowerOwners l.entry-iterator.rest.items × (union l.rows.rows l.entry-iterator.rest.items ≡ union l.fn.rows.rows l.fn.entries.items)
