use Rattle.std.proofs.Common.{◌≡◌}
use Rattle.rrset.specs.RecordSet.{union}
use Rattle.rrset.specs.Tables.{HaveLowerOwners}
use Rattle.zoneupdate.proofs.serial.put_entries.Given as goal

abbrev pub invariant-entries : goal.invariant-entries
invariant-entries l = HaveLowerOwners l.entry-iterator.rest.items × (union l.work.rows l.entry-iterator.rest.items ≡ union l.fn.work.rows l.fn.entries.items)
