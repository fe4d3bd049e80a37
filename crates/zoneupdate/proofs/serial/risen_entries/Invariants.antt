use Rattle.std.proofs.Common.{◌≡◌, ◌++◌, drop, map}
use Rattle.zoneupdate.specs.Changing.{risen_entry}
use Rattle.zoneupdate.proofs.serial.risen_entries.Given as goal

abbrev pub invariant-soas : goal.invariant-soas
invariant-soas l = l.risen.items ++ map risen_entry (drop l.soa-index l.soas) ≡ map risen_entry l.soas
