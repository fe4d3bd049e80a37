use Rattle.std.proofs.Common.{◌≡◌, ◌++◌, drop, map}
use Rattle.zoneupdate.specs.Zones.{set_at}
use Rattle.zoneupdate.specs.Changing.{risen_entry}
use Rattle.zoneupdate.proofs.serial.risen_soas.Given as goal

abbrev pub invariant-entries : goal.invariant-entries
invariant-entries l = l.soas.items ++ map risen_entry (set_at l.name 6 (drop l.entry-index l.entries)) ≡ map risen_entry (set_at l.name 6 l.entries)
