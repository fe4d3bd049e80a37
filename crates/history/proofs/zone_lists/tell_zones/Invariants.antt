use Rattle.std.proofs.Common.{drop}
use Rattle.zoneupdate.specs.KeptZones.{ZoneKept}
use Rattle.history.proofs.TellingNames.{AreNamed}
use Rattle.history.proofs.zone_lists.tell_zones.Given as goal

abbrev pub invariant-zones : goal.invariant-zones
invariant-zones l = AreNamed (λ (z : ZoneKept). z.state.apex) (drop l.zone-index l.zones) → AreNamed (λ (z : ZoneKept). z.state.apex) l.zones
