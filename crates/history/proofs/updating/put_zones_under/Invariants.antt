use Rattle.std.proofs.Common.{◌≡◌, ◌++◌, filter, map, take}
use Rattle.zoneupdate.specs.KeptZones.{lies_under}
use Rattle.history.proofs.updating.put_zones_under.Given as goal

abbrev pub invariant-zones : goal.invariant-zones
invariant-zones l = l.names.items ≡ l.fn.names.items ++ filter (lies_under l.apex) (map (λ z. z.state.apex) (take l.zone-index l.zones))
