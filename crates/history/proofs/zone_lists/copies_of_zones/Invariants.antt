use Rattle.std.proofs.Common.{◌≡◌, map, take}
use Rattle.history.proofs.zone_lists.copies_of_zones.Given as goal

abbrev pub invariant-zones : goal.invariant-zones
invariant-zones l = map (λ z. z.state) l.copy.items ≡ map (λ z. z.state) (take l.zone-index l.zones)
