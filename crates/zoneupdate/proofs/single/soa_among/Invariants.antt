use Rattle.std.proofs.Common.{◌≡◌, length}
use Rattle.zoneupdate.specs.Zones.{set_at}
use Rattle.zoneupdate.proofs.single.soa_among.Given as goal

abbrev pub invariant-rows : goal.invariant-rows
invariant-rows l = set_at l.name 6 l.rest ≡ set_at l.name 6 l.rows

abbrev pub decreases-rows : goal.decreases-rows
decreases-rows l = length l.rest
