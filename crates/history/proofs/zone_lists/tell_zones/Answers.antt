-- Each name is one.
use Rattle.zoneupdate.specs.KeptZones.{ZoneKept}
use Rattle.history.proofs.TellingNames.{named-turn}
use Rattle.history.proofs.zone_lists.tell_zones.Goals as goal

pub zones-preserved : goal.zones-preserved
zones-preserved c = named-turn (λ (z : ZoneKept). z.state.apex) c.args.zones.now c.zones.zone-index c.zone-item.result c.apex.result.now c.zones-test.true c.zone-item.is c.apex.ensures c.octets.ensures.name c.zones.invariant
