-- The zone has its records, and the room that was made.
use Rattle.zoneupdate.specs.KeptZones.{ZoneKept}
use Rattle.history.proofs.Elements.{map-kept}
use Rattle.history.proofs.ZoneSlots.{room-here}
use Rattle.history.proofs.updating.check_at.Goals as goal

pub returns-clause-states : goal.returns-clause-states
returns-clause-states c = map-kept (λ (z : ZoneKept). z.state) c.args.zones.now c.args.index c.index-zones-index.result c.check_anew.new.zone c.requires c.index-zones-index.is c.check_anew.ensures.state

pub returns-clause-room : goal.returns-clause-room
returns-clause-room c = room-here c.args.zones.now c.args.index c.check_anew.new.zone c.check_anew.result c.requires c.check_anew.ensures.room
