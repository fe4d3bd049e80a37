use Rattle.std.proofs.Common.{refl}
use Rattle.replay.specs.World.{cut_seat}
use Rattle.replay.specs.KeptSeats.{HasCut}
use Rattle.replay.proofs.worlds.Seats.{calls-made}
use Rattle.replay.proofs.seats.cut_at.Goals as goal

pub returns : goal.returns
returns c = calls-made (HasCut c.args.hub.now c.cut_one.new.hub) cut_seat c.args.seats.now _ c.args.place c.index-seats-place.result c.cut_one.new.seat c.requires c.index-seats-place.is refl c.cut_one.ensures
