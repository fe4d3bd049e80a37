use Rattle.replay.proofs.worlds.Seats.{tells-connected}
use Rattle.replay.proofs.seats.is_connected_at.Goals as goal

pub returns : goal.returns
returns c = tells-connected c.args.seats.now c.args.place c.index-seats-place.result c.is_connected.result c.requires c.is_connected.ensures
