use Rattle.replay.specs.KeptWorlds.{seat_kept}
use Rattle.replay.proofs.worlds.Seats.{opened-makes}
use Rattle.replay.proofs.seats.open_one.Goals as goal

pub returns : goal.returns
returns c = opened-makes c.args.now (seat_kept c.args.seat.now) c.connected.new.self c.in_ok-connected.ensures.ok
