use Rattle.replay.specs.KeptWorlds.{seat_kept}
use Rattle.replay.proofs.worlds.Seats.{timed-makes}
use Rattle.replay.proofs.seats.time_one.Goals as goal

pub returns : goal.returns
returns c = timed-makes c.args.now c.args.hub.now (seat_kept c.args.seat.now) c.moment.new.self c.finish.result c.in_ok-moment.ensures.ok c.finish.new.hub (seat_kept c.finish.new.seat) c.finish.ensures
