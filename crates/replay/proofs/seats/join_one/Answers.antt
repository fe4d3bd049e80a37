use Rattle.replay.specs.KeptWorlds.{seat_kept}
use Rattle.replay.proofs.worlds.Seats.{joined-makes}
use Rattle.replay.proofs.seats.join_one.Goals as goal

pub returns : goal.returns
returns c = joined-makes c.args.now c.args.session (seat_kept c.args.seat.now) (seat_kept c.open_one.new.seat) c.in_ok-open_one.ensures
