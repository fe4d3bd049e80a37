use Rattle.replay.specs.KeptWorlds.{seat_kept}
use Rattle.replay.proofs.worlds.Seats.{cuts-both}
use Rattle.replay.proofs.seats.cut_one.Goals as goal

pub returns : goal.returns
returns c = cuts-both c.args.hub.now c.end_session.new.hub (seat_kept c.args.seat.now) (seat_kept c.clear_one.new.seat) c.end_session.ensures c.clear_one.ensures
