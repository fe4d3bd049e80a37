use Rattle.std.proofs.Common.{refl}
use Rattle.replay.specs.KeptSeats.{HasTimed, timed_seat}
use Rattle.replay.proofs.worlds.Seats.{calls-made}
use Rattle.replay.proofs.seats.moment_at.Goals as goal

pub returns : goal.returns
returns c =
    let closing = c.in_ok-closing.closing in
    calls-made (HasTimed c.args.now closing c.args.hub.now c.time_one.new.hub) (timed_seat c.args.now closing) c.args.seats.now _ c.args.place c.index-seats-place.result c.time_one.new.seat c.requires c.index-seats-place.is refl c.in_ok-closing.ensures
