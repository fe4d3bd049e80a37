use Rattle.replay.specs.KeptWorlds.{seat_kept}
use Rattle.replay.proofs.passings.Passings.{round-turns}
use Rattle.replay.proofs.settling.round.Goals as goal

pub returns : goal.returns
returns c =
    let hub = c.args.hub.now in
    round-turns hub c.up-taken.new.hub c.emit_down.new.hub c.args.session (seat_kept c.args.seat.now) (seat_kept c.say.new.seat) (seat_kept c.up-taken.new.seat) (seat_kept c.emit_down.new.seat) (seat_kept c.down.new.seat)
    c.in_ok-said.said c.up-taken.result c.in_ok-given.given c.in_ok-came.came c.in_ok-given.emission c.has_moved.result (c.in_ok-said.ensures hub) c.up-taken.ensures c.in_ok-given.ensures (c.in_ok-came.ensures c.emit_down.new.hub) c.has_moved.ensures
