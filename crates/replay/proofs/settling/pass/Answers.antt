use Rattle.replay.specs.KeptWorlds.{seat_kept}
use Rattle.scripts.specs.declared.line.Way.TheVariants as ways
use Rattle.replay.proofs.passings.Passings.{way-passes, way-settles}
use Rattle.replay.proofs.settling.pass.Goals as goal

pub returns-in_ok-count-in-Say : goal.returns-in_ok-count-in-Say
returns-in_ok-count-in-Say c = way-passes c.args.way (ways.Say c.in-Say.most) c.args.session c.args.hub.now c.args.hub.now (seat_kept c.args.seat.now) (seat_kept c.say.new.seat) _ _ _ c.in-Say.is (c.in_ok-count-in-Say.ensures c.args.hub.now)

pub returns-in-Up : goal.returns-in-Up
returns-in-Up c = way-passes c.args.way (ways.Up c.in-Up.most) c.args.session c.args.hub.now c.up-count.new.hub (seat_kept c.args.seat.now) (seat_kept c.up-count.new.seat) _ _ _ c.in-Up.is c.up-count.ensures

pub returns-in_ok-count-in-Emit : goal.returns-in_ok-count-in-Emit
returns-in_ok-count-in-Emit c = way-passes c.args.way (ways.Emit c.in-Emit.most) c.args.session c.args.hub.now c.emit_down.new.hub (seat_kept c.args.seat.now) (seat_kept c.emit_down.new.seat) _ _ _ c.in-Emit.is c.in_ok-count-in-Emit.ensures

pub returns-in_ok-count-in-Down : goal.returns-in_ok-count-in-Down
returns-in_ok-count-in-Down c = way-passes c.args.way (ways.Down c.in-Down.most) c.args.session c.args.hub.now c.args.hub.now (seat_kept c.args.seat.now) (seat_kept c.down.new.seat) _ _ _ c.in-Down.is (c.in_ok-count-in-Down.ensures c.args.hub.now)

pub returns-in_ok-over-in-Settle : goal.returns-in_ok-over-in-Settle
returns-in_ok-over-in-Settle c = way-settles c.args.way c.args.session c.args.hub.now c.settle.new.hub (seat_kept c.args.seat.now) (seat_kept c.settle.new.seat) _ c.in-Settle.is c.in_ok-over-in-Settle.ensures
