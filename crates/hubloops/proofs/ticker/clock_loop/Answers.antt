use Rattle.hubloops.specs.Loops.{observed}
use Rattle.hubloops.proofs.Ticks.{ticks_begun, ticks_more, ticks_ended}
use Rattle.hubloops.proofs.ticker.clock_loop.Goals as goal

pub turns-init : goal.turns-init
turns-init g c = ticks_begun (observed (g.G.Gate.state c.args.gate.now) (g.T.Clock.moments c.args.clock.now) (g.T.Clock.calls c.args.clock.now)) c.args.turns

pub turns-preserved : goal.turns-preserved
turns-preserved g c = ticks_more
    (observed (g.G.Gate.state c.args.gate.now) (g.T.Clock.moments c.args.clock.now) (g.T.Clock.calls c.args.clock.now))
    (observed (g.G.Gate.state c.turns.gate) (g.T.Clock.moments c.turns.clock) (g.T.Clock.calls c.turns.clock))
    (observed (g.G.Gate.state c.tick_on.new.gate) (g.T.Clock.moments c.tick_on.new.clock) (g.T.Clock.calls c.tick_on.new.clock))
    c.turns.left c.in-Ok.less c.args.turns c.turns.invariant c.in-Ok.ensures

pub returns-in-Err : goal.returns-in-Err
returns-in-Err g c = ticks_ended
    (observed (g.G.Gate.state c.args.gate.now) (g.T.Clock.moments c.args.clock.now) (g.T.Clock.calls c.args.clock.now))
    (observed (g.G.Gate.state c.turns.gate) (g.T.Clock.moments c.turns.clock) (g.T.Clock.calls c.turns.clock))
    (observed (g.G.Gate.state c.tick_on.new.gate) (g.T.Clock.moments c.tick_on.new.clock) (g.T.Clock.calls c.tick_on.new.clock))
    c.turns.left c.args.turns c.in-Err.end c.turns.invariant c.in-Err.ensures
