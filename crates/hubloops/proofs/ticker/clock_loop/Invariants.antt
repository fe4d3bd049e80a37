use Rattle.hubloops.specs.Loops.{observed}
use Rattle.hubloops.proofs.Ticks.{TickedSoFar}
use Rattle.hubloops.proofs.ticker.clock_loop.Given as goal

abbrev pub invariant-turns : goal.invariant-turns
invariant-turns g l = TickedSoFar (observed (g.G.Gate.state l.fn.gate) (g.T.Clock.moments l.fn.clock) (g.T.Clock.calls l.fn.clock)) (observed (g.G.Gate.state l.gate) (g.T.Clock.moments l.clock) (g.T.Clock.calls l.clock)) l.left l.turns

abbrev pub decreases-turns : goal.decreases-turns
decreases-turns g l = l.left
