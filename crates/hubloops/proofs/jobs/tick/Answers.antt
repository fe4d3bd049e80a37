use Rattle.hubloops.specs.Loops.{observed}
use Rattle.hubloops.proofs.Leaving.{ticks_left}
use Rattle.hubloops.proofs.jobs.tick.Goals as goal

pub returns-clause-run : goal.returns-clause-run
returns-clause-run g c = (
  g.T.Clock.moments c.hand_moments-end.new.clock,
  g.T.Clock.calls c.hand_moments-end.new.clock,
  ticks_left (observed (g.G.Gate.state c.args.gate) (g.T.Clock.moments c.args.clock) (g.T.Clock.calls c.args.clock)) (g.G.Gate.state c.hand_moments-end.new.gate) (g.G.Gate.left c.leave-left.result) (g.T.Clock.moments c.hand_moments-end.new.clock) (g.T.Clock.calls c.hand_moments-end.new.clock) c.args.turns c.hand_moments-end.result c.leave-left.ensures c.hand_moments-end.ensures.run,
)
