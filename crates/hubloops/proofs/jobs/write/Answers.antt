use Rattle.hubloops.specs.Loops.{observed}
use Rattle.hubloops.proofs.Leaving.{writes_left}
use Rattle.hubloops.proofs.jobs.write.Goals as goal

pub returns-clause-run : goal.returns-clause-run
returns-clause-run g c = (
  g.K.Sink.taken c.write_session-end.new.wire,
  g.K.Sink.calls c.write_session-end.new.wire,
  writes_left c.args.session (observed (g.G.Gate.state c.args.gate) (g.K.Sink.taken c.args.wire) (g.K.Sink.calls c.args.wire)) (g.G.Gate.state c.write_session-end.new.gate) (g.G.Gate.left c.leave-left.result) (g.K.Sink.taken c.write_session-end.new.wire) (g.K.Sink.calls c.write_session-end.new.wire) c.args.turns c.write_session-end.result c.leave-left.ensures c.write_session-end.ensures.run,
)
