use Rattle.hubloops.specs.Loops.{observed}
use Rattle.hubloops.proofs.Leaving.{writes_flushed}
use Rattle.hubloops.proofs.runs.write_session.Goals as goal

pub returns-clause-run : goal.returns-clause-run
returns-clause-run g c = writes_flushed c.args.session (observed (g.G.Gate.state c.args.gate.now) (g.K.Sink.taken c.args.wire.now) (g.K.Sink.calls c.args.wire.now)) (g.G.Gate.state c.write_loop-end.new.gate) (g.G.Gate.state c.end.new.self) (g.G.Gate.state c.session_over.new.self) (g.K.Sink.taken c.write_loop-end.new.sink) (g.K.Sink.taken c.flush.new.self) (g.K.Sink.calls c.write_loop-end.new.sink) (g.K.Sink.calls c.flush.new.self) c.args.turns c.write_loop-end.result c.flush.ensures.taken c.flush.ensures.calls c.write_loop-end.ensures.run c.end.ensures.call c.session_over.ensures
