use Rattle.hubloops.specs.Loops.{observed}
use Rattle.hubloops.proofs.Leaving.{reads_left}
use Rattle.hubloops.proofs.jobs.read.Goals as goal

pub returns-clause-run : goal.returns-clause-run
returns-clause-run g c = (
  g.L.Line.given c.read_session-end.new.line,
  g.L.Line.calls c.read_session-end.new.line,
  g.L.Line.left c.read_session-end.new.line,
  reads_left c.args.session (observed (g.G.Gate.state c.args.gate) (g.L.Line.given c.args.line) (g.L.Line.calls c.args.line)) (g.G.Gate.state c.read_session-end.new.gate) (g.G.Gate.left c.leave-left.result) (g.L.Line.given c.read_session-end.new.line) (g.L.Line.calls c.read_session-end.new.line) (g.L.Line.left c.read_session-end.new.line) c.args.turns c.read_session-end.result c.leave-left.ensures c.read_session-end.ensures.run,
)
