use Rattle.std.proofs.Common.{◌≤◌, ◌<◌, length}
use Rattle.hubloops.specs.Loops.{observed}
use Rattle.hubloops.proofs.Writes.{WroteSoFar}
use Rattle.hubloops.proofs.writer.write_all.Given as goal

abbrev pub invariant-turns : goal.invariant-turns
invariant-turns g l = record {
  run : WroteSoFar l.session (observed (g.G.Gate.state l.fn.gate) (g.K.Sink.taken l.fn.sink) (g.K.Sink.calls l.fn.sink)) (observed (g.G.Gate.state l.gate) (g.K.Sink.taken l.sink) (g.K.Sink.calls l.sink)) l.left l.turns;
  later : g.K.Sink.faults l.fn.sink ≤ g.K.Sink.faults l.sink;
  some : 0 < length l.buf;
}

abbrev pub decreases-turns : goal.decreases-turns
decreases-turns g l = l.left
