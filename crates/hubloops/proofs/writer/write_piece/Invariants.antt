use Rattle.std.proofs.Common.{◌≤◌}
use Rattle.hubloops.proofs.Writes.{WrittenSoFar}
use Rattle.hubloops.proofs.writer.write_piece.Given as goal

abbrev pub invariant-pieces : goal.invariant-pieces
invariant-pieces g l = record {
  run : WrittenSoFar l.piece (g.K.Sink.taken l.fn.sink) (g.K.Sink.taken l.sink) (g.K.Sink.calls l.fn.sink) (g.K.Sink.calls l.sink) l.rest l.left l.turns;
  later : g.K.Sink.faults l.fn.sink ≤ g.K.Sink.faults l.sink;
}

abbrev pub decreases-pieces : goal.decreases-pieces
decreases-pieces g l = l.left
