use Rattle.std.proofs.Common.{◌≤◌, ◌<◌, length}
use Rattle.hubloops.specs.Loops.{observed}
use Rattle.hubloops.specs.Reader.{max_read}
use Rattle.hubloops.proofs.LineReads.{ReadSoFar}
use Rattle.hubloops.proofs.reader.read_all.Given as goal

abbrev pub invariant-turns : goal.invariant-turns
invariant-turns g l = record {
  run : ReadSoFar l.session (observed (g.G.Gate.state l.fn.gate) (g.L.Line.given l.fn.line) (g.L.Line.calls l.fn.line)) (observed (g.G.Gate.state l.gate) (g.L.Line.given l.line) (g.L.Line.calls l.line)) l.left l.turns;
  later : g.L.Line.faults l.fn.line ≤ g.L.Line.faults l.line;
  some : 0 < length l.buf;
  few : length l.buf ≤ max_read;
}

abbrev pub decreases-turns : goal.decreases-turns
decreases-turns g l = l.left
