use Rattle.std.proofs.Common.{◌≤◌, length}
use Rattle.subscriber.proofs.AllReads.{Following}
use Rattle.subscriber.proofs.following.Subscriber.follow.Given as goal

abbrev pub decreases-reads : goal.decreases-reads
decreases-reads g l = l.left

-- the reads so far, with what was said and sent, and the counts of faults
abbrev pub invariant-reads : goal.invariant-reads
invariant-reads g l = record {
  so_far : Following l.fn.turns l.fn.self.client l.fn.self.messages l.left l.self.client l.self.messages (g.L.Line.reads l.fn.line) (g.L.Line.reads l.line) (g.C.Clock.moments l.fn.clock) (g.C.Clock.moments l.clock)
      (g.K.Sink.taken l.fn.out) (g.K.Sink.taken l.out) (g.W.Sink.taken l.fn.wire) (g.W.Sink.taken l.wire);
  some : 1 ≤ length l.buffer;
  few : length l.buffer ≤ 4096;
  line_later : g.L.Line.faults l.fn.line ≤ g.L.Line.faults l.line;
  wire_later : g.W.Sink.faults l.fn.wire ≤ g.W.Sink.faults l.wire;
  out_later : g.K.Sink.faults l.fn.out ≤ g.K.Sink.faults l.out;
}
