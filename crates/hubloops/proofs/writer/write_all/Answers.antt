use Rattle.std.proofs.Common.{arith}
use Rattle.hubloops.specs.Loops.{observed}
use Rattle.hubloops.proofs.Writes.{wrote_begun, wrote_more, wrote_ended}
use Rattle.hubloops.proofs.writer.write_all.Goals as goal

pub turns-init : goal.turns-init
turns-init g c = record {
  run = wrote_begun c.args.session (observed (g.G.Gate.state c.args.gate.now) (g.K.Sink.taken c.args.sink.now) (g.K.Sink.calls c.args.sink.now)) c.args.turns;
  later = omega arith;
  some = c.requires.some;
}

pub turns-preserved : goal.turns-preserved
turns-preserved g c = record {
  run = wrote_more c.args.session
      (observed (g.G.Gate.state c.args.gate.now) (g.K.Sink.taken c.args.sink.now) (g.K.Sink.calls c.args.sink.now))
      (observed (g.G.Gate.state c.turns.gate) (g.K.Sink.taken c.turns.sink) (g.K.Sink.calls c.turns.sink))
      (observed (g.G.Gate.state c.write_on.new.gate) (g.K.Sink.taken c.write_on.new.sink) (g.K.Sink.calls c.write_on.new.sink))
      c.turns.left c.in-Ok.less c.args.turns c.turns.invariant.run c.in-Ok.ensures.run;
  later = omega (arith, c.turns.invariant.later, c.write_on.ensures.later);
  some = grind arith;
}

pub returns-in-Err-clause-run : goal.returns-in-Err-clause-run
returns-in-Err-clause-run g c = wrote_ended c.args.session
    (observed (g.G.Gate.state c.args.gate.now) (g.K.Sink.taken c.args.sink.now) (g.K.Sink.calls c.args.sink.now))
    (observed (g.G.Gate.state c.turns.gate) (g.K.Sink.taken c.turns.sink) (g.K.Sink.calls c.turns.sink))
    (observed (g.G.Gate.state c.write_on.new.gate) (g.K.Sink.taken c.write_on.new.sink) (g.K.Sink.calls c.write_on.new.sink))
    c.turns.left c.args.turns c.in-Err.end c.turns.invariant.run c.in-Err.ensures.run
