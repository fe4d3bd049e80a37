use Rattle.std.proofs.Common.{arith}
use Rattle.hubloops.specs.Loops.{observed}
use Rattle.hubloops.proofs.LineReads.{read_begun, read_more, read_ended}
use Rattle.hubloops.proofs.reader.read_all.Goals as goal

pub turns-init : goal.turns-init
turns-init g c = record {
  run = read_begun c.args.session (observed (g.G.Gate.state c.args.gate.now) (g.L.Line.given c.args.line.now) (g.L.Line.calls c.args.line.now)) c.args.turns;
  later = omega arith;
  some = c.requires.some;
  few = c.requires.few;
}

pub turns-preserved : goal.turns-preserved
turns-preserved g c = record {
  run = read_more c.args.session (observed (g.G.Gate.state c.args.gate.now) (g.L.Line.given c.args.line.now) (g.L.Line.calls c.args.line.now)) (observed (g.G.Gate.state c.turns.gate) (g.L.Line.given c.turns.line) (g.L.Line.calls c.turns.line)) (observed (g.G.Gate.state c.read_on.new.gate) (g.L.Line.given c.read_on.new.line) (g.L.Line.calls c.read_on.new.line)) (g.L.Line.left c.read_on.new.line) c.turns.left c.in-Ok.less c.args.turns c.turns.invariant.run c.in-Ok.ensures.run;
  later = omega (arith, c.turns.invariant.later, c.read_on.ensures.later);
  some = grind arith;
  few = grind arith;
}

pub returns-in-Err-clause-run : goal.returns-in-Err-clause-run
returns-in-Err-clause-run g c = read_ended c.args.session (observed (g.G.Gate.state c.args.gate.now) (g.L.Line.given c.args.line.now) (g.L.Line.calls c.args.line.now)) (observed (g.G.Gate.state c.turns.gate) (g.L.Line.given c.turns.line) (g.L.Line.calls c.turns.line)) (observed (g.G.Gate.state c.read_on.new.gate) (g.L.Line.given c.read_on.new.line) (g.L.Line.calls c.read_on.new.line)) (g.L.Line.left c.read_on.new.line) c.turns.left c.args.turns c.in-Err.end c.turns.invariant.run c.in-Err.ensures.run
