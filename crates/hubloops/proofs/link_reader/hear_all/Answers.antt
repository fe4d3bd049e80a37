use Rattle.std.proofs.Common.{arith}
use Rattle.push_base.specs.Causes.{Rose}
use Rattle.hubloops.specs.LinkReader.{seen}
use Rattle.hubloops.proofs.Receipts.{heard_begun, heard_more, heard_ended}
use Rattle.hubloops.proofs.link_reader.hear_all.Goals as goal

pub turns-init : goal.turns-init
turns-init g c = record {
  run = heard_begun c.args.link (seen (g.G.Gate.state c.args.gate.now) (g.D.Datagrams.given c.args.datagrams.now) (g.D.Datagrams.sent c.args.datagrams.now) (g.D.Datagrams.calls c.args.datagrams.now)) c.args.turns;
  later = omega arith;
}

pub turns-preserved : goal.turns-preserved
turns-preserved g c = record {
  run = heard_more c.args.link (Rose (g.D.Datagrams.faults c.turns.datagrams) (g.D.Datagrams.faults c.turn_on.new.datagrams)) (seen (g.G.Gate.state c.args.gate.now) (g.D.Datagrams.given c.args.datagrams.now) (g.D.Datagrams.sent c.args.datagrams.now) (g.D.Datagrams.calls c.args.datagrams.now)) (seen (g.G.Gate.state c.turns.gate) (g.D.Datagrams.given c.turns.datagrams) (g.D.Datagrams.sent c.turns.datagrams) (g.D.Datagrams.calls c.turns.datagrams)) (seen (g.G.Gate.state c.turn_on.new.gate) (g.D.Datagrams.given c.turn_on.new.datagrams) (g.D.Datagrams.sent c.turn_on.new.datagrams) (g.D.Datagrams.calls c.turn_on.new.datagrams)) (g.D.Datagrams.left c.turn_on.new.datagrams) c.turns.asks c.turns.left (c.in-Ok.again, c.in-Ok.less) c.args.turns c.turns.invariant.run c.in-Ok.ensures.run;
  later = omega (arith, c.turns.invariant.later, c.turn_on.ensures.later);
}

pub returns-in-Err-clause-run : goal.returns-in-Err-clause-run
returns-in-Err-clause-run g c = heard_ended c.args.link (Rose (g.D.Datagrams.faults c.turns.datagrams) (g.D.Datagrams.faults c.turn_on.new.datagrams)) (Rose (g.D.Datagrams.faults c.args.datagrams.now) (g.D.Datagrams.faults c.turn_on.new.datagrams)) (λ rose. omega (arith, c.turns.invariant.later, rose)) (seen (g.G.Gate.state c.args.gate.now) (g.D.Datagrams.given c.args.datagrams.now) (g.D.Datagrams.sent c.args.datagrams.now) (g.D.Datagrams.calls c.args.datagrams.now)) (seen (g.G.Gate.state c.turns.gate) (g.D.Datagrams.given c.turns.datagrams) (g.D.Datagrams.sent c.turns.datagrams) (g.D.Datagrams.calls c.turns.datagrams)) (seen (g.G.Gate.state c.turn_on.new.gate) (g.D.Datagrams.given c.turn_on.new.datagrams) (g.D.Datagrams.sent c.turn_on.new.datagrams) (g.D.Datagrams.calls c.turn_on.new.datagrams)) (g.D.Datagrams.left c.turn_on.new.datagrams) c.turns.asks c.turns.left c.args.turns c.in-Err.end c.turns.invariant.run c.in-Err.ensures.run
