use Rattle.std.proofs.Common.{true, false}
use Rattle.push_base.specs.Causes.{Rose}
use Rattle.hubloops.specs.LinkReader.{seen}
use Rattle.hubloops.proofs.Receipts.{turn_of}
use Rattle.hubloops.proofs.link_reader.turn_on.Goals as goal

pub returns-then-asks-clause-run : goal.returns-then-asks-clause-run
returns-then-asks-clause-run g c =
    turn_of c.args.asks true c.args.link (Rose (g.D.Datagrams.faults c.args.datagrams.now) (g.D.Datagrams.faults c.ask_on.new.datagrams)) (seen (g.G.Gate.state c.args.gate.now) (g.D.Datagrams.given c.args.datagrams.now) (g.D.Datagrams.sent c.args.datagrams.now) (g.D.Datagrams.calls c.args.datagrams.now)) (seen (g.G.Gate.state c.ask_on.new.gate) (g.D.Datagrams.given c.ask_on.new.datagrams) (g.D.Datagrams.sent c.ask_on.new.datagrams) (g.D.Datagrams.calls c.ask_on.new.datagrams)) (g.D.Datagrams.left c.ask_on.new.datagrams) c.args.turns c.ask_on.result c.if-asks.true c.ask_on.ensures.run

pub returns-else-asks-clause-run : goal.returns-else-asks-clause-run
returns-else-asks-clause-run g c =
    turn_of c.args.asks false c.args.link (Rose (g.D.Datagrams.faults c.args.datagrams.now) (g.D.Datagrams.faults c.hear_on.new.datagrams)) (seen (g.G.Gate.state c.args.gate.now) (g.D.Datagrams.given c.args.datagrams.now) (g.D.Datagrams.sent c.args.datagrams.now) (g.D.Datagrams.calls c.args.datagrams.now)) (seen (g.G.Gate.state c.hear_on.new.gate) (g.D.Datagrams.given c.hear_on.new.datagrams) (g.D.Datagrams.sent c.hear_on.new.datagrams) (g.D.Datagrams.calls c.hear_on.new.datagrams)) (g.D.Datagrams.left c.hear_on.new.datagrams) c.args.turns c.hear_on.result c.if-asks.false c.hear_on.ensures.run
