use Rattle.std.proofs.Common.{◌≤◌}
use Rattle.hubloops.specs.LinkReader.{seen}
use Rattle.hubloops.proofs.Receipts.{HeardSoFar}
use Rattle.hubloops.proofs.link_reader.hear_all.Given as goal

abbrev pub invariant-turns : goal.invariant-turns
invariant-turns g l = record {
  run : HeardSoFar l.link (seen (g.G.Gate.state l.fn.gate) (g.D.Datagrams.given l.fn.datagrams) (g.D.Datagrams.sent l.fn.datagrams) (g.D.Datagrams.calls l.fn.datagrams)) (seen (g.G.Gate.state l.gate) (g.D.Datagrams.given l.datagrams) (g.D.Datagrams.sent l.datagrams) (g.D.Datagrams.calls l.datagrams)) l.asks l.left l.turns;
  later : g.D.Datagrams.faults l.fn.datagrams ≤ g.D.Datagrams.faults l.datagrams;
}

abbrev pub decreases-turns : goal.decreases-turns
decreases-turns g l = l.left
