use Rattle.hubloops.proofs.LineReads.{HandedSoFar}
use Rattle.hubloops.proofs.reader.feed_session.Given as goal

abbrev pub invariant-pieces : goal.invariant-pieces
invariant-pieces g l = HandedSoFar (g.G.Gate.state l.fn.gate) (g.G.Gate.state l.gate) l.session l.octets l.rest l.left l.turns

abbrev pub decreases-pieces : goal.decreases-pieces
decreases-pieces g l = l.left
