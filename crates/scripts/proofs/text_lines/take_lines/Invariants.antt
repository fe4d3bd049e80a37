use Rattle.std.proofs.Common.{length}
use Rattle.scripts.proofs.lines.LineByLine.{SoFar}
use Rattle.scripts.proofs.text_lines.take_lines.Given as goal

abbrev pub invariant-lines : goal.invariant-lines
invariant-lines g l = SoFar g.D.TakeLines.line (g.D.TakeLines.Holds l.fn.draft) (g.D.TakeLines.Holds l.draft) l.fn.octets l.number l.rest

abbrev pub decreases-lines : goal.decreases-lines
decreases-lines g l = length l.rest
