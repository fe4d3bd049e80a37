use Rattle.std.proofs.Common.{length}
use Rattle.recordindex.proofs.Using.{Lowering}
use Rattle.recordindex.proofs.walking.lower.Given as goal

abbrev pub invariant-ends : goal.invariant-ends
invariant-ends l = Lowering l.fn.above l.fn.endings.entries l.endings.entries l.rest

abbrev pub decreases-ends : goal.decreases-ends
decreases-ends l = length l.rest
