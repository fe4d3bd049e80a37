use Rattle.std.proofs.Common.{length}
use Rattle.recordindex.proofs.Walks.{Reserved}
use Rattle.recordindex.proofs.walking.reserve.Given as goal

abbrev pub invariant-ends : goal.invariant-ends
invariant-ends l = Reserved l.fn.above l.fn.endings.entries l.endings.entries l.rest

abbrev pub decreases-ends : goal.decreases-ends
decreases-ends l = length l.rest
