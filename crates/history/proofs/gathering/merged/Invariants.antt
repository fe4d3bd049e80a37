use Rattle.std.proofs.Common.{◌+◌, ◌-◌, length}
use Rattle.history.proofs.MergedChanges.{AreMergedSo}
use Rattle.history.proofs.gathering.merged.Given as goal

abbrev pub invariant-both : goal.invariant-both
invariant-both l = AreMergedSo l.first l.second l.all.items l.taken l.other

abbrev pub decreases-both : goal.decreases-both
decreases-both l = (length l.first - l.taken) + (length l.second - l.other)
