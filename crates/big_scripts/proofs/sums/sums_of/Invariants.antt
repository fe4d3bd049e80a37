use Rattle.std.proofs.Common.{length}
use Rattle.big_scripts.proofs.Counting.{IsCounted}
use Rattle.big_scripts.proofs.sums.sums_of.Given as goal

abbrev pub invariant-lines : goal.invariant-lines
invariant-lines l = IsCounted l.text l.rest l.sums

abbrev pub decreases-lines : goal.decreases-lines
decreases-lines l = length l.rest
