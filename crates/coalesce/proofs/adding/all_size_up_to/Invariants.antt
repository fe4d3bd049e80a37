use Rattle.std.proofs.Common.{length}
use Rattle.coalesce.specs.Net.{size_of_notices, additions}
use Rattle.coalesce.proofs.Turns.{IsSized}
use Rattle.coalesce.proofs.adding.all_size_up_to.Given as goal

abbrev pub invariant-records : goal.invariant-records
invariant-records l = IsSized l.size (additions l.rest) (size_of_notices (additions l.fn.new))

abbrev pub decreases-records : goal.decreases-records
decreases-records l = length l.rest
