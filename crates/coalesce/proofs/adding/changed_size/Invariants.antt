use Rattle.std.proofs.Common.{length}
use Rattle.coalesce.specs.Net.{size_of_notices}
use Rattle.coalesce.specs.Steps.{additions_to}
use Rattle.coalesce.proofs.Turns.{IsSized}
use Rattle.coalesce.proofs.adding.changed_size.Given as goal

abbrev pub invariant-records : goal.invariant-records
invariant-records l = IsSized l.size (additions_to l.fn.old l.rest) (size_of_notices (additions_to l.fn.old l.fn.new))

abbrev pub decreases-records : goal.decreases-records
decreases-records l = length l.rest
