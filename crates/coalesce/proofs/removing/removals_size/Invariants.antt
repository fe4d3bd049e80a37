use Rattle.std.proofs.Common.{length, None}
use Rattle.coalesce.specs.Net.{size_of_notices}
use Rattle.coalesce.specs.Steps.{removals_behind}
use Rattle.coalesce.proofs.Turns.{IsSized}
use Rattle.coalesce.proofs.removing.removals_size.Given as goal

abbrev pub invariant-records : goal.invariant-records
invariant-records l = IsSized l.size (removals_behind l.fn.name l.fn.new l.before l.rest) (size_of_notices (removals_behind l.fn.name l.fn.new None l.fn.rest))

abbrev pub decreases-records : goal.decreases-records
decreases-records l = length l.rest
