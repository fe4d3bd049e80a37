use Rattle.std.proofs.Common.{length}
use Rattle.std.specs.Prelude.{flat_map}
use Rattle.rrset.specs.declared.record.Key.{Key}
use Rattle.coalesce.specs.Net.{size_of_notices}
use Rattle.coalesce.specs.Touched.{addition_at, came, came_at}
use Rattle.coalesce.specs.Waiting.{OldValue}
use Rattle.coalesce.proofs.Turns.{IsSized}
use Rattle.coalesce.proofs.touched.came_size.Given as goal

abbrev pub invariant-values : goal.invariant-values
invariant-values l = IsSized l.size (flat_map (λ (v : Key × OldValue). addition_at v.0 (came_at l.fn.touched v)) l.rest) (size_of_notices (came l.fn.touched))

abbrev pub decreases-values : goal.decreases-values
decreases-values l = length l.rest
