use Rattle.std.proofs.Common.{◌≡◌, length, map}
use Rattle.std.specs.Prelude.{◌==◌}
use Rattle.std.specs.List.{dedup_from}
use Rattle.coalesce.specs.Net.{kinds_of}
use Rattle.coalesce.specs.Steps.{gone_form}
use Rattle.coalesce.proofs.form.gone.Given as goal

abbrev pub invariant-records : goal.invariant-records
invariant-records l = gone_form (dedup_from (λ a b. a == b) l.first.kind (map (λ e. e.0.kind) l.rest)) ≡ gone_form (kinds_of l.fn.old)

abbrev pub decreases-records : goal.decreases-records
decreases-records l = length l.rest
