use Rattle.std.proofs.Common.{◌≡◌, length, ◌&&◌}
use Rattle.std.specs.Prelude.{◌==◌}
use Rattle.std.specs.List.{list_any}
use Rattle.coalesce.specs.Sides.{is_asked}
use Rattle.coalesce.proofs.merged.any_of_kind.Given as goal

abbrev pub invariant-records : goal.invariant-records
invariant-records l = list_any (λ e. e.0.kind == l.fn.kind && is_asked l.fn.asking e.0) l.rest ≡ list_any (λ e. e.0.kind == l.fn.kind && is_asked l.fn.asking e.0) l.fn.rest

abbrev pub decreases-records : goal.decreases-records
decreases-records l = length l.rest
