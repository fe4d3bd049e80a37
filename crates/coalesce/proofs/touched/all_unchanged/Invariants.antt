use Rattle.std.proofs.Common.{◌≡◌, length}
use Rattle.std.specs.List.{list_all}
use Rattle.coalesce.specs.Touched.{is_unchanged}
use Rattle.coalesce.proofs.touched.all_unchanged.Given as goal

abbrev pub invariant-values : goal.invariant-values
invariant-values l = list_all (is_unchanged l.fn.touched) l.rest ≡ list_all (is_unchanged l.fn.touched) l.fn.touched.values.now

abbrev pub decreases-values : goal.decreases-values
decreases-values l = length l.rest
