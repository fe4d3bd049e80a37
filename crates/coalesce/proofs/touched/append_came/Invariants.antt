use Rattle.std.proofs.Common.{◌≡◌, ◌++◌, length}
use Rattle.std.specs.Prelude.{flat_map}
use Rattle.rrset.specs.declared.record.Key.{Key}
use Rattle.dsotlv.specs.Notices.{notice_octets}
use Rattle.coalesce.specs.Touched.{addition_at, came, came_at}
use Rattle.coalesce.specs.Waiting.{OldValue}
use Rattle.coalesce.proofs.touched.append_came.Given as goal

abbrev pub invariant-values : goal.invariant-values
invariant-values l = l.out ++ flat_map notice_octets (flat_map (λ (v : Key × OldValue). addition_at v.0 (came_at l.fn.touched v)) l.rest) ≡ l.fn.out ++ flat_map notice_octets (came l.fn.touched)

abbrev pub decreases-values : goal.decreases-values
decreases-values l = length l.rest
