use Rattle.std.proofs.Common.{◌≡◌, ◌++◌, length, None}
use Rattle.std.specs.Prelude.{flat_map}
use Rattle.dsotlv.specs.Notices.{notice_octets}
use Rattle.coalesce.specs.Sides.{IsOneSide}
use Rattle.coalesce.specs.Steps.{removals_behind}
use Rattle.coalesce.proofs.removing.append_removals.Given as goal

abbrev pub invariant-records : goal.invariant-records
invariant-records l = IsOneSide l.rest × (l.out ++ flat_map notice_octets (removals_behind l.fn.name l.fn.new l.before l.rest) ≡ l.fn.out ++ flat_map notice_octets (removals_behind l.fn.name l.fn.new None l.fn.rest))

abbrev pub decreases-records : goal.decreases-records
decreases-records l = length l.rest
