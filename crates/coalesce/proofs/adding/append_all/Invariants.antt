use Rattle.std.proofs.Common.{◌≡◌, ◌++◌, length}
use Rattle.std.specs.Prelude.{flat_map}
use Rattle.dsotlv.specs.Notices.{notice_octets}
use Rattle.coalesce.specs.Sides.{IsOneSide}
use Rattle.coalesce.specs.Net.{additions}
use Rattle.coalesce.proofs.adding.append_all.Given as goal

abbrev pub invariant-records : goal.invariant-records
invariant-records l = IsOneSide l.rest × (l.out ++ flat_map notice_octets (additions l.rest) ≡ l.fn.out ++ flat_map notice_octets (additions l.fn.new))

abbrev pub decreases-records : goal.decreases-records
decreases-records l = length l.rest
