use Rattle.std.proofs.Common.{◌≡◌, length}
use Rattle.rrset.specs.RecordSet.{only}
use Rattle.coalesce.specs.Sides.{is_asked}
use Rattle.coalesce.proofs.side.Records.next.Given as goal

abbrev pub invariant-rows : goal.invariant-rows
invariant-rows l = only (is_asked l.self-inside.asking) l.self-inside.merged ≡ l.fn.self

abbrev pub decreases-rows : goal.decreases-rows
decreases-rows l = length l.self-inside.merged
