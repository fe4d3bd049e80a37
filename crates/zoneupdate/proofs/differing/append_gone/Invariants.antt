use Rattle.std.proofs.Common.{◌≡◌, ◌++◌, length}
use Rattle.zoneupdate.specs.Differing.{gone_before, from_key}
use Rattle.zoneupdate.proofs.differing.append_gone.Given as goal

abbrev pub invariant-rows : goal.invariant-rows
invariant-rows l = (l.changed.items ++ gone_before l.key l.rest ≡ l.fn.changed.items ++ gone_before l.key l.old) × (from_key l.key l.rest ≡ from_key l.key l.old)

abbrev pub decreases-rows : goal.decreases-rows
decreases-rows l = length l.rest
