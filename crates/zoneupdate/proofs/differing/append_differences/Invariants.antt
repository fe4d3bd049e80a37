use Rattle.std.proofs.Common.{◌≡◌, ◌++◌}
use Rattle.zoneupdate.specs.Differing.{differences}
use Rattle.zoneupdate.proofs.differing.append_differences.Given as goal

abbrev pub invariant-rows : goal.invariant-rows
invariant-rows l = l.changed.items ++ differences l.rest l.row-iterator.rest.items ≡ l.fn.changed.items ++ differences l.old l.fn.new.items
