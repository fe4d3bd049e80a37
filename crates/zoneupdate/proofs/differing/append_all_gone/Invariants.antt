use Rattle.std.proofs.Common.{◌≡◌, ◌++◌, map, drop}
use Rattle.zoneupdate.specs.Differing.{gone}
use Rattle.zoneupdate.proofs.differing.append_all_gone.Given as goal

abbrev pub invariant-rows : goal.invariant-rows
invariant-rows l = l.changed.items ++ map gone (drop l.row-index l.old) ≡ l.fn.changed.items ++ map gone l.old
