use Rattle.std.proofs.Common.{◌≡◌, ◌++◌, drop}
use Rattle.zoneupdate.proofs.single.copied.Given as goal

abbrev pub invariant-rows : goal.invariant-rows
invariant-rows l = l.entries.items ++ drop l.row-index l.rows ≡ l.rows
