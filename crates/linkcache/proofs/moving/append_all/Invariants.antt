use Rattle.std.proofs.Common.{◌≡◌, ◌++◌, map, drop}
use Rattle.linkcache.specs.Plans.{change_to}
use Rattle.linkcache.proofs.moving.append_all.Given as goal

abbrev pub invariant-rows : goal.invariant-rows
invariant-rows l = l.changes.items ++ map (change_to l.work.rows) (drop l.key-index l.rows) ≡ l.fn.changes.items ++ map (change_to l.work.rows) l.rows
