use Rattle.std.proofs.Common.{◌≡◌, ◌++◌, map, drop, not, is_some}
use Rattle.rrset.specs.KeyedRows.{only_rows, row_at}
use Rattle.linkcache.specs.Plans.{change_to}
use Rattle.linkcache.proofs.moving.append_gone.Given as goal

abbrev pub invariant-rows : goal.invariant-rows
invariant-rows l = l.changes.items ++ map (change_to l.work.rows) (only_rows (λ key. not (is_some (row_at key l.work.rows))) (drop l.key-index l.rows)) ≡ l.fn.changes.items ++ map (change_to l.work.rows) (only_rows (λ key. not (is_some (row_at key l.work.rows))) l.rows)
