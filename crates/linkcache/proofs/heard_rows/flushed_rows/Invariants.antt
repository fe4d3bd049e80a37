use Rattle.std.proofs.Common.{◌≡◌, ◌+◌, ◌++◌, ◌&&◌, cond, map, nat_lt}
use Rattle.linkcache.specs.Rows.{ending_by, flushed_by, is_of_set, second}
use Rattle.linkcache.proofs.heard_rows.flushed_rows.Given as goal

abbrev pub invariant-rows : goal.invariant-rows
invariant-rows l = l.later.items ++ map (λ row. cond (is_of_set l.heard.rr row && nat_lt (row.1.heard + second) l.now) (ending_by (l.now + second) row) row) l.key-iterator.rest.items ≡ flushed_by l.now l.fn.rows.items l.heard
