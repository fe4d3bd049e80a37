use Rattle.std.proofs.Common.{◌≡◌, ◌+◌, ◌&&◌, drop, nat_lt}
use Rattle.std.specs.List.{list_any}
use Rattle.linkcache.specs.Rows.{is_of_set, second}
use Rattle.linkcache.proofs.heard_rows.some_old.Given as goal

abbrev pub invariant-rows : goal.invariant-rows
invariant-rows l = list_any (λ row. is_of_set l.rr row && nat_lt (row.1.heard + second) l.now) (drop l.key-index l.rows) ≡ list_any (λ row. is_of_set l.rr row && nat_lt (row.1.heard + second) l.now) l.rows
