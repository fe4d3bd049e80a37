use Rattle.std.proofs.Common.{◌≡◌, ◌++◌, drop, not, is_some}
use Rattle.rrset.specs.KeyedRows.{only_rows, row_at}
use Rattle.linkcache.proofs.laying.append_new.Given as goal

abbrev pub invariant-entries : goal.invariant-entries
invariant-entries l = l.new.items ++ only_rows (λ key. not (is_some (row_at key l.rows.rows))) (drop l.key-index l.entries) ≡ l.fn.new.items ++ only_rows (λ key. not (is_some (row_at key l.rows.rows))) l.entries
