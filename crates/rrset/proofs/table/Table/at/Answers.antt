use Rattle.std.proofs.Common.{◌≡◌, ◌∙◌, sym, ap, subst, drop, rules, of_calls, T}
use Rattle.std.specs.Ordering.{is_lt, is_le}
use Rattle.std.specs.List.Sorted.{IsPartitionedBy}
use Rattle.std.proofs.lemmas.List.Sorted.{IsPartitionPoint-from_clause}
use Rattle.rrset.specs.KeyedRows.{Rows, rows_of}
use Rattle.rrset.specs.Tables.{TableState}
use Rattle.rrset.proofs.Owners.{owner_cmp, less_parted, at_most_parted, rows_of-is}
use Rattle.rrset.proofs.table.Table.at.Goals as goal

pub returns : goal.returns
returns g c =
    let name = c.args.name.now in
    let items = c.self.inside.entries.items in
    let sorted = subst T (sym c.self.invariant.0) tt in
    let first = IsPartitionPoint-from_clause (λ e. is_lt (owner_cmp name e)) _ _ c.partition_point-begin.ensures.partitioned (subst (IsPartitionedBy (λ e. is_lt (owner_cmp name e))) (sym c.deref.ensures.value) (less_parted name items sorted)) (λ a r q k. search (rules, of_calls)) in
    let rest : c.split_at.result.1.now ≡ drop c.partition_point-begin.result items = c.split_at.ensures.back ∙ ap (drop c.partition_point-begin.result) c.deref-2.ensures.value in
    let upto = IsPartitionPoint-from_clause (λ e. is_le (owner_cmp name e)) _ _ c.partition_point-count.ensures.partitioned (subst (IsPartitionedBy (λ e. is_le (owner_cmp name e))) (sym rest) (at_most_parted name items c.partition_point-begin.result sorted)) (λ a r q k. search (rules, of_calls)) in
    rows_of-is name items c.split_at.result.1.now _ c.partition_point-begin.result c.partition_point-count.result c.self.invariant.1 (rw c.deref.ensures.value at first) rest upto c.split_at-2.ensures.front
    ∙ ap (λ (t : TableState _). rows_of name t.rows) c.self.view_is
