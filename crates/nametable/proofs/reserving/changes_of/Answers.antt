use Rattle.std.proofs.Common.{◌≡◌, sym, subst, drop, rules, of_calls}
use Rattle.std.specs.Ordering.{is_lt, is_le}
use Rattle.std.specs.List.Sorted.{IsPartitionedBy}
use Rattle.std.proofs.lemmas.List.Sorted.{IsPartitionPoint-from_clause}
use Rattle.nametable.proofs.PlanRuns.{owner_of_change, changes_parted, rest_parted, run-is}
use Rattle.nametable.proofs.reserving.changes_of.Goals as goal

pub returns : goal.returns
returns c =
    let name = c.args.owner.now in
    let changed = c.args.changed.now in
    let first = IsPartitionPoint-from_clause (λ d. is_lt (owner_of_change name d)) _ _ c.partition_point-begin.ensures.partitioned (changes_parted name changed c.requires) (λ a r q k. search (rules, of_calls)) in
    let rest : c.split_at.result.1.now ≡ drop c.partition_point-begin.result changed = c.split_at.ensures.back in
    let upto = IsPartitionPoint-from_clause (λ d. is_le (owner_of_change name d)) _ _ c.partition_point-count.ensures.partitioned (subst (IsPartitionedBy (λ d. is_le (owner_of_change name d))) (sym rest) (rest_parted name changed c.partition_point-begin.result c.requires)) (λ a r q k. search (rules, of_calls)) in
    run-is name changed c.split_at.result.1.now _ c.partition_point-begin.result c.partition_point-count.result first rest upto c.split_at-2.ensures.front
