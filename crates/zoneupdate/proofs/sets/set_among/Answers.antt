use Rattle.std.proofs.Common.{◌≡◌, ◌∙◌, sym, ap, subst, drop, rules, of_calls, T}
use Rattle.std.specs.Ordering.{is_lt, is_le}
use Rattle.std.specs.List.Sorted.{IsPartitionedBy}
use Rattle.std.proofs.lemmas.List.Sorted.{IsPartitionPoint-from_clause}
use Rattle.zoneupdate.proofs.Filters.{holds}
use Rattle.zoneupdate.proofs.SetPlaces.{entry_cmp, less_parted, at_most_parted, set-among}
use Rattle.zoneupdate.proofs.sets.set_among.Goals as goal

pub returns : goal.returns
returns c =
    let owner = c.args.owner.now in
    let kind = c.args.kind in
    let rows = c.args.entries.now in
    let sorted = holds _ c.requires.order in
    let first = IsPartitionPoint-from_clause (λ e. is_lt (entry_cmp owner kind e)) _ _ c.partition_point-begin.ensures.partitioned (less_parted owner kind rows sorted) (λ a r q k. search (rules, of_calls)) in
    let rest = c.split_at.ensures.back in
    let upto = IsPartitionPoint-from_clause (λ e. is_le (entry_cmp owner kind e)) _ _ c.partition_point-count.ensures.partitioned (subst (IsPartitionedBy (λ e. is_le (entry_cmp owner kind e))) (sym rest) (at_most_parted owner kind rows c.partition_point-begin.result sorted)) (λ a r q k. search (rules, of_calls)) in
    set-among owner kind rows c.split_at.result.1.now _ c.partition_point-begin.result c.partition_point-count.result c.requires.lower first rest upto c.split_at-2.ensures.front
