use Rattle.std.proofs.Common.{rules, of_calls}
use Rattle.std.proofs.lemmas.List.Sorted.{IsPartitionPoint-from_clause}
use Rattle.dnsname.specs.Names.{lower}
use Rattle.nametable.specs.Blocks.{begins_by}
use Rattle.nametable.proofs.BlockPlaces.{blocks-parted, place-is}
use Rattle.nametable.proofs.blocks.block_of_lower.Goals as goal

pub returns : goal.returns
returns g c =
    let name = lower c.args.name.now in
    let blocks = c.args.blocks.now in
    let parted = IsPartitionPoint-from_clause (begins_by name) _ _ c.partition_point-count.ensures.partitioned (blocks-parted name blocks c.requires.blocks) (λ a r q k. search (rules, of_calls, c.requires.first)) in
    place-is name blocks c.partition_point-count.result c.saturating_sub.result c.requires.blocks c.requires.some c.partition_point-count.ensures.bound parted c.saturating_sub.ensures
