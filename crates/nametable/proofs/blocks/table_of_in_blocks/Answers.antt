use Rattle.std.proofs.Common.{◌≡◌, ◌∙◌, sym, ap, subst, None, Some, Option}
use Rattle.std.specs.Option.{MatchOption}
use Rattle.dnsname.specs.Names.{lower}
use Rattle.nametable.specs.Nodes.{AreNodes, table_at}
use Rattle.nametable.proofs.BlockPlaces.{block_are, table_here}
use Rattle.nametable.proofs.blocks.table_of_in_blocks.Goals as goal

pub table_of-requires-clause-nodes : goal.table_of-requires-clause-nodes
table_of-requires-clause-nodes g c =
    subst AreNodes (sym (c.nodes.ensures ∙ c.index-blocks-place.is)) (block_are (lower c.args.name.now) c.args.blocks.now c.block_of_lower-place.result c.index-blocks-place.result c.requires c.block_of_lower-place.ensures)

pub returns : goal.returns
returns g c =
    let name = lower c.args.name.now in
    let here = ap (table_at name) (c.nodes.ensures ∙ c.index-blocks-place.is) ∙ sym (table_here name c.args.blocks.now c.block_of_lower-place.result c.index-blocks-place.result c.requires c.block_of_lower-place.ensures) in
    subst (λ (o : Option _). MatchOption c.table_of.result (o ≡ None) (λ table. o ≡ Some table.now)) here c.table_of.ensures
