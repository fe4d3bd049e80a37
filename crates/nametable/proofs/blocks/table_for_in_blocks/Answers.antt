use Rattle.std.proofs.Common.{◌≡◌, ◌∙◌, sym, ap, subst, None, Some, Option}
use Rattle.std.specs.Option.{MatchOption}
use Rattle.nametable.specs.Nodes.{AreNodes, table_at}
use Rattle.nametable.proofs.BlockPlaces.{block_are, table_here}
use Rattle.nametable.proofs.blocks.table_for_in_blocks.Goals as goal

pub table_for-requires : goal.table_for-requires
table_for-requires g c =
    subst AreNodes (sym (c.nodes.ensures ∙ c.index-blocks-place.is)) (block_are c.args.key.now.owner c.args.blocks.now c.block_of-place.result c.index-blocks-place.result c.requires c.block_of-place.ensures)

pub returns : goal.returns
returns g c =
    let name = c.args.key.now.owner in
    let here = ap (table_at name) (c.nodes.ensures ∙ c.index-blocks-place.is) ∙ sym (table_here name c.args.blocks.now c.block_of-place.result c.index-blocks-place.result c.requires c.block_of-place.ensures) in
    subst (λ (o : Option _). MatchOption c.table_for.result (o ≡ None) (λ table. o ≡ Some table.now)) here c.table_for.ensures
