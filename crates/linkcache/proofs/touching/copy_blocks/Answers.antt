use Rattle.std.proofs.Common.{◌∙◌, ◌++◌, ap}
use Rattle.nametable.specs.Nodes.{Nodes, all_rows}
use Rattle.linkcache.specs.declared.row.HeardRow.{HeardRow}
use Rattle.linkcache.proofs.RowCopies.{next-block}
use Rattle.linkcache.proofs.touching.copy_blocks.Goals as goal

pub blocks-2-preserved : goal.blocks-2-preserved
blocks-2-preserved c =
    next-block c.blocks-2.all.items c.copy_nodes.new.all.items _ c.args.blocks.now c.blocks-2.block-index c.block-item.result c.blocks-2-test.true c.block-item.is
    (c.in_ok-copy_nodes.ensures ∙ ap (λ (ns : Nodes HeardRow). c.blocks-2.all.items ++ all_rows ns) c.nodes.ensures) c.blocks-2.invariant
