use Rattle.std.proofs.Common.{◌∙◌, sym, ap}
use Rattle.std.proofs.lemmas.List.{drop_all}
use Rattle.rrset.specs.RecordSet.{union}
use Rattle.rrset.specs.declared.record.Shown.{Shown}
use Rattle.nametable.specs.Nodes.{Nodes, all_rows}
use Rattle.nametable.specs.Blocks.{Blocks, nodes_in}
use Rattle.nametable.proofs.NodeUnions.{union-next-block}
use Rattle.nametable.proofs.uniting.put_blocks.Goals as goal

pub blocks-2-preserved : goal.blocks-2-preserved
blocks-2-preserved c =
    union-next-block c.blocks-2.all.rows c.put_nodes.new.all.rows _ c.args.blocks.now c.blocks-2.block-index c.block-item.result c.blocks-2-test.true c.block-item.is
    (c.in_ok-put_nodes.ensures ∙ ap (λ (ns : Nodes Shown). union c.blocks-2.all.rows (all_rows ns)) c.nodes.ensures) c.blocks-2.invariant

pub returns : goal.returns
returns c =
    ap (λ (bs : Blocks Shown). union c.blocks-2.all.rows (all_rows (nodes_in bs))) (sym (drop_all c.blocks-2.block-index c.args.blocks.now c.blocks-2-test.false)) ∙ c.blocks-2.invariant
