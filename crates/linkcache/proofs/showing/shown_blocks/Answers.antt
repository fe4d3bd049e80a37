use Rattle.std.proofs.Common.{◌∙◌, fold, sym, ap, subst}
use Rattle.std.proofs.lemmas.List.{drop_all}
use Rattle.nametable.specs.Nodes.{Nodes, all_rows}
use Rattle.nametable.specs.Blocks.{Blocks, nodes_in}
use Rattle.linkcache.specs.declared.row.HeardRow.{HeardRow}
use Rattle.linkcache.specs.Rows.{put_shown}
use Rattle.linkcache.specs.Sound.{AreLinkRows}
use Rattle.linkcache.proofs.ShownNodes.{block-sound, shown-next-block}
use Rattle.linkcache.proofs.showing.shown_blocks.Goals as goal

pub put_shown_nodes-requires : goal.put_shown_nodes-requires
put_shown_nodes-requires c =
    subst (λ (ns : Nodes HeardRow). AreLinkRows c.args.rules.now (all_rows ns)) (sym c.nodes.ensures)
    (block-sound c.args.rules.now c.args.blocks.now c.blocks-2.block-index c.block-item.result c.requires c.blocks-2-test.true c.block-item.is)

pub blocks-2-preserved : goal.blocks-2-preserved
blocks-2-preserved c =
    shown-next-block c.args.rules.now c.blocks-2.set.rows c.put_shown_nodes.new.set.rows _ c.args.blocks.now c.blocks-2.block-index c.block-item.result c.blocks-2-test.true c.block-item.is
    (c.in_ok-put_shown_nodes.ensures ∙ ap (λ (ns : Nodes HeardRow). fold (put_shown c.args.rules.now) c.blocks-2.set.rows (all_rows ns)) c.nodes.ensures) c.blocks-2.invariant

pub returns : goal.returns
returns c =
    ap (λ (bs : Blocks HeardRow). fold (put_shown c.args.rules.now) c.blocks-2.set.rows (all_rows (nodes_in bs))) (sym (drop_all c.blocks-2.block-index c.args.blocks.now c.blocks-2-test.false)) ∙ c.blocks-2.invariant
