use Rattle.std.proofs.Common.{◌∙◌, fold, sym, ap, subst}
use Rattle.std.proofs.lemmas.List.{drop_all}
use Rattle.rrset.specs.Tables.{TableState}
use Rattle.nametable.specs.Nodes.{Nodes, all_rows}
use Rattle.linkcache.specs.declared.row.HeardRow.{HeardRow}
use Rattle.linkcache.specs.Rows.{LinkRows, put_shown}
use Rattle.linkcache.specs.Sound.{AreLinkRows}
use Rattle.linkcache.proofs.ShownNodes.{node-sound, shown-next}
use Rattle.linkcache.proofs.showing.put_shown_nodes.Goals as goal

pub put_shown_rows-requires : goal.put_shown_rows-requires
put_shown_rows-requires c =
    let rows = c.entries.ensures.rows ∙ ap (λ (t : TableState HeardRow). t.rows) c.table.ensures in
    subst (AreLinkRows c.args.rules.now) (sym rows) (node-sound c.args.rules.now c.args.nodes.now c.nodes.node-index c.node-item.result c.requires c.nodes-test.true c.node-item.is)

pub nodes-preserved : goal.nodes-preserved
nodes-preserved c =
    let rows = c.entries.ensures.rows ∙ ap (λ (t : TableState HeardRow). t.rows) c.table.ensures in
    shown-next c.args.rules.now c.nodes.set.rows c.put_shown_rows.new.set.rows _ c.args.nodes.now c.nodes.node-index c.node-item.result c.nodes-test.true c.node-item.is
    (c.in_ok-put_shown_rows.ensures ∙ ap (λ (l : LinkRows). fold (put_shown c.args.rules.now) c.nodes.set.rows l) rows) c.nodes.invariant

pub returns : goal.returns
returns c =
    ap (λ (ns : Nodes HeardRow). fold (put_shown c.args.rules.now) c.nodes.set.rows (all_rows ns)) (sym (drop_all c.nodes.node-index c.args.nodes.now c.nodes-test.false)) ∙ c.nodes.invariant
