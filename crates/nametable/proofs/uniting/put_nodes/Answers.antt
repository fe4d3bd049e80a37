use Rattle.std.proofs.Common.{◌∙◌, sym, ap}
use Rattle.std.proofs.lemmas.List.{drop_all}
use Rattle.rrset.specs.RecordSet.{union}
use Rattle.rrset.specs.Tables.{TableState}
use Rattle.rrset.specs.declared.record.Shown.{Shown}
use Rattle.nametable.specs.Nodes.{Nodes, all_rows}
use Rattle.nametable.proofs.NodeUnions.{union-next}
use Rattle.nametable.proofs.uniting.put_nodes.Goals as goal

pub nodes-preserved : goal.nodes-preserved
nodes-preserved c =
    let rows = c.entries.ensures.rows ∙ ap (λ (t : TableState Shown). t.rows) c.table.ensures in
    union-next c.nodes.all.rows c.put_all.new.all.rows _ c.args.nodes.now c.nodes.node-index c.node-item.result c.nodes-test.true c.node-item.is
    (c.in_ok-put_all.ensures.all ∙ ap (union c.nodes.all.rows) rows) c.nodes.invariant

pub returns : goal.returns
returns c =
    ap (λ (ns : Nodes Shown). union c.nodes.all.rows (all_rows ns)) (sym (drop_all c.nodes.node-index c.args.nodes.now c.nodes-test.false)) ∙ c.nodes.invariant
