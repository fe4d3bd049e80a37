use Rattle.std.proofs.Common.{subst, ap, ◌∙◌}
use Rattle.rrset.specs.KeyedRows.{Rows}
use Rattle.rrset.specs.Tables.{HaveLowerOwners}
use Rattle.rrset.specs.declared.record.Shown.{Shown}
use Rattle.nametable.specs.Blocks.{nodes_in}
use Rattle.nametable.specs.Nodes.{NodesState}
use Rattle.nametable.proofs.AllRows.{rising-all_rows}
use Rattle.nametable.proofs.RisingRows.{Rising}
use Rattle.recordindex.proofs.OwnerChanges.{lows-nodes}
use Rattle.recordindex.proofs.counting.tell_order.Goals as goal

pub returns-clause-lower : goal.returns-clause-lower
returns-clause-lower c =
    subst HaveLowerOwners (c.blocks-2.ensures.rows ∙ ap (λ (t : NodesState Shown). t.rows) c.table.ensures) (lows-nodes (nodes_in c.blocks-2.result.now) c.blocks-2.ensures.nodes.1)

pub returns-clause-order : goal.returns-clause-order
returns-clause-order c =
    subst (λ (rows : Rows Shown). Rising rows) (c.blocks-2.ensures.rows ∙ ap (λ (t : NodesState Shown). t.rows) c.table.ensures) (rising-all_rows (nodes_in c.blocks-2.result.now) c.blocks-2.ensures.nodes)
