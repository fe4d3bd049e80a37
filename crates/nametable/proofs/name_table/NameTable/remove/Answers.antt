use Rattle.std.proofs.Common.{sym, subst}
use Rattle.nametable.specs.Nodes.{NodesState, all_rows, HasRoomFor}
use Rattle.nametable.specs.Blocks.{nodes_in}
use Rattle.nametable.proofs.AllRows.{rising-all_rows}
use Rattle.nametable.proofs.NodeSets.{count-without}
use Rattle.nametable.proofs.RoomLeft.{drop-left}
use Rattle.nametable.proofs.name_table.NameTable.remove.Goals as goal

pub invariant_of-self : goal.invariant_of-self
invariant_of-self g c = (
  c.remove_in_blocks-removed.ensures.blocks,
  count-without c.self.inside.count c.count_without-count.result c.args.key.now (all_rows (nodes_in c.self.inside.blocks.items)) (all_rows (nodes_in c.remove_in_blocks-removed.new.blocks.items)) c.remove_in_blocks-removed.result
      (rising-all_rows (nodes_in c.self.inside.blocks.items) c.self.invariant.0.0) c.self.invariant.1 c.remove_in_blocks-removed.ensures.value c.remove_in_blocks-removed.ensures.rows c.count_without-count.ensures,
  c.remove_in_blocks-removed.ensures.names,
)

pub returns-clause-left : goal.returns-clause-left
returns-clause-left g c = λ keys room.
    let now = c.remove_in_blocks-removed.ensures in
    drop-left c.args.key.now (nodes_in c.self.inside.blocks.items) (nodes_in c.remove_in_blocks-removed.new.blocks.items) c.remove_in_blocks-removed.result
    (record { are = now.blocks.0; value_before = now.value; rows = now.rows; room = now.room; freed = now.freed }) keys
    (subst (λ (t : NodesState _). HasRoomFor keys t.nodes) (sym c.self.view_is) room)
