use Rattle.std.proofs.Common.{◌∙◌, ◌%◌, ◌^◌, [], ◌∷◌, ap, sym, subst, length}
use Rattle.std.specs.Result.{IsOk}
use Rattle.rrset.specs.KeyedRows.{Rows}
use Rattle.nametable.specs.Nodes.{NodesState, all_rows, HasRoomFor}
use Rattle.nametable.specs.Blocks.{nodes_in}
use Rattle.nametable.proofs.AllRows.{rising-all_rows}
use Rattle.nametable.proofs.NodeSets.{count-put}
use Rattle.nametable.proofs.RoomLeft.{put-fits, put-left}
use Rattle.nametable.proofs.name_table.NameTable.put.Goals as goal

pub invariant_of-self : goal.invariant_of-self
invariant_of-self g c = (
  c.put_in_blocks.ensures.blocks,
  c.self.invariant.1 ∙ ap (λ (l : Rows _). length l % 2 ^ 64) (sym c.in_err-before.ensures.none),
  c.put_in_blocks.ensures.names,
)

pub invariant_of-self-2 : goal.invariant_of-self-2
invariant_of-self-2 g c = (
  c.put_in_blocks.ensures.blocks,
  count-put c.self.inside.count c.count_with-count.result c.args.key c.args.value (all_rows (nodes_in c.self.inside.blocks.items)) (all_rows (nodes_in c.put_in_blocks.new.blocks.items)) c.in_ok-before.before
      (rising-all_rows (nodes_in c.self.inside.blocks.items) c.self.invariant.0.0) c.self.invariant.1 c.in_ok-before.ensures.value c.in_ok-before.ensures.rows c.count_with-count.ensures,
  c.put_in_blocks.ensures.names,
)

pub returns-in_err-before-clause-left : goal.returns-in_err-before-clause-left
returns-in_err-before-clause-left g c = λ keys room.
    let now = c.put_in_blocks.ensures in
    put-left c.args.key c.args.value (nodes_in c.self.inside.blocks.items) (nodes_in c.put_in_blocks.new.blocks.items) c.put_in_blocks.result
    (record { are = now.blocks.0; value_before = now.value; rows = now.rows; none = now.none; succeeds = now.succeeds; here = now.here; others = now.others; kept = now.kept }) keys
    (subst (λ (t : NodesState _). HasRoomFor (c.args.key ∷ keys) t.nodes) (sym c.self.view_is) room)

pub returns-clause-left : goal.returns-clause-left
returns-clause-left g c = λ keys room.
    let now = c.put_in_blocks.ensures in
    put-left c.args.key c.args.value (nodes_in c.self.inside.blocks.items) (nodes_in c.put_in_blocks.new.blocks.items) c.put_in_blocks.result
    (record { are = now.blocks.0; value_before = now.value; rows = now.rows; none = now.none; succeeds = now.succeeds; here = now.here; others = now.others; kept = now.kept }) keys
    (subst (λ (t : NodesState _). HasRoomFor (c.args.key ∷ keys) t.nodes) (sym c.self.view_is) room)

pub returns-in_err-before-clause-in_room : goal.returns-in_err-before-clause-in_room
returns-in_err-before-clause-in_room g c = λ room.
    let now = c.put_in_blocks.ensures in
    let fits =
    subst IsOk c.in_err-before.was
    (put-fits c.args.key c.args.value (nodes_in c.self.inside.blocks.items) (nodes_in c.put_in_blocks.new.blocks.items) c.put_in_blocks.result
    (record { are = now.blocks.0; value_before = now.value; rows = now.rows; none = now.none; succeeds = now.succeeds; here = now.here; others = now.others; kept = now.kept }) []
    (subst (λ (t : NodesState _). HasRoomFor (c.args.key ∷ []) t.nodes) (sym c.self.view_is) room)) in
    absurd cc
