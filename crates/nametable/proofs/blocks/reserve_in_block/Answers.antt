use Rattle.std.proofs.Common.{◌≡◌, ℕ, ◌≤◌, Option, is_some, false, get_or, set, subst, sym}
use Rattle.std.specs.Result.{OnOk}
use Rattle.nametable.specs.Nodes.{has_row, room_at}
use Rattle.nametable.specs.Blocks.{nodes_in}
use Rattle.nametable.proofs.NodeChanges.{KeepsRows}
use Rattle.nametable.proofs.BlockPlaces.{block_are, filled-changed, keeps_here, room_here, row_here}
use Rattle.nametable.proofs.blocks.reserve_in_block.Goals as goal

pub reserve-requires-clause-nodes : goal.reserve-requires-clause-nodes
reserve-requires-clause-nodes g c =
    block_are c.args.key.now.owner c.args.blocks.now c.args.place c.index-blocks-place.result c.requires.blocks c.requires.place

keeps : (g : _) (c : goal.After-reserve g) → KeepsRows c.args.key.now.owner (nodes_in c.args.blocks.now) (nodes_in (set c.args.blocks.now c.args.place c.reserve.new.self))
keeps g c =
    keeps_here c.args.key.now.owner c.args.blocks.now c.args.place c.index-blocks-place.result c.requires.blocks c.requires.place c.reserve.new.self c.reserve.ensures.only
    (record { are = c.reserve.ensures.nodes; rows = c.reserve.ensures.rows; room = c.reserve.ensures.kept })

pub returns-clause-blocks : goal.returns-clause-blocks
returns-clause-blocks g c = (
  (keeps g c).are,
  filled-changed c.args.key.now.owner c.args.blocks.now c.args.place c.index-blocks-place.result c.reserve.new.self c.requires.blocks.1 c.requires.place.within
      c.reserve.ensures.only,
)

pub returns-clause-rows : goal.returns-clause-rows
returns-clause-rows g c = (keeps g c).rows

pub returns-clause-room : goal.returns-clause-room
returns-clause-room g c =
    let blocks = c.args.blocks.now in
    let key = c.args.key.now in
    subst (λ (o : Option _). OnOk c.reserve.result (is_some o ≡ false → c.args.keys ≤ room_at (nodes_in (set blocks c.args.place c.reserve.new.self)) key.owner))
    (sym (row_here key blocks c.args.place c.index-blocks-place.result c.requires.blocks c.requires.place))
    (subst (λ (n : ℕ). OnOk c.reserve.result (has_row (get_or blocks c.args.place c.index-blocks-place.result) key ≡ false → c.args.keys ≤ n))
    (sym (room_here key.owner blocks c.args.place c.index-blocks-place.result c.requires.blocks c.requires.place c.reserve.new.self)) c.reserve.ensures.room)

pub returns-clause-kept : goal.returns-clause-kept
returns-clause-kept g c = (keeps g c).room
