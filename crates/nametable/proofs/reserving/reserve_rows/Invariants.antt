use Rattle.std.proofs.Common.{◌≡◌, ◌≤◌, take}
use Rattle.dnsname.specs.Names.{Labels}
use Rattle.nametable.specs.Nodes.{all_rows, keys_of, room_at}
use Rattle.nametable.specs.Blocks.{AreBlocks, nodes_in}
use Rattle.nametable.proofs.KeyRoom.{HasRoomAtRows}
use Rattle.nametable.proofs.reserving.reserve_rows.Given as goal

abbrev pub invariant-rows : goal.invariant-rows
invariant-rows g l = AreBlocks l.blocks.items × (all_rows (nodes_in l.blocks.items) ≡ all_rows (nodes_in l.fn.blocks.items))
    × ((name : Labels) → room_at (nodes_in l.fn.blocks.items) name ≤ room_at (nodes_in l.blocks.items) name)
    × HasRoomAtRows (keys_of l.rows.rows) (take l.key-index l.key-items) (nodes_in l.blocks.items)
