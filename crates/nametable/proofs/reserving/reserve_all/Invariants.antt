use Rattle.std.proofs.Common.{◌≡◌, ◌≤◌, take}
use Rattle.dnsname.specs.Names.{Labels}
use Rattle.nametable.specs.Nodes.{all_rows, keys_put, room_at}
use Rattle.nametable.specs.Blocks.{AreBlocks, nodes_in}
use Rattle.nametable.proofs.KeyRoom.{HasRoomAtOwners}
use Rattle.nametable.proofs.reserving.reserve_all.Given as goal

abbrev pub invariant-changes : goal.invariant-changes
invariant-changes g l = AreBlocks l.blocks.items × (all_rows (nodes_in l.blocks.items) ≡ all_rows (nodes_in l.fn.blocks.items))
    × ((name : Labels) → room_at (nodes_in l.fn.blocks.items) name ≤ room_at (nodes_in l.blocks.items) name)
    × HasRoomAtOwners (keys_put l.changed) (take l.change-index l.changed) (nodes_in l.blocks.items)
