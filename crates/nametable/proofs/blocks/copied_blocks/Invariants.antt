use Rattle.std.proofs.Common.{take}
use Rattle.nametable.specs.Nodes.{AreAlike}
use Rattle.nametable.specs.Blocks.{nodes_in, AreFilled}
use Rattle.nametable.proofs.blocks.copied_blocks.Given as goal

abbrev pub invariant-blocks-2 : goal.invariant-blocks-2
invariant-blocks-2 g l = AreAlike (nodes_in l.copies.items) (nodes_in (take l.block-index l.block-items)) × AreFilled l.copies.items
