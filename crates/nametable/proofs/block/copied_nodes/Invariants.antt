use Rattle.std.proofs.Common.{take}
use Rattle.nametable.specs.Nodes.{AreAlike}
use Rattle.nametable.proofs.block.copied_nodes.Given as goal

abbrev pub invariant-nodes : goal.invariant-nodes
invariant-nodes g l = AreAlike l.copies.items (take l.node-index l.node-items)
