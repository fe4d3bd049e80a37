use Rattle.std.proofs.Common.{◌≡◌, ◌++◌, drop}
use Rattle.nametable.specs.Nodes.{all_rows}
use Rattle.nametable.specs.Blocks.{nodes_in}
use Rattle.linkcache.proofs.touching.copy_blocks.Given as goal

abbrev pub invariant-blocks-2 : goal.invariant-blocks-2
invariant-blocks-2 l = l.all.items ++ all_rows (nodes_in (drop l.block-index l.blocks)) ≡ l.fn.all.items ++ all_rows (nodes_in l.blocks)
