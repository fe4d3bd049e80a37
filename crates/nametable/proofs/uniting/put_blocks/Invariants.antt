use Rattle.std.proofs.Common.{◌≡◌, drop}
use Rattle.rrset.specs.RecordSet.{union}
use Rattle.nametable.specs.Nodes.{all_rows}
use Rattle.nametable.specs.Blocks.{nodes_in}
use Rattle.nametable.proofs.uniting.put_blocks.Given as goal

abbrev pub invariant-blocks-2 : goal.invariant-blocks-2
invariant-blocks-2 l = union l.all.rows (all_rows (nodes_in (drop l.block-index l.blocks))) ≡ union l.fn.all.rows (all_rows (nodes_in l.blocks))
