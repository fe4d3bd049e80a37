use Rattle.std.proofs.Common.{◌≡◌}
use Rattle.std.specs.List.{filter}
use Rattle.nametable.specs.Nodes.{has_rows}
use Rattle.nametable.proofs.Turns.{front}
use Rattle.nametable.proofs.blocks.empty_blocks.Given as goal

abbrev pub invariant-blocks-2 : goal.invariant-blocks-2
invariant-blocks-2 g l = l.blocks ≡ front (filter has_rows) l.place l.fn.blocks
