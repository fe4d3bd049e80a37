use Rattle.std.proofs.Common.{◌≡◌, drop, fold}
use Rattle.nametable.specs.Nodes.{all_rows}
use Rattle.nametable.specs.Blocks.{nodes_in}
use Rattle.linkcache.specs.Rows.{put_shown, shown_rows}
use Rattle.linkcache.proofs.showing.shown_blocks.Given as goal

abbrev pub invariant-blocks-2 : goal.invariant-blocks-2
invariant-blocks-2 l = fold (put_shown l.rules) l.set.rows (all_rows (nodes_in (drop l.block-index l.blocks))) ≡ shown_rows l.rules (all_rows (nodes_in l.blocks))
