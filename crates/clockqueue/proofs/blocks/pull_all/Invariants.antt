use Rattle.std.proofs.Common.{◌≡◌, length}
use Rattle.clockqueue.specs.Tiers.{HasHole, joined}
use Rattle.clockqueue.proofs.blocks.pull_all.Given as goal

abbrev pub invariant-holes : goal.invariant-holes
invariant-holes g l = HasHole l.len l.place l.blocks × (joined l.blocks ≡ joined l.fn.blocks) × (length l.blocks ≡ length l.fn.blocks)
