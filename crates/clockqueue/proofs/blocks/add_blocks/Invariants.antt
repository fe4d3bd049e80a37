use Rattle.std.proofs.Common.{◌≡◌, ◌≤◌, ◌-◌, length, max}
use Rattle.clockqueue.specs.Tiers.{IsTier, joined}
use Rattle.clockqueue.proofs.blocks.add_blocks.Given as goal

abbrev pub invariant-numbers : goal.invariant-numbers
invariant-numbers g l =
    IsTier l.len l.blocks.items × (joined l.blocks.items ≡ joined l.fn.blocks.items) × (length l.fn.blocks.items ≤ length l.blocks.items) × (length l.blocks.items ≤ max (length l.fn.blocks.items) l.count)

abbrev pub decreases-numbers : goal.decreases-numbers
decreases-numbers g l = l.count - length l.blocks.items
