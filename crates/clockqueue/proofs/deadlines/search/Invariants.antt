use Rattle.std.proofs.Common.{◌≡◌, ◌≤◌, ◌-◌, length}
use Rattle.std.specs.List.{AllWithin}
use Rattle.std.specs.declared.cmp.Ordering.TheVariants.{Less, Greater}
use Rattle.clockqueue.specs.Deadlines.{due_cmp}
use Rattle.clockqueue.proofs.deadlines.search.Given as goal

abbrev pub invariant-halves : goal.invariant-halves
invariant-halves g l =
    AllWithin (λ d. due_cmp g.K.Ord.cmp d (l.moment, l.key) ≡ Less) l.entries.items 0 l.low × AllWithin (λ d. due_cmp g.K.Ord.cmp d (l.moment, l.key) ≡ Greater) l.entries.items l.high (length l.entries.items)
    × (l.low ≤ l.high) × (l.high ≤ length l.entries.items)

abbrev pub decreases-halves : goal.decreases-halves
decreases-halves g l = l.high - l.low
