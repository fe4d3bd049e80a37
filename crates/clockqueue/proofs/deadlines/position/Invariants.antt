use Rattle.std.proofs.Common.{◌≡◌, false}
use Rattle.std.specs.List.{AllWithin}
use Rattle.clockqueue.specs.Deadlines.{is_of}
use Rattle.clockqueue.proofs.deadlines.position.Given as goal

abbrev pub invariant-places : goal.invariant-places
invariant-places g l = AllWithin (λ d. is_of g.K.Ord.cmp l.key d ≡ false) l.entries.items 0 l.index
