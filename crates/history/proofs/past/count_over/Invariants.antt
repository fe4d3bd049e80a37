use Rattle.std.proofs.Common.{◌≡◌, ℕ, ◌<◌, false, drop, sum_by}
use Rattle.history.specs.States.{entry_size, journal_has_room}
use Rattle.history.proofs.past.count_over.Given as goal

abbrev pub invariant-oldest : goal.invariant-oldest
invariant-oldest l = (l.left ≡ sum_by entry_size (drop l.index l.entries.items)) × ((n : ℕ) → n < l.index → journal_has_room (drop n l.entries.items) l.size ≡ false)
