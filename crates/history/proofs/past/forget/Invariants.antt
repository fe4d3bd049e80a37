use Rattle.std.proofs.Common.{◌≡◌, ◌+◌, drop, sum_by}
use Rattle.history.specs.States.{entry_size}
use Rattle.history.proofs.past.forget.Given as goal

abbrev pub invariant-oldest : goal.invariant-oldest
invariant-oldest l = (l.entries.items ≡ drop l.index l.fn.entries.items) × (l.octets + sum_by entry_size l.entries.items ≡ sum_by entry_size l.fn.entries.items)
