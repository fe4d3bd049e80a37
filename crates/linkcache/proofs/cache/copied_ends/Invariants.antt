use Rattle.std.proofs.Common.{◌≡◌, ◌++◌, drop}
use Rattle.linkcache.proofs.cache.copied_ends.Given as goal

abbrev pub invariant-ends : goal.invariant-ends
invariant-ends l = l.copy.items ++ drop l.number l.ends.deadlines ≡ l.fn.ends.deadlines
