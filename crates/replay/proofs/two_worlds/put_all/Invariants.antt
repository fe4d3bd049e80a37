use Rattle.std.proofs.Common.{◌≡◌, ◌++◌}
use Rattle.replay.proofs.two_worlds.put_all.Given as goal

-- those so far, and those that are left
abbrev pub invariant-each : goal.invariant-each
invariant-each g l = l.all.items ++ l.one-iterator.rest.items ≡ l.fn.all.items ++ l.fn.rest.items
