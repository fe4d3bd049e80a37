use Rattle.std.proofs.Common.{◌≡◌}
use Rattle.linkcache.proofs.planning.look_for_all.Given as goal

abbrev pub invariant-hearing : goal.invariant-hearing
invariant-hearing l = l.rows ≡ l.fn.rows
