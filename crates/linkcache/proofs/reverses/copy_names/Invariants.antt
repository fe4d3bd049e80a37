use Rattle.std.proofs.Common.{◌≡◌, ◌++◌, drop}
use Rattle.linkcache.proofs.reverses.copy_names.Given as goal

abbrev pub invariant-names : goal.invariant-names
invariant-names l = l.copy.items ++ drop l.name-index l.names ≡ l.fn.copy.items ++ l.names
