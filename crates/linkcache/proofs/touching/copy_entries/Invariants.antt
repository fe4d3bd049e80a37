use Rattle.std.proofs.Common.{◌≡◌, ◌++◌, drop}
use Rattle.linkcache.proofs.touching.copy_entries.Given as goal

abbrev pub invariant-entries : goal.invariant-entries
invariant-entries l = l.all.items ++ drop l.key-index l.entries ≡ l.fn.all.items ++ l.entries
