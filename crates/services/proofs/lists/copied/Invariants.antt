use Rattle.std.proofs.Common.{◌≡◌, ◌++◌, drop}
use Rattle.services.proofs.lists.copied.Given as goal

-- what was copied, and what is left
abbrev pub invariant-rdatas : goal.invariant-rdatas
invariant-rdatas l = l.copies.items ++ drop l.rdata-index l.fn.all ≡ l.fn.all
