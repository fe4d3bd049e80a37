use Rattle.std.proofs.Common.{◌≡◌, take}
use Rattle.history.proofs.naming.copies_of.Given as goal

abbrev pub invariant-homes : goal.invariant-homes
invariant-homes l = l.copy.items ≡ take l.name-index l.homes
