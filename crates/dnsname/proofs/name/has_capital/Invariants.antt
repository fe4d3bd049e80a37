use Rattle.std.proofs.Common.{◌≡◌, ◌||◌, drop}
use Rattle.dnsname.proofs.Capitals.{has_capital}
use Rattle.dnsname.proofs.name.has_capital.Given as goal

-- what was found, and what is left
abbrev pub invariant-letters : goal.invariant-letters
invariant-letters l = (l.found || has_capital (drop l.index l.octets)) ≡ has_capital l.octets
