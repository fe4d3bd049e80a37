use Rattle.std.proofs.Common.{◌≡◌, ◌||◌, drop}
use Rattle.push_base.proofs.DigitPairs.{has_other}
use Rattle.push_base.proofs.digits.has_other.Given as goal

-- what was found, and what is left
abbrev pub invariant-octets : goal.invariant-octets
invariant-octets l = (l.found || has_other (drop l.index l.text)) ≡ has_other l.text
