use Rattle.std.proofs.Common.{◌≡◌, ◌*◌, take, drop}
use Rattle.push_base.specs.Hexadecimal.{octets_of_digits}
use Rattle.push_base.proofs.DigitPairs.{behind_front}
use Rattle.push_base.proofs.digits.put_octets.Given as goal

-- the octets so far, and what the digits that are left stand for
abbrev pub invariant-octets : goal.invariant-octets
invariant-octets l = octets_of_digits l.text ≡ behind_front (take l.index l.octets) (octets_of_digits (drop (2 * l.index) l.text))
