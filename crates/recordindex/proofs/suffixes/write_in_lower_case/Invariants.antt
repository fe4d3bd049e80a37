use Rattle.std.proofs.Common.{◌≡◌, length, map, take}
use Rattle.std.specs.Char.{to_ascii_lowercase}
use Rattle.recordindex.proofs.suffixes.write_in_lower_case.Given as goal

abbrev pub invariant-octets : goal.invariant-octets
invariant-octets l = (take l.index l.out ≡ map to_ascii_lowercase (take l.index l.octets)) × (length l.out ≡ length l.fn.out)
