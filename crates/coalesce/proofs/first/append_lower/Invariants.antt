use Rattle.std.proofs.Common.{◌≡◌, ◌++◌, map, take}
use Rattle.std.specs.Char.{to_ascii_lowercase}
use Rattle.coalesce.proofs.first.append_lower.Given as goal

abbrev pub invariant-octets : goal.invariant-octets
invariant-octets l = l.out ≡ l.fn.out ++ map to_ascii_lowercase (take l.octet-index l.octets)
