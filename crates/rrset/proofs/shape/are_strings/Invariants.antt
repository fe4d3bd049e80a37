use Rattle.std.proofs.Common.{◌≡◌, drop}
use Rattle.rrset.specs.Rdata.{are_strings}
use Rattle.rrset.proofs.shape.are_strings.Given as goal

abbrev pub invariant-octets : goal.invariant-octets
invariant-octets l = are_strings l.wanted (drop l.octet-index l.octets) ≡ are_strings 0 l.octets
