use Rattle.std.proofs.Common.{◌≡◌, drop, length, min}
use Rattle.dnsname.proofs.CaselessOrder.{both_lower_cmp}
use Rattle.dnsname.proofs.as_key.compare_in_lower_case.Given as goal

abbrev pub invariant-octets : goal.invariant-octets
invariant-octets l = (l.shared ≡ min (length l.first) (length l.second)) × (both_lower_cmp (drop l.index l.first) (drop l.index l.second) ≡ both_lower_cmp l.first l.second)
