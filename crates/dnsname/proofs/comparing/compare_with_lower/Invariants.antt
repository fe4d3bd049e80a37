use Rattle.std.proofs.Common.{◌≡◌, drop, length, min}
use Rattle.dnsname.proofs.LowerOrder.{lower_cmp}
use Rattle.dnsname.proofs.comparing.compare_with_lower.Given as goal

abbrev pub invariant-octets : goal.invariant-octets
invariant-octets l = (l.shared ≡ min (length l.octets) (length l.other)) × (lower_cmp (drop l.index l.octets) (drop l.index l.other) ≡ lower_cmp l.octets l.other)
