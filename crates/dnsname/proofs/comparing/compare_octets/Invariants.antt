use Rattle.std.proofs.Common.{◌≡◌, ◌+◌, ◌<◌, ◌-◌, length, min, take}
use Rattle.dnsname.proofs.comparing.compare_octets.Given as goal

-- the octets before the place are the same
abbrev pub invariant-eights : goal.invariant-eights
invariant-eights l = (l.last + 8 ≡ min (length l.first) (length l.second)) × (l.place < l.last + 8) × (take l.place l.first ≡ take l.place l.second)

abbrev pub decreases-eights : goal.decreases-eights
decreases-eights l = l.last + 8 - l.place
