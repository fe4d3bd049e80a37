-- Where the numbers of their owners' first octets differ, they order keys.
use Rattle.std.proofs.Common.{◌≡◌, ℕ, ◌<◌, ap}
use Rattle.std.specs.Cmp.{nat_cmp_is}
use Rattle.std.specs.Ordering.{nat_cmp, ordering_then}
use Rattle.std.specs.declared.cmp.Ordering.{Ordering}
use Rattle.std.specs.declared.cmp.Ordering.TheVariants.{Less, Greater}
use Rattle.nametable.specs.FirstOctets.{HasFirst}
use Rattle.nametable.proofs.NumberOrder.{by_first}
use Rattle.rrset.specs.Records.{key_cmp, octets_cmp}
use Rattle.rrset.specs.declared.record.Key.{Key}

-- the order of two keys, whose owners have this order
abbrev by_owners : Key → Key → Ordering → Ordering
by_owners a b owners = ordering_then owners (ordering_then (nat_cmp a.kind b.kind) (ordering_then (octets_cmp a.rdata b.rdata) (nat_cmp a.class b.class)))

pub first-less : (m n : ℕ) (a b : Key) → HasFirst m a.owner → HasFirst n b.owner → m < n → key_cmp a b ≡ Less
first-less m n a b first other less = ap (by_owners a b) (by_first m n a.owner b.owner first other Less (nat_cmp_is m n Less less))

pub first-greater : (m n : ℕ) (a b : Key) → HasFirst m a.owner → HasFirst n b.owner → n < m → key_cmp a b ≡ Greater
first-greater m n a b first other greater = ap (by_owners a b) (by_first m n a.owner b.owner first other Greater (nat_cmp_is m n Greater greater))
