-- Names as keys, but for upper and lower case (RFC 1035, 2.3.3).
--     caseless_octets      the octets of a name in lower case
--     name_order      the order of names but for case: that of these octets
--     as_same_key      names that are one give the same
use Rattle.std.specs.Prelude.{◌≡◌, ℕ, List, true}
use Rattle.std.specs.Cmp.Lexicographic.{slice_cmp, bytes_decides}
use Rattle.std.specs.Ordering.{nat_cmp}
use Rattle.std.specs.declared.cmp.Ordering.{Ordering}
use Rattle.std.proofs.Common.{ap}
use Rattle.dnsname.specs.Names.{Labels, octets, lower, same_name}

abbrev pub caseless_octets : Labels → List ℕ
caseless_octets name = octets (lower name)

abbrev pub name_order : Labels → Labels → Ordering
name_order a b = slice_cmp nat_cmp (caseless_octets a) (caseless_octets b)

pub as_same_key : {X : Type 0} (f : List ℕ → X) (a b : Labels) → same_name a b ≡ true → f (caseless_octets a) ≡ f (caseless_octets b)
as_same_key f a b same = ap f ((bytes_decides (caseless_octets a) (caseless_octets b)).0 same)
