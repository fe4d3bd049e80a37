-- Names that are one but for case, and names that are not.
use Rattle.std.proofs.Common.{◌≡◌, Bool, true, false, refl, sym, ◌∙◌, ap}
use Rattle.std.specs.Str.{bytes_eq}
use Rattle.dnsname.specs.Names.{Labels, octets, lower, same_name}
use Rattle.dnsname.proofs.Decisions.{same_name-Decides}
use Rattle.rrset.proofs.LowerNames.{lower-twice}
use Rattle.rrset.proofs.WithChanges.{both_ways}

pub same_name-swapped : (a b : Labels) → same_name a b ≡ true → same_name b a ≡ true
same_name-swapped a b e = (same_name-Decides b a).1 (sym ((same_name-Decides a b).0 e))

pub same_name-joined : (a b c : Labels) → same_name a b ≡ true → same_name b c ≡ true → same_name a c ≡ true
same_name-joined a b c e f = (same_name-Decides a c).1 ((same_name-Decides a b).0 e ∙ (same_name-Decides b c).0 f)

pub same_name-lower : (a b : Labels) → same_name a (lower b) ≡ same_name a b
same_name-lower a b = ap (λ (n : Labels). bytes_eq (octets (lower a)) (octets n)) (lower-twice b)

-- what is the same as one of two other names isn't the same as the other
pub same_name-apart : (a b c : Labels) → same_name a b ≡ false → same_name b c ≡ true → same_name a c ≡ false
same_name-apart a b c e f = by (same_name a c) refl
  where
    by : (t : Bool) → same_name a c ≡ t → t ≡ false
    by true g = sym (same_name-joined a c b g (same_name-swapped b c f)) ∙ e
    by false g = refl

pub same_name-turned : (a b : Labels) → same_name a b ≡ same_name b a
same_name-turned a b = both_ways (same_name a b) (same_name b a) (same_name-swapped a b) (same_name-swapped b a)
