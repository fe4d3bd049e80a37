-- Where the numbers of their first octets differ, they order names as their octets do.
use Rattle.std.proofs.Common.{◌≡◌, ℕ, zero, suc, ◌<◌, List, [], ◌∷◌, ◌++◌, length, map, get_or, refl, sym, ap, subst, ◌∙◌, arith}
use Rattle.std.specs.Ordering.{nat_cmp, ordering_reverse, MatchOrdering}
use Rattle.std.specs.List.{AllByRecursion}
use Rattle.std.specs.declared.cmp.Ordering.{Ordering}
use Rattle.std.specs.declared.cmp.Ordering.TheVariants.{Less, Equal, Greater}
use Rattle.std.proofs.lemmas.Cmp.{ranked}
use Rattle.std.specs.Char.{to_ascii_lowercase}
use Rattle.std.specs.Int.{w64, from_be_bytes}
use Rattle.dnsname.specs.Names.{Labels, IsLabel, IsName, octets, lower}
use Rattle.dnsname.specs.Eights.{spelled}
use Rattle.dnsname.proofs.Eights.{spelled-less}
use Rattle.dnsname.proofs.Octets.{octets-cons}
use Rattle.dnsname.proofs.Spellings.{octets-lower, IsName-lower}
use Rattle.dnsname.proofs.Standing.{below-take}
use Rattle.nametable.specs.FirstOctets.{first_octets, HasFirst}
use Rattle.nametable.specs.Nodes.{name_cmp}
use Rattle.nametable.proofs.AllRows.{name_cmp_total}

abbrev AreBelow : List ℕ → Type 0
AreBelow os = AllByRecursion (λ o. o < 256) os

-- ---- the first eight octets

first-spelled : (os : List ℕ) → first_octets os ≡ spelled 0 8 os
first-spelled [] = refl
first-spelled (a ∷ []) = omega arith
first-spelled (a ∷ b ∷ []) = omega arith
first-spelled (a ∷ b ∷ c ∷ []) = omega arith
first-spelled (a ∷ b ∷ c ∷ d ∷ []) = omega arith
first-spelled (a ∷ b ∷ c ∷ d ∷ e ∷ []) = omega arith
first-spelled (a ∷ b ∷ c ∷ d ∷ e ∷ f ∷ []) = omega arith
first-spelled (a ∷ b ∷ c ∷ d ∷ e ∷ f ∷ g ∷ []) = omega arith
first-spelled (a ∷ b ∷ c ∷ d ∷ e ∷ f ∷ g ∷ h ∷ os) = omega arith

below-append : (xs ys : List ℕ) → AreBelow xs → AreBelow ys → AreBelow (xs ++ ys)
below-append [] ys h g = g
below-append (x ∷ xs) ys h g = (h.0, below-append xs ys h.1 g)

octets_below : (name : Labels) → AllByRecursion IsLabel name → AreBelow (octets name)
octets_below [] h = (omega arith, tt)
octets_below (l ∷ ls) h =
    let few = h.0.few in
    let small : length l < 256 = omega (arith, few) in
    subst AreBelow (sym (octets-cons l ls)) (small, below-append l (octets ls) h.0.octets (octets_below ls h.1))

name_less : (m n : ℕ) (a b : Labels) → HasFirst m a → HasFirst n b → m < n → name_cmp a b ≡ Less
name_less m n a b first other less =
    let left : m ≡ spelled 0 8 (octets a) = first.is ∙ first-spelled (octets a) in
    let right : n ≡ spelled 0 8 (octets b) = other.is ∙ first-spelled (octets b) in
    spelled-less 8 0 (octets a) (octets b) (below-take 8 (octets b) (octets_below b other.is_name.labels)) (subst (λ (k : ℕ). k < spelled 0 8 (octets b)) left (subst (λ (k : ℕ). m < k) right less))

-- the numbers decide, or the names are to be compared
pub by_first : (m n : ℕ) (a b : Labels) → HasFirst m a → HasFirst n b → (r : Ordering) → r ≡ nat_cmp m n → MatchOrdering r (name_cmp a b ≡ Less) (Unit {0}) (name_cmp a b ≡ Greater)
by_first m n a b first other Less is = name_less m n a b first other (ranked m n Less is)
by_first m n a b first other Equal is = tt
by_first m n a b first other Greater is = name_cmp_total.antisymm a b ∙ ap ordering_reverse (name_less n m b a other first (ranked m n Greater is))

-- ---- the number from octets one by one

pub has_first : (n : ℕ) (name : Labels) (os : List ℕ) (a b c d e f g h : ℕ) → IsName name → os ≡ octets name → n ≡ from_be_bytes w64 (a ∷ b ∷ c ∷ d ∷ e ∷ f ∷ g ∷ h ∷ [])
    → a ≡ get_or os 0 0 → b ≡ get_or os 1 0 → c ≡ get_or os 2 0 → d ≡ get_or os 3 0 → e ≡ get_or os 4 0 → f ≡ get_or os 5 0 → g ≡ get_or os 6 0 → h ≡ get_or os 7 0 → HasFirst n name
has_first n name os a b c d e f g h named os-is n-is a-is b-is c-is d-is e-is f-is g-is h-is = record {
  is_name = named;
  is = n-is ∙ (λ i. from_be_bytes w64 (a-is i ∷ b-is i ∷ c-is i ∷ d-is i ∷ e-is i ∷ f-is i ∷ g-is i ∷ h-is i ∷ [])) ∙ ap first_octets os-is;
}

lower-at : (os : List ℕ) (i : ℕ) → to_ascii_lowercase (get_or os i 0) ≡ get_or (map to_ascii_lowercase os) i 0
lower-at [] i = refl
lower-at (o ∷ os) zero = refl
lower-at (o ∷ os) (suc i) = lower-at os i

pub has_first-lower : (n : ℕ) (name : Labels) (os : List ℕ) (a b c d e f g h : ℕ) → IsName name → os ≡ octets name → n ≡ from_be_bytes w64 (a ∷ b ∷ c ∷ d ∷ e ∷ f ∷ g ∷ h ∷ [])
    → a ≡ to_ascii_lowercase (get_or os 0 0) → b ≡ to_ascii_lowercase (get_or os 1 0) → c ≡ to_ascii_lowercase (get_or os 2 0) → d ≡ to_ascii_lowercase (get_or os 3 0)
    → e ≡ to_ascii_lowercase (get_or os 4 0) → f ≡ to_ascii_lowercase (get_or os 5 0) → g ≡ to_ascii_lowercase (get_or os 6 0) → h ≡ to_ascii_lowercase (get_or os 7 0) → HasFirst n (lower name)
has_first-lower n name os a b c d e f g h named os-is n-is a-is b-is c-is d-is e-is f-is g-is h-is =
    has_first n (lower name) (map to_ascii_lowercase os) a b c d e f g h (IsName-lower name named) (ap (map to_ascii_lowercase) os-is ∙ octets-lower name named.labels) n-is
    (a-is ∙ lower-at os 0) (b-is ∙ lower-at os 1) (c-is ∙ lower-at os 2) (d-is ∙ lower-at os 3) (e-is ∙ lower-at os 4) (f-is ∙ lower-at os 5) (g-is ∙ lower-at os 6) (h-is ∙ lower-at os 7)
