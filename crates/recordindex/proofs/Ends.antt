-- The names that a name ends in: how often one is among them, and that a name ends in these alone.
use Rattle.std.proofs.Common.{◌≡◌, ℕ, ◌+◌, ◌<◌, ◌≤◌, Bool, true, false, cond, List, [], ◌∷◌, ◌++◌, length, map, nat_lt, refl, sym, ap, subst, ◌∙◌, arith}
use Rattle.std.specs.Prelude.{◌||◌}
use Rattle.std.specs.Char.{to_ascii_lowercase}
use Rattle.std.specs.List.{AllByRecursion, list_any}
use Rattle.std.proofs.lemmas.Bool.{ltb-true, ltb-false}
use Rattle.std.proofs.lemmas.List.{length-append}
use Rattle.std.proofs.lemmas.Str.Ascii.{lowercase-lowercase}
use Rattle.dnsname.specs.Names.{Labels, IsName, ends_in, lower, octets}
use Rattle.dnsname.specs.Octets.{labels_of}
use Rattle.dnsname.proofs.Octets.{octets-cons, octets_injective}
use Rattle.dnsname.proofs.Spellings.{spells, view_of}
use Rattle.dnsname.proofs.Suffixes.{EndsIn-true, true-EndsIn}
use Rattle.recordindex.specs.Endings.{AreLow, IsLowerName, ends_of, same_octets, times}
use Rattle.recordindex.proofs.OctetTests.{same-is, same-refl}

-- ---- how often

-- how often names end in the name with these octets
abbrev pub ending_in : List ℕ → List Labels → ℕ
ending_in os [] = 0
ending_in os (name ∷ names) = times os (ends_of name) + ending_in os names

one_more : (t : Bool) (n : ℕ) → n ≤ cond t 1 0 + n
one_more true n = omega arith
one_more false n = omega arith

longer : (label : List ℕ) (name : Labels) → length (octets name) < length (octets (label ∷ name))
longer label name = omega (arith, ap length (octets-cons label name), length-append label (octets name))

pub times-first : (name : Labels) (names : List Labels) → 1 ≤ times (octets name) (name ∷ names)
times-first name names = omega (arith, ap (λ (t : Bool). cond {A = ℕ} t 1 0) (same-refl (octets name)))

pub times-self : (name : Labels) → 1 ≤ times (octets name) (ends_of name)
times-self [] = times-first [] []
times-self (label ∷ name) = times-first (label ∷ name) (ends_of name)

-- ---- names in lower case

lower_label-twice : (label : List ℕ) → map to_ascii_lowercase (map to_ascii_lowercase label) ≡ map to_ascii_lowercase label
lower_label-twice [] = refl
lower_label-twice (o ∷ os) = λ i. lowercase-lowercase o i ∷ lower_label-twice os i

lower-twice : (name : Labels) → lower (lower name) ≡ lower name
lower-twice [] = refl
lower-twice (label ∷ name) = λ i. lower_label-twice label i ∷ lower-twice name i

-- a name in lower case
abbrev pub IsLow : Labels → Type 0
IsLow name = IsName name × (lower name ≡ name)

tails : (x y : List ℕ) (a b : Labels) → x ∷ a ≡ y ∷ b → a ≡ b
tails x y a b e = cc

pub behind-low : (label : List ℕ) (name : Labels) → IsLow (label ∷ name) → IsLow name
behind-low label name is = (
  record { labels = is.0.labels.1; size = omega (arith, is.0.size, longer label name) },
  tails (map to_ascii_lowercase label) label (lower name) name is.1,
)

pub ends-low : (name : Labels) → IsLow name → AllByRecursion IsLow (ends_of name)
ends-low [] is = (is, tt)
ends-low (label ∷ name) is = (is, ends-low name (behind-low label name is))

pub octets-low : (name : Labels) → IsLow name → IsLowerName (octets name)
octets-low name is =
    let me : labels_of (octets name) ≡ name = view_of (octets name) name is.0.labels refl in
    record {
      spells = spells (octets name) name is.0 refl;
      lower = ap lower me ∙ is.1 ∙ sym me;
    }

-- ---- which names a name ends in

-- octets that are an end's
found_end : (os : List ℕ) (name : Labels) → 1 ≤ times os (ends_of name) → (front last : Labels) × (name ≡ front ++ last) × (os ≡ octets last)
found_end os [] some = by (same_octets os (octets [])) refl some
  where
    by : (t : Bool) → same_octets os (octets []) ≡ t → 1 ≤ cond t 1 0 + 0 → (front last : Labels) × ([] ≡ front ++ last) × (os ≡ octets last)
    by true is some = ([], [], refl, same-is os (octets []) is)
    by false is some = absurd (omega arith)
found_end os (label ∷ name) some = by (same_octets os (octets (label ∷ name))) refl some (found_end os name)
  where
    by : (t : Bool) → same_octets os (octets (label ∷ name)) ≡ t → 1 ≤ cond t 1 0 + times os (ends_of name)
        → (1 ≤ times os (ends_of name) → (front last : Labels) × (name ≡ front ++ last) × (os ≡ octets last))
        → (front last : Labels) × (label ∷ name ≡ front ++ last) × (os ≡ octets last)
    by true is some others = ([], label ∷ name, refl, same-is os (octets (label ∷ name)) is)
    by false is some others =
        let o = others (omega arith) in (label ∷ o.0, o.1, ap (λ (n : Labels). label ∷ n) o.2, o.3)

pub end-found : (front last : Labels) → 1 ≤ times (octets last) (ends_of (front ++ last))
end-found [] [] = times-first [] []
end-found [] (label ∷ last) = times-first (label ∷ last) (ends_of last)
end-found (label ∷ front) last = omega (arith, end-found front last, one_more (same_octets (octets last) (octets (label ∷ (front ++ last)))) (times (octets last) (ends_of (front ++ last))))

-- the last labels of a name in lower case are in lower case
last_low : (front last : Labels) → lower (front ++ last) ≡ front ++ last → lower last ≡ last
last_low [] last low = low
last_low (label ∷ front) last low = last_low front last (tails (map to_ascii_lowercase label) label (lower (front ++ last)) (front ++ last) low)

pub counts-end : (owner name : Labels) → lower owner ≡ owner → nat_lt 0 (times (octets (lower name)) (ends_of owner)) ≡ ends_in owner name
counts-end owner name low = by (nat_lt 0 (times (octets (lower name)) (ends_of owner))) (ends_in owner name) refl refl
  where
    by : (a b : Bool) → nat_lt 0 (times (octets (lower name)) (ends_of owner)) ≡ a → ends_in owner name ≡ b → a ≡ b
    by true true a-is b-is = refl
    by false false a-is b-is = refl
    by true false a-is b-is =
        let f = found_end (octets (lower name)) owner (omega (arith, ltb-true 0 (times (octets (lower name)) (ends_of owner)) a-is)) in
        let last-is : lower name ≡ f.1 = octets_injective (lower name) f.1 f.3 in
        let ends : ends_in owner name ≡ true = true-EndsIn owner name (f.0, f.1, f.2, ap lower (sym last-is) ∙ lower-twice name) in
        absurd cc
    by false true a-is b-is =
        let e = EndsIn-true owner name b-is in
        let last-is : e.1 ≡ lower name = sym (last_low e.0 e.1 (ap lower (sym e.2) ∙ low ∙ e.2)) ∙ e.3 in
        let there : 1 ≤ times (octets (lower name)) (ends_of owner) =
        subst (λ (whole : Labels). 1 ≤ times (octets (lower name)) (ends_of whole)) (sym e.2)
        (subst (λ (last : Labels). 1 ≤ times (octets last) (ends_of (e.0 ++ e.1))) last-is (end-found e.0 e.1)) in
        absurd (omega (arith, ltb-false 0 (times (octets (lower name)) (ends_of owner)) a-is))

lt-or : (a b : ℕ) → nat_lt 0 (a + b) ≡ (nat_lt 0 a || nat_lt 0 b)
lt-or a b = by (nat_lt 0 a) (nat_lt 0 b) (nat_lt 0 (a + b)) refl refl refl
  where
    by : (s t r : Bool) → nat_lt 0 a ≡ s → nat_lt 0 b ≡ t → nat_lt 0 (a + b) ≡ r → r ≡ (s || t)
    by true t true s-is t-is r-is = refl
    by true t false s-is t-is r-is = absurd (omega (arith, ltb-true 0 a s-is, ltb-false 0 (a + b) r-is))
    by false true true s-is t-is r-is = refl
    by false true false s-is t-is r-is = absurd (omega (arith, ltb-true 0 b t-is, ltb-false 0 (a + b) r-is))
    by false false true s-is t-is r-is = absurd (omega (arith, ltb-false 0 a s-is, ltb-false 0 b t-is, ltb-true 0 (a + b) r-is))
    by false false false s-is t-is r-is = refl

-- one of several names ends in a name where one is counted at its octets in lower case
pub any-counted : (name : Labels) (names : List Labels) → AreLow names → nat_lt 0 (ending_in (octets (lower name)) names) ≡ list_any (λ other. ends_in other name) names
any-counted name [] low = refl
any-counted name (other ∷ others) low =
    lt-or (times (octets (lower name)) (ends_of other)) (ending_in (octets (lower name)) others)
    ∙ ap (λ (t : Bool). t || nat_lt 0 (ending_in (octets (lower name)) others)) (counts-end other name low.0)
    ∙ ap (λ (t : Bool). ends_in other name || t) (any-counted name others low.1)

-- ---- the ends of an end

times-behind : (os : List ℕ) (front last : Labels) → times os (ends_of last) ≤ times os (ends_of (front ++ last))
times-behind os [] last = omega arith
times-behind os (label ∷ front) last = omega (arith, times-behind os front last, one_more (same_octets os (octets (label ∷ (front ++ last)))) (times os (ends_of (front ++ last))))

-- a name that an end of an owner ends in is one in which the owner ends
ends-twice : (name owner end : Labels) → 1 ≤ times (octets name) (ends_of owner) → 1 ≤ times (octets end) (ends_of name) → 1 ≤ times (octets end) (ends_of owner)
ends-twice name owner end some there =
    let f = found_end (octets name) owner some in
    let last-is : name ≡ f.1 = octets_injective name f.1 f.3 in
    let behind : 1 ≤ times (octets end) (ends_of f.1) = subst (λ (n : Labels). 1 ≤ times (octets end) (ends_of n)) last-is there in
    subst (λ (n : Labels). 1 ≤ times (octets end) (ends_of n)) (sym f.2) (omega (arith, behind, times-behind (octets end) f.0 f.1))

pub ending-ends : (name end : Labels) (owners : List Labels) → 1 ≤ ending_in (octets name) owners → 1 ≤ times (octets end) (ends_of name) → 1 ≤ ending_in (octets end) owners
ending-ends name end [] some there = absurd (omega arith)
ending-ends name end (owner ∷ owners) some there = by (nat_lt 0 (times (octets name) (ends_of owner))) refl (λ more. ending-ends name end owners more there)
  where
    by : (t : Bool) → nat_lt 0 (times (octets name) (ends_of owner)) ≡ t → (1 ≤ ending_in (octets name) owners → 1 ≤ ending_in (octets end) owners) → 1 ≤ times (octets end) (ends_of owner) + ending_in (octets end) owners
    by true is others =
        let here : 1 ≤ times (octets name) (ends_of owner) = omega (arith, ltb-true 0 (times (octets name) (ends_of owner)) is) in
        omega (arith, ends-twice name owner end here there)
    by false is others =
        let behind : 1 ≤ ending_in (octets name) owners = omega (arith, some, ltb-false 0 (times (octets name) (ends_of owner)) is) in
        omega (arith, others behind)

-- a name ends in itself
times-within : (os : List ℕ) (name : Labels) → cond {A = ℕ} (same_octets os (octets name)) 1 0 ≤ times os (ends_of name)
times-within os [] = omega arith
times-within os (label ∷ name) = omega arith

pub times-ending : (os : List ℕ) (names : List Labels) → times os names ≤ ending_in os names
times-ending os [] = omega arith
times-ending os (name ∷ names) = omega (arith, times-within os name, times-ending os names)
