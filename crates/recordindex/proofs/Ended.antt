-- A name is in use where one of the names counted ends in it.
use Rattle.std.proofs.Common.{◌≡◌, ℕ, zero, suc, ◌+◌, ◌≤◌, Bool, true, false, cond, List, [], ◌∷◌, length, nat_lt, Option, Some, refl, sym, ap, ◌∙◌, arith, Vec, Global}
use Rattle.std.specs.Cmp.Lexicographic.{slice_cmp}
use Rattle.std.specs.List.{AllByRecursion}
use Rattle.std.specs.List.Sorted.{IsStrictlySortedBy}
use Rattle.std.specs.Map.{keys_of}
use Rattle.std.specs.Ordering.{is_eq, nat_cmp}
use Rattle.std.specs.declared.cmp.Ordering.{Ordering}
use Rattle.std.specs.declared.cmp.Ordering.TheVariants.{Less}
use Rattle.std.proofs.lemmas.Bool.{ltb-true, ltb-false}
use Rattle.std.proofs.lemmas.List.{length-append}
use Rattle.std.proofs.lemmas.Map.Keys.{sorted_head, sorted_tail}
use Rattle.dnsname.specs.Names.{Labels, max_name, octets}
use Rattle.dnsname.specs.Octets.{labels_of}
use Rattle.dnsname.proofs.Octets.{length-octets, octets-cons, octets_injective}
use Rattle.recordindex.specs.Endings.{Agrees, AreLowerNames, IsLowerName, Kept, above_of, counted_at, ending_at, ends_of, is_used, number_or, room_of, same_octets, times, used_at, using, weight}
use Rattle.recordindex.proofs.OctetTests.{false-not-true, same-is, same-refl}
use Rattle.recordindex.proofs.Using.{above-cons, ends-used, used-counted, used-some}
use Rattle.recordindex.proofs.Ends.{end-found, ending-ends, ending_in, times-ending, times-first}

abbrev pub key_cmp : Vec ℕ Global → Vec ℕ Global → Ordering
key_cmp a b = slice_cmp nat_cmp a.items b.items

abbrev pub Sorted : Kept → Type 0
Sorted kept = IsStrictlySortedBy key_cmp (keys_of kept)

same-turned : (a b : List ℕ) → same_octets a b ≡ false → same_octets b a ≡ false
same-turned a b apart = by (same_octets b a) refl
  where
    by : (t : Bool) → same_octets b a ≡ t → t ≡ false
    by false is = refl
    by true is = false-not-true (same_octets a b) apart (ap (same_octets a) (same-is b a is) ∙ same-refl a)

-- the keys behind one have other octets
pub behind_apart : (os : List ℕ) (key : Vec ℕ Global) (keys : List (Vec ℕ Global)) → os ≡ key.items → AllByRecursion (λ (k : Vec ℕ Global). slice_cmp nat_cmp key.items k.items ≡ Less) keys
    → AllByRecursion (λ (k : Vec ℕ Global). same_octets os k.items ≡ false) keys
behind_apart os key [] is less = tt
behind_apart os key (k ∷ keys) is less = (ap (λ (o : List ℕ). same_octets o k.items) is ∙ ap is_eq less.0, behind_apart os key keys is less.1)

pub all-found : (kept : Kept) → Sorted kept → AllByRecursion (λ e. ending_at e.0.items kept ≡ Some e.1) kept
all-found [] sorted = tt
all-found (e ∷ es) sorted = (
  ap (λ (t : Bool). cond t (Some e.1) (ending_at e.0.items es)) (same-refl e.0.items),
  later es (behind_apart e.0.items e.0 (keys_of es) refl (sorted_head key_cmp e.0 (keys_of es) sorted)) (all-found es (sorted_tail key_cmp e.0 (keys_of es) sorted)),
)
  where
    later : (fs : Kept) → AllByRecursion (λ (k : Vec ℕ Global). same_octets e.0.items k.items ≡ false) (keys_of fs) → AllByRecursion (λ f. ending_at f.0.items es ≡ Some f.1) fs
        → AllByRecursion (λ f. ending_at f.0.items (e ∷ es) ≡ Some f.1) fs
    later [] apart found = tt
    later (f ∷ fs) apart found = (
      ap (λ (t : Bool). cond t (Some e.1) (ending_at f.0.items es)) (same-turned e.0.items f.0.items apart.0) ∙ found.0,
      later fs apart.1 found.1,
    )

-- ---- where one of the names ends, it is in use

-- of several names with one property, so has that which has these octets
one-of : (kept : Kept) (os : List ℕ) (names : List Labels) → AllByRecursion (λ end. used_at (octets end) kept ≡ true) names → 1 ≤ times os names → used_at os kept ≡ true
one-of kept os [] all some = absurd (omega (arith, some))
one-of kept os (name ∷ names) all some = by (same_octets os (octets name)) refl some (one-of kept os names all.1)
  where
    by : (t : Bool) → same_octets os (octets name) ≡ t → 1 ≤ cond t 1 0 + times os names → (1 ≤ times os names → used_at os kept ≡ true) → used_at os kept ≡ true
    by true is some others = ap (λ (o : List ℕ). used_at o kept) (same-is os (octets name) is) ∙ all.0
    by false is some others = others (omega (arith, some))

one_more : (t : Bool) (n : ℕ) → n ≤ cond t 1 0 + n
one_more true n = omega arith
one_more false n = omega arith

-- each of the names is in use
all-used : (names : List Labels) (kept : Kept) → Agrees names kept → (some : List Labels) → ((os : List ℕ) → times os some ≤ times os names) → AllByRecursion (λ name. used_at (octets name) kept ≡ true) some
all-used names kept agrees [] within = tt
all-used names kept agrees (name ∷ more) within = (
  used-counted (octets name) kept (omega (arith, agrees (octets name) (omega (arith, length-octets name)), within (octets name), times-first name more)),
  all-used names kept agrees more (λ os. omega (arith, within os, one_more (same_octets os (octets name)) (times os more))),
)

ended-used : (os : List ℕ) (names : List Labels) (kept : Kept) → Agrees names kept → (some : List Labels) → AllByRecursion (λ name. used_at (octets name) kept ≡ true) some → 1 ≤ ending_in os some → used_at os kept ≡ true
ended-used os names kept agrees [] used any = absurd (omega (arith, any))
ended-used os names kept agrees (name ∷ more) used any = first (nat_lt 0 (times os (ends_of name))) refl (ended-used os names kept agrees more used.1)
  where
    first : (t : Bool) → nat_lt 0 (times os (ends_of name)) ≡ t → (1 ≤ ending_in os more → used_at os kept ≡ true) → used_at os kept ≡ true
    first true is others = one-of kept os (ends_of name) (ends-used name names kept agrees used.0) (omega (arith, ltb-true 0 (times os (ends_of name)) is))
    first false is others = others (omega (arith, any, ltb-false 0 (times os (ends_of name)) is))

pub used-ends : (name : Labels) (names : List Labels) (kept : Kept) → Agrees names kept → 1 ≤ ending_in (octets name) names → used_at (octets name) kept ≡ true
used-ends name names kept agrees any = ended-used (octets name) names kept agrees names (all-used names kept agrees names (λ os. omega arith)) any

-- ---- where it is in use, one of the names ends

-- one that is counted at a name
abbrev pub IsChild : Labels → Kept → Type 0
IsChild name kept = (label : List ℕ) × (used_at (octets (label ∷ name)) kept ≡ true)

-- octets of a place are a name's, so that they are few
used-short : (os : List ℕ) (es : Kept) → AllByRecursion IsLowerName (room_of es) → used_at os es ≡ true → length os ≤ max_name
used-short os [] names used = absurd cc
used-short os (e ∷ es) names used = by (same_octets os e.0.items) refl used (used-short os es names.1)
  where
    by : (b : Bool) → same_octets os e.0.items ≡ b → is_used (number_or (cond b (Some e.1) (ending_at os es))) ≡ true → (used_at os es ≡ true → length os ≤ max_name) → length os ≤ max_name
    by true b-is used others = omega (arith, ap length (same-is os e.0.items b-is ∙ names.0.spells.spelled), names.0.spells.is_name.size)
    by false b-is used others = others used

child-of : (name front : Labels) (os : List ℕ) → os ≡ octets front → same_octets (octets name) (above_of os) ≡ true → (label : List ℕ) × (front ≡ label ∷ name)
child-of name [] os os-is same =
    let is : octets name ≡ [] = same-is (octets name) (above_of os) same ∙ ap above_of os-is in
    absurd (omega (arith, ap length is, length-octets name))
child-of name (label ∷ front) os os-is same =
    let is : octets name ≡ octets front = same-is (octets name) (above_of os) same ∙ ap above_of os-is ∙ above-cons label front in
    (label, ap (λ (n : Labels). label ∷ n) (sym (octets_injective name front is)))

found-child : (name : Labels) (kept es : Kept) → AllByRecursion (λ e. ending_at e.0.items kept ≡ Some e.1) es → AllByRecursion IsLowerName (room_of es) → 1 ≤ using (octets name) es → IsChild name kept
found-child name kept [] found names some = absurd (omega (arith, some))
found-child name kept (e ∷ es) found names some =
    by (is_used e.1) (same_octets (octets name) (above_of e.0.items)) refl refl some (found-child name kept es found.1 names.1)
  where
    by : (a b : Bool) → is_used e.1 ≡ a → same_octets (octets name) (above_of e.0.items) ≡ b → 1 ≤ weight a b + using (octets name) es → (1 ≤ using (octets name) es → IsChild name kept) → IsChild name kept
    by true true a-is b-is some others =
        let c = child-of name (labels_of e.0.items) e.0.items names.0.spells.spelled b-is in
        let spelled : e.0.items ≡ octets (c.0 ∷ name) = names.0.spells.spelled ∙ ap octets c.1 in (
          c.0,
          ap (λ (o : List ℕ). used_at o kept) (sym spelled) ∙ ap (λ (o : Option ℕ). is_used (number_or o)) found.0 ∙ a-is,
        )
    by true false a-is b-is some others = others (omega (arith, some))
    by false b a-is b-is some others = others (omega (arith, some))

used-ended : (left : ℕ) (name : Labels) (names : List Labels) (kept : Kept) → Agrees names kept → AreLowerNames kept → Sorted kept → suc max_name ≤ left + length (octets name) → used_at (octets name) kept ≡ true
    → 1 ≤ ending_in (octets name) names
used-ended zero name names kept agrees low sorted enough used = absurd (omega (arith, enough, used-short (octets name) kept low used))
used-ended (suc left) name names kept agrees low sorted enough used =
    by (nat_lt 0 (times (octets name) names)) refl
    (λ label child.
    used-ended left (label ∷ name) names kept agrees low sorted (omega (arith, enough, ap length (octets-cons label name), length-append label (octets name))) child)
  where
    counted : 1 ≤ times (octets name) names + using (octets name) kept
    counted = omega (arith, used-some (counted_at (octets name) kept) used, agrees (octets name) (omega (arith, length-octets name)))

    by : (t : Bool) → nat_lt 0 (times (octets name) names) ≡ t
        → ((label : List ℕ) → used_at (octets (label ∷ name)) kept ≡ true → 1 ≤ ending_in (octets (label ∷ name)) names)
        → 1 ≤ ending_in (octets name) names
    by true is again = omega (arith, ltb-true 0 (times (octets name) names) is, times-ending (octets name) names)
    by false is again =
        let child = found-child name kept kept (all-found kept sorted) low (omega (arith, counted, ltb-false 0 (times (octets name) names) is)) in
        ending-ends (child.0 ∷ name) name names (again child.0 child.1) (end-found (child.0 ∷ []) name)

-- a name is in use where one of the names ends in it, and nowhere else
pub used-is-ended : (name : Labels) (names : List Labels) (kept : Kept) → Agrees names kept → AreLowerNames kept → Sorted kept → used_at (octets name) kept ≡ nat_lt 0 (ending_in (octets name) names)
used-is-ended name names kept agrees low sorted = by (used_at (octets name) kept) (nat_lt 0 (ending_in (octets name) names)) refl refl
  where
    by : (a b : Bool) → used_at (octets name) kept ≡ a → nat_lt 0 (ending_in (octets name) names) ≡ b → a ≡ b
    by true true a-is b-is = refl
    by false false a-is b-is = refl
    by true false a-is b-is = absurd (omega (arith, used-ended (suc max_name) name names kept agrees low sorted (omega arith) a-is, ltb-false 0 (ending_in (octets name) names) b-is))
    by false true a-is b-is = false-not-true (used_at (octets name) kept) a-is (used-ends name names kept agrees (omega (arith, ltb-true 0 (ending_in (octets name) names) b-is)))
