-- Names with other last labels: what they end in, and whether they can stand.
use Rattle.std.proofs.Common.{◌≡◌, ℕ, suc, ◌+◌, ◌-◌, ◌≤◌, Bool, true, false, cond, List, [], ◌∷◌, ◌++◌, length, take, map, refl, sym, ap, subst, ◌∙◌, arith}
use Rattle.std.specs.Prelude.{nat_le}
use Rattle.std.specs.List.{AllByRecursion}
use Rattle.std.specs.Char.{to_ascii_lowercase}
use Rattle.std.proofs.lemmas.Bool.{leb-true}
use Rattle.std.proofs.lemmas.List.{length-append, length-map, take_at}
use Rattle.dnsname.specs.Names.{Labels, IsLabel, IsName, EndsIn, max_name, octets, lower, ends_in, swapped_suffix}
use Rattle.dnsname.proofs.Octets.{octets-cons}
use Rattle.dnsname.proofs.Decisions.{ends_in-Decides}
use Rattle.dnsname.proofs.Endings.{length-lower}
use Rattle.dnsname.proofs.Suffixes.{ends-alike, lower-append}
use Rattle.dnsname.proofs.ReadAgain.{CanStand, fewer_labels}
use Rattle.linkmap.specs.Translation.{renamed, fits_a_name}

-- ---- what a renamed name is

pub renamed-front : (old new front last : Labels) → lower last ≡ lower old → renamed old new (front ++ last) ≡ front ++ new
renamed-front old new front last same =
    let name = front ++ last in
    let ends : ends_in name old ≡ true = (ends_in-Decides name old).1 (front, last, refl, same) in
    let as_many : length last ≡ length old = sym (length-map last (map to_ascii_lowercase)) ∙ ap length same ∙ length-map old (map to_ascii_lowercase) in
    let before : length name - length old ≡ length front = omega (arith, as_many, length-append front last) in
    let left : take (length name - length old) name ≡ front = ap (λ (n : ℕ). take n name) before ∙ take_at front last (length front) refl in
    ap (λ (b : Bool). cond b (swapped_suffix name old new) name) ends ∙ ap (λ (ls : Labels). ls ++ new) left

pub renamed-other : (old new name : Labels) → ends_in name old ≡ false → renamed old new name ≡ name
renamed-other old new name other = ap (λ (b : Bool). cond b (swapped_suffix name old new) name) other

-- the first labels of names that are one, with as many last labels
same_front : (a b : Labels) (x : Labels) → a ++ x ≡ b ++ x → a ≡ b
same_front a b x e =
    let many : length a ≡ length b = omega (arith, ap length e, length-append a x, length-append b x) in
    sym (take_at a x (length a) refl) ∙ ap (take (length a)) e ∙ take_at b x (length a) (sym many)

-- ---- to the domain and back

-- a name that ends in the first domain, or isn't touched by the way back, comes back
pub there_and_back : (first second name : Labels) → (ends_in name first ≡ false → ends_in name second ≡ false) → lower (renamed second first (renamed first second name)) ≡ lower name
there_and_back first second name other = by (ends_in name first) refl
  where
    by : (b : Bool) → ends_in name first ≡ b → lower (renamed second first (renamed first second name)) ≡ lower name
    by false is = ap (λ n. lower (renamed second first n)) (renamed-other first second name is) ∙ ap lower (renamed-other second first name (other is))
    by true is =
        let ends = (ends_in-Decides name first).0 is in
        let there : renamed first second name ≡ ends.0 ++ second = ap (renamed first second) ends.2 ∙ renamed-front first second ends.0 ends.1 ends.3 in
        ap (λ n. lower (renamed second first n)) there
        ∙ ap lower (renamed-front second first ends.0 second refl)
        ∙ lower-append ends.0 first
        ∙ ap (λ (ls : Labels). lower ends.0 ++ ls) (sym ends.3)
        ∙ sym (ap lower ends.2 ∙ lower-append ends.0 ends.1)

-- two names that end in the first domain, and are one with the second in its place, are one
pub both_renamed : (first second name other : Labels) → ends_in name first ≡ true → ends_in other first ≡ true → lower (renamed first second name) ≡ lower (renamed first second other) → lower name ≡ lower other
both_renamed first second name other is_name is_other same =
    let a = (ends_in-Decides name first).0 is_name in
    let b = (ends_in-Decides other first).0 is_other in
    let of_name : lower (renamed first second name) ≡ lower a.0 ++ lower second = ap (λ n. lower (renamed first second n)) a.2 ∙ ap lower (renamed-front first second a.0 a.1 a.3) ∙ lower-append a.0 second in
    let of_other : lower (renamed first second other) ≡ lower b.0 ++ lower second = ap (λ n. lower (renamed first second n)) b.2 ∙ ap lower (renamed-front first second b.0 b.1 b.3) ∙ lower-append b.0 second in
    let fronts : lower a.0 ≡ lower b.0 = same_front (lower a.0) (lower b.0) (lower second) (sym of_name ∙ same ∙ of_other) in
    ap lower a.2 ∙ lower-append a.0 a.1 ∙ ap (λ (ls : Labels). lower a.0 ++ ls) a.3
    ∙ ap (λ (ls : Labels). ls ++ lower first) fronts
    ∙ sym (ap lower b.2 ∙ lower-append b.0 b.1 ∙ ap (λ (ls : Labels). lower b.0 ++ ls) b.3)

-- a name that is renamed ends in the second domain
pub renamed_ends : (first second name : Labels) → ends_in name first ≡ true → EndsIn (renamed first second name) second
renamed_ends first second name is =
    let a = (ends_in-Decides name first).0 is in
    subst (λ n. EndsIn n second) (sym (ap (renamed first second) a.2 ∙ renamed-front first second a.0 a.1 a.3)) (a.0, second, refl, refl)

-- names that don't end in the second domain, and are one with it in place of the first, are one
pub each_renamed : (first second name other : Labels) → ends_in name second ≡ false → ends_in other second ≡ false → lower (renamed first second name) ≡ lower (renamed first second other) → lower name ≡ lower other
each_renamed first second name other not_name not_other same = by (ends_in name first) (ends_in other first) refl refl
  where
    outside : (renamed_one kept : Labels) → ends_in renamed_one first ≡ true → ends_in kept first ≡ false → ends_in kept second ≡ false → lower (renamed first second renamed_one) ≡ lower (renamed first second kept) → ⊥
    outside renamed_one kept ends no_first no_second e =
        let kept-is : renamed first second kept ≡ kept = renamed-other first second kept no_first in
        let there = (ends_in-Decides kept second).1 (ends-alike kept (renamed first second renamed_one) second (sym (e ∙ ap lower kept-is)) (renamed_ends first second renamed_one ends)) in
        absurd cc

    by : (a b : Bool) → ends_in name first ≡ a → ends_in other first ≡ b → lower name ≡ lower other
    by true true is_name is_other = both_renamed first second name other is_name is_other same
    by true false is_name is_other = absurd (outside name other is_name is_other not_other same)
    by false true is_name is_other = absurd (outside other name is_other is_name not_name (sym same))
    by false false is_name is_other = sym (ap lower (renamed-other first second name is_name)) ∙ same ∙ ap lower (renamed-other first second other is_other)

-- ---- names that can stand

abbrev pub HasLengths : Labels → Type 0
HasLengths name = AllByRecursion (λ label. (1 ≤ length label) × (length label ≤ 63)) name

pub can-lengths : (size : ℕ) (name : Labels) → CanStand size name → HasLengths name
can-lengths size [] can = tt
can-lengths size (label ∷ name) can = ((can.0.some, can.0.few), can-lengths (size + (1 + length label)) name can.1)

pub lengths-can : (size : ℕ) (name : Labels) → HasLengths name → size + length (octets name) ≤ 255 → CanStand size name
lengths-can size [] lengths fits = tt
lengths-can size (label ∷ name) lengths fits =
    let long : length (octets (label ∷ name)) ≡ suc (length label + length (octets name)) = ap (λ (t : List ℕ). length t) (octets-cons label name) ∙ ap suc (length-append label (octets name)) in
    let more = fewer_labels name in
    (record { some = lengths.0.0; few = lengths.0.1; fits = omega arith }, lengths-can (size + (1 + length label)) name lengths.1 (omega arith))

pub can-size : (size : ℕ) (name : Labels) → size + 1 ≤ 255 → CanStand size name → size + length (octets name) ≤ 255
can-size size [] small can = omega arith
can-size size (label ∷ name) small can =
    let long : length (octets (label ∷ name)) ≡ suc (length label + length (octets name)) = ap (λ (t : List ℕ). length t) (octets-cons label name) ∙ ap suc (length-append label (octets name)) in
    let rest = can-size (size + (1 + length label)) name (omega (arith, can.0.fits)) can.1 in
    omega (arith, rest, long)

labels-lengths : (name : Labels) → AllByRecursion IsLabel name → HasLengths name
labels-lengths [] h = tt
labels-lengths (label ∷ name) h = ((h.0.some, h.0.few), labels-lengths name h.1)

lengths-front : (front last : Labels) → HasLengths (front ++ last) → HasLengths front
lengths-front [] last h = tt
lengths-front (label ∷ front) last h = (h.0, lengths-front front last h.1)

lengths-together : (front last : Labels) → HasLengths front → HasLengths last → HasLengths (front ++ last)
lengths-together [] last h k = k
lengths-together (label ∷ front) last h k = (h.0, lengths-together front last h.1 k)

lengths-lower : (name : Labels) → HasLengths name → HasLengths (lower name)
lengths-lower [] h = tt
lengths-lower (label ∷ name) h =
    let long : length (map to_ascii_lowercase label) ≡ length label = length-map label to_ascii_lowercase in
    ((omega (arith, long, h.0.0), omega (arith, long, h.0.1)), lengths-lower name h.1)

pub can-lower : (name : Labels) → CanStand 0 name → CanStand 0 (lower name)
can-lower name can = lengths-can 0 (lower name) (lengths-lower name (can-lengths 0 name can)) (omega (arith, length-lower name, can-size 0 name (omega arith) can))

pub can-renamed : (old new name : Labels) → IsName new → CanStand 0 name → fits_a_name (renamed old new name) ≡ true → CanStand 0 (renamed old new name)
can-renamed old new name is can fits = lengths-can 0 (renamed old new name) (by (ends_in name old) refl) (omega (arith, leb-true (length (octets (renamed old new name))) 255 fits))
  where
    by : (b : Bool) → ends_in name old ≡ b → HasLengths (renamed old new name)
    by false other = subst HasLengths (sym (renamed-other old new name other)) (can-lengths 0 name can)
    by true ends =
        let a = (ends_in-Decides name old).0 ends in
        subst HasLengths (sym (ap (renamed old new) a.2 ∙ renamed-front old new a.0 a.1 a.3))
        (lengths-together a.0 new (lengths-front a.0 a.1 (subst HasLengths a.2 (can-lengths 0 name can))) (labels-lengths new is.labels))

lengths-raised : (name : Labels) → HasLengths (lower name) → HasLengths name
lengths-raised [] h = tt
lengths-raised (label ∷ name) h =
    let long : length (map to_ascii_lowercase label) ≡ length label = length-map label to_ascii_lowercase in
    ((omega (arith, long, h.0.0), omega (arith, long, h.0.1)), lengths-raised name h.1)

-- a name that is another but for case can stand where that can
pub can-as : (name other : Labels) → lower name ≡ lower other → CanStand 0 other → CanStand 0 name
can-as name other same can =
    let low = subst (CanStand 0) (sym same) (can-lower other can) in
    lengths-can 0 name (lengths-raised name (can-lengths 0 (lower name) low)) (omega (arith, length-lower name, can-size 0 (lower name) (omega arith) low))

-- ---- names that are one but for case

pub renamed_alike : (old new name other : Labels) → lower name ≡ lower other → lower (renamed old new name) ≡ lower (renamed old new other)
renamed_alike old new name other same = by (ends_in name old) (ends_in other old) refl refl
  where
    by : (a b : Bool) → ends_in name old ≡ a → ends_in other old ≡ b → lower (renamed old new name) ≡ lower (renamed old new other)
    by true true is_name is_other =
        let a = (ends_in-Decides name old).0 is_name in
        let b = (ends_in-Decides other old).0 is_other in
        let of_name : lower name ≡ lower a.0 ++ lower old = ap lower a.2 ∙ lower-append a.0 a.1 ∙ ap (λ (ls : Labels). lower a.0 ++ ls) a.3 in
        let of_other : lower other ≡ lower b.0 ++ lower old = ap lower b.2 ∙ lower-append b.0 b.1 ∙ ap (λ (ls : Labels). lower b.0 ++ ls) b.3 in
        let fronts : lower a.0 ≡ lower b.0 = same_front (lower a.0) (lower b.0) (lower old) (sym of_name ∙ same ∙ of_other) in
        ap (λ n. lower (renamed old new n)) a.2 ∙ ap lower (renamed-front old new a.0 a.1 a.3) ∙ lower-append a.0 new
        ∙ ap (λ (ls : Labels). ls ++ lower new) fronts
        ∙ sym (ap (λ n. lower (renamed old new n)) b.2 ∙ ap lower (renamed-front old new b.0 b.1 b.3) ∙ lower-append b.0 new)
    by true false is_name is_other = let yes_ = (ends_in-Decides other old).1 (ends-alike other name old (sym same) ((ends_in-Decides name old).0 is_name)) in absurd cc
    by false true is_name is_other = let yes_ = (ends_in-Decides name old).1 (ends-alike name other old same ((ends_in-Decides other old).0 is_other)) in absurd cc
    by false false is_name is_other = ap lower (renamed-other old new name is_name) ∙ same ∙ sym (ap lower (renamed-other old new other is_other))

pub ends-as : (name other suffix : Labels) → lower name ≡ lower other → ends_in name suffix ≡ ends_in other suffix
ends-as name other suffix same = by (ends_in name suffix) (ends_in other suffix) refl refl
  where
    by : (a b : Bool) → ends_in name suffix ≡ a → ends_in other suffix ≡ b → ends_in name suffix ≡ ends_in other suffix
    by true true is_name is_other = is_name ∙ sym is_other
    by true false is_name is_other = let yes_ = (ends_in-Decides other suffix).1 (ends-alike other name suffix (sym same) ((ends_in-Decides name suffix).0 is_name)) in absurd cc
    by false true is_name is_other = let yes_ = (ends_in-Decides name suffix).1 (ends-alike name other suffix same ((ends_in-Decides other suffix).0 is_other)) in absurd cc
    by false false is_name is_other = is_name ∙ sym is_other

pub fits-as : (name other : Labels) → lower name ≡ lower other → fits_a_name name ≡ fits_a_name other
fits-as name other same = ap (λ (k : ℕ). nat_le k max_name) (sym (length-lower name) ∙ ap (λ (ls : Labels). length (octets ls)) same ∙ length-lower other)
