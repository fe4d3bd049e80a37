-- What names end in: names that are one but for case, and names that end in two others.
use Rattle.std.proofs.Common.{◌≡◌, ℕ, zero, suc, ◌+◌, ◌≤◌, Bool, true, false, List, [], ◌∷◌, ◌++◌, length, map, take, drop, nat_lt, refl, sym, ap, ◌∙◌, arith, append_assoc}
use Rattle.std.specs.Char.{to_ascii_lowercase}
use Rattle.std.proofs.lemmas.Bool.{ltb-true, ltb-false}
use Rattle.std.proofs.lemmas.List.{length-append, length-map, map-append, drop_at, take-append-drop}
use Rattle.dnsname.specs.Names.{Labels, EndsIn, lower, same_name, ends_in}
use Rattle.dnsname.proofs.Decisions.{ends_in-Decides, same_name-Decides}

pub EndsIn-true : (name suffix : Labels) → ends_in name suffix ≡ true → EndsIn name suffix
EndsIn-true name suffix e = (ends_in-Decides name suffix).0 e

pub true-EndsIn : (name suffix : Labels) → EndsIn name suffix → ends_in name suffix ≡ true
true-EndsIn name suffix e = (ends_in-Decides name suffix).1 e

pub lower-append : (front last : Labels) → lower (front ++ last) ≡ lower front ++ lower last
lower-append front last = map-append (map to_ascii_lowercase) front last

pub lower-drop : (n : ℕ) (name : Labels) → lower (drop n name) ≡ drop n (lower name)
lower-drop zero name = refl
lower-drop (suc n) [] = refl
lower-drop (suc n) (label ∷ name) = lower-drop n name

-- names that are one but for case have as many labels
pub same_length : (a b : Labels) → lower a ≡ lower b → length a ≡ length b
same_length a b e = sym (length-map a (map to_ascii_lowercase)) ∙ ap (λ (n : Labels). length n) e ∙ length-map b (map to_ascii_lowercase)

pub ends_in-length : (name suffix : Labels) → ends_in name suffix ≡ true → length suffix ≤ length name
ends_in-length name suffix e =
    let (front, last, parts, same) = EndsIn-true name suffix e in
    let long : length name ≡ length front + length last = ap (λ (n : Labels). length n) parts ∙ length-append front last in
    let as_many : length last ≡ length suffix = same_length last suffix same in
    omega arith

-- a name ends in what another one ends in that is the same but for case
pub ends-alike : (name other suffix : Labels) → lower name ≡ lower other → EndsIn other suffix → EndsIn name suffix
ends-alike name other suffix same (front, last, parts, is) =
    let n = length front in
    let split : lower name ≡ lower front ++ lower last = same ∙ ap lower parts ∙ lower-append front last in
    (take n name, drop n name, sym (take-append-drop n name), lower-drop n name ∙ ap (drop n) split ∙ drop_at (lower front) (lower last) n (length-map front (map to_ascii_lowercase)) ∙ is)

pub ends_in-for : (a b suffix : Labels) → same_name a b ≡ true → ends_in a suffix ≡ true → ends_in b suffix ≡ true
ends_in-for a b suffix same e = true-EndsIn b suffix (ends-alike b a suffix (sym ((same_name-Decides a b).0 same)) (EndsIn-true a suffix e))

-- a name ends in each of two suffixes that are one
pub ends_in-same : (name a b : Labels) → same_name a b ≡ true → ends_in name a ≡ true → ends_in name b ≡ true
ends_in-same name a b same e =
    let ends = EndsIn-true name a e in
    true-EndsIn name b (ends.0, ends.1, ends.2, ends.3 ∙ (same_name-Decides a b).0 same)

pub tails : (x y : List ℕ) (f l : Labels) → x ∷ f ≡ y ∷ l → f ≡ l
tails x y f l e = cc

-- the longer of two ends of a list ends in the other
pub longer_end : (f l g m : Labels) → f ++ l ≡ g ++ m → length m ≤ length l → (h : Labels) × (l ≡ h ++ m)
longer_end [] l g m e few = (g, e)
longer_end (x ∷ f) l [] m e few =
    let long : suc (length f + length l) ≡ length m = ap suc (sym (length-append f l)) ∙ ap (λ (n : Labels). length n) e in
    absurd (omega arith)
longer_end (x ∷ f) l (y ∷ g) m e few = longer_end f l g m (tails x y (f ++ l) (g ++ m) e) few

-- of two suffixes, the longer ends in the other
pub ends_in-longer : (name a b : Labels) → ends_in name a ≡ true → ends_in name b ≡ true → length b ≤ length a → ends_in a b ≡ true
ends_in-longer name a b e f few =
    let in_a = EndsIn-true name a e in
    let in_b = EndsIn-true name b f in
    let l = in_a.1 in
    let m = in_b.1 in
    let long_l : length l ≡ length a = same_length l a in_a.3 in
    let long_m : length m ≡ length b = same_length m b in_b.3 in
    let found = longer_end in_a.0 l in_b.0 m (sym in_a.2 ∙ in_b.2) (omega arith) in
    let h = found.0 in
    let whole : lower a ≡ lower h ++ lower m = sym in_a.3 ∙ ap lower found.1 ∙ lower-append h m in
    let last : lower (drop (length h) a) ≡ lower b = lower-drop (length h) a ∙ ap (drop (length h)) whole ∙ drop_at (lower h) (lower m) (length h) (length-map h (map to_ascii_lowercase)) ∙ in_b.3 in
    true-EndsIn a b (take (length h) a, drop (length h) a, sym (take-append-drop (length h) a), last)

-- no name ends in two of which neither ends in the other
pub not-both : (name a b : Labels) → ends_in a b ≡ false → ends_in b a ≡ false → ends_in name a ≡ true → ends_in name b ≡ true → ⊥
not-both name a b ab ba e f = by (nat_lt (length a) (length b)) refl
  where
    by : (t : Bool) → nat_lt (length a) (length b) ≡ t → ⊥
    by true is =
        let few : length a ≤ length b = omega (arith, ltb-true (length a) (length b) is) in
        let there = ends_in-longer name b a f e few in
        absurd cc
    by false is =
        let there = ends_in-longer name a b e f (ltb-false (length a) (length b) is) in
        absurd cc

-- what ends in a name that ends in another ends in that
pub ends_in-through : (name a b : Labels) → ends_in name a ≡ true → ends_in a b ≡ true → ends_in name b ≡ true
ends_in-through name a b e f =
    let outer = EndsIn-true name a e in
    let inner = ends-alike outer.1 a b outer.3 (EndsIn-true a b f) in
    true-EndsIn name b (outer.0 ++ inner.0, inner.1, outer.2 ∙ ap (λ (l : Labels). outer.0 ++ l) inner.2 ∙ sym (append_assoc outer.0 inner.0 inner.1), inner.3)

-- a suffix with as many labels is the name
pub ends_in-all : (name suffix : Labels) → ends_in name suffix ≡ true → length name ≤ length suffix → same_name name suffix ≡ true
ends_in-all name suffix e few =
    let ends = EndsIn-true name suffix e in
    let long : length name ≡ length ends.0 + length ends.1 = ap (λ (n : Labels). length n) ends.2 ∙ length-append ends.0 ends.1 in
    let as_many : length ends.1 ≡ length suffix = same_length ends.1 suffix ends.3 in
    let no_front : length ends.0 ≡ 0 = omega arith in
    (same_name-Decides name suffix).1 (ap lower ends.2 ∙ ap (λ (f : Labels). lower (f ++ ends.1)) (none ends.0 no_front) ∙ ends.3)
  where
    none : (f : Labels) → length f ≡ 0 → f ≡ []
    none [] e = refl
    none (x ∷ f) e = absurd (omega arith)
