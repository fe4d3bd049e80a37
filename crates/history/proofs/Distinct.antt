-- Lists no two elements of which clash, and what holds of each element of a list.
use Rattle.std.proofs.Common.{◌≡◌, Bool, true, false, not, ◌&&◌, ◌||◌, List, [], ◌∷◌, ◌++◌, map, refl, ap, ◌∙◌}
use Rattle.std.specs.Prelude.{IsPermutation}
use Rattle.std.specs.List.{list_all, list_any, AllByRecursion, IsDistinct}
use Rattle.std.proofs.lemmas.List.Elements.{All-from_recursion, recursion_from_All}
use Rattle.std.proofs.lemmas.List.Sorted.{All-permutation}

-- ---- what holds of each

pub all-both : {X : Type 0} (P : X → Type 0) (a b : List X) → AllByRecursion P a → AllByRecursion P b → AllByRecursion P (a ++ b)
all-both P [] b h g = g
all-both P (x ∷ a) b h g = (h.0, all-both P a b h.1 g)

pub all-apart : {X : Type 0} (P : X → Type 0) (a b : List X) → AllByRecursion P (a ++ b) → AllByRecursion P a × AllByRecursion P b
all-apart P [] b h = (tt, h)
all-apart P (x ∷ a) b h = let rest = all-apart P a b h.1 in ((h.0, rest.0), rest.1)

pub all-as : {X : Type 0} (P Q : X → Type 0) → ((x : X) → P x → Q x) → (xs : List X) → AllByRecursion P xs → AllByRecursion Q xs
all-as P Q so [] h = tt
all-as P Q so (x ∷ xs) h = (so x h.0, all-as P Q so xs h.1)

pub all-map : {X Y : Type 0} (f : X → Y) (P : Y → Type 0) (xs : List X) → AllByRecursion P (map f xs) → AllByRecursion (λ x. P (f x)) xs
all-map f P [] h = tt
all-map f P (x ∷ xs) h = (h.0, all-map f P xs h.1)

pub all-fail : {X : Type 0} (p : X → Bool) (xs : List X) → list_all (λ x. not (p x)) xs ≡ true → AllByRecursion (λ x. p x ≡ false) xs
all-fail p [] h = tt
all-fail {X} p (x ∷ xs) h = by (p x) refl h (all-fail p xs)
  where
    by : (b : Bool) → p x ≡ b → (not b && list_all (λ y. not (p y)) xs) ≡ true → (list_all (λ y. not (p y)) xs ≡ true → AllByRecursion (λ y. p y ≡ false) xs) → AllByRecursion (λ y. p y ≡ false) (x ∷ xs)
    by true is h rest = cc
    by false is h rest = (is, rest h)

pub none-pass : {X : Type 0} (p : X → Bool) (xs : List X) → list_any p xs ≡ false → AllByRecursion (λ x. p x ≡ false) xs
none-pass p [] h = tt
none-pass {X} p (x ∷ xs) h = by (p x) refl h (none-pass p xs)
  where
    by : (b : Bool) → p x ≡ b → (b || list_any p xs) ≡ false → (list_any p xs ≡ false → AllByRecursion (λ y. p y ≡ false) xs) → AllByRecursion (λ y. p y ≡ false) (x ∷ xs)
    by true is h rest = cc
    by false is h rest = (is, rest h)

pub pass-none : {X : Type 0} (p : X → Bool) (xs : List X) → AllByRecursion (λ x. p x ≡ false) xs → list_any p xs ≡ false
pass-none p [] h = refl
pass-none p (x ∷ xs) h = ap (λ b. b || list_any p xs) h.0 ∙ pass-none p xs h.1

-- in another order
pub all-permuted : {X : Type 0} (P : X → Type 0) (xs ys : List X) → IsPermutation xs ys → AllByRecursion P xs → AllByRecursion P ys
all-permuted P xs ys moved h = recursion_from_All P ys (All-permutation P xs ys moved (All-from_recursion P xs h))

-- ---- no two clash

pub distinct-none : {X : Type 0} (clash : X → X → Bool) → IsDistinct clash []
unfolding IsDistinct
distinct-none clash = tt

-- the elements in front clash with none behind, which are distinct by themselves
pub distinct-front : {X : Type 0} (clash : X → X → Bool) (a b : List X) → IsDistinct clash (a ++ b) → AllByRecursion (λ x. AllByRecursion (λ y. clash x y ≡ false) b) a × IsDistinct clash b
unfolding IsDistinct
distinct-front clash [] b h = (tt, h)
distinct-front clash (x ∷ a) b h =
    let rest = distinct-front clash a b h.1 in
    (((all-apart (λ y. clash x y ≡ false) a b h.0).1, rest.0), rest.1)

-- and those in front too
pub distinct-apart : {X : Type 0} (clash : X → X → Bool) (a b : List X) → IsDistinct clash (a ++ b) → IsDistinct clash a
unfolding IsDistinct
distinct-apart clash [] b h = tt
distinct-apart clash (x ∷ a) b h = ((all-apart (λ y. clash x y ≡ false) a b h.0).0, distinct-apart clash a b h.1)

pub distinct-cons : {X : Type 0} (clash : X → X → Bool) (x : X) (xs : List X) → AllByRecursion (λ y. clash x y ≡ false) xs → IsDistinct clash xs → IsDistinct clash (x ∷ xs)
unfolding IsDistinct
distinct-cons clash x xs apart rest = (apart, rest)

-- the element at a place clashes with none of the others
pub distinct-parts : {X : Type 0} (clash : X → X → Bool) (a : List X) (x : X) (b : List X) → IsDistinct clash (a ++ x ∷ b) → AllByRecursion (λ y. clash y x ≡ false) a × AllByRecursion (λ y. clash x y ≡ false) b
unfolding IsDistinct
distinct-parts clash [] x b h = (tt, h.0)
distinct-parts clash (y ∷ a) x b h =
    let rest = distinct-parts clash a x b h.1 in
    let first = all-apart (λ z. clash y z ≡ false) a (x ∷ b) h.0 in
    ((first.1.0, rest.0), rest.1)

pub distinct-last : {X : Type 0} (clash : X → X → Bool) (a : List X) (x : X) → IsDistinct clash a → AllByRecursion (λ y. clash y x ≡ false) a → IsDistinct clash (a ++ x ∷ [])
unfolding IsDistinct
distinct-last clash [] x h before = (tt, h)
distinct-last clash (y ∷ a) x h before = (all-both (λ z. clash y z ≡ false) a (x ∷ []) h.0 (before.0, tt), distinct-last clash a x h.1 before.1)
