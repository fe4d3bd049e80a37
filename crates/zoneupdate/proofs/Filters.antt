-- Parts of lists, by tests.
use Rattle.std.proofs.Common.{◌≡◌, Bool, true, false, cond, not, ◌&&◌, ◌||◌, T, List, [], ◌∷◌, filter, refl, sym, ap, subst, ◌∙◌}
use Rattle.std.specs.List.{list_all}

-- ---- truth

pub is_true : (b : Bool) → T b → b ≡ true
is_true true h = refl
is_true false h = absurd h

pub holds : (b : Bool) → b ≡ true → T b
holds b e = subst T (sym e) tt

pub not_both : (b : Bool) → b ≡ true → b ≡ false → ⊥
not_both b yes_ no_ = let e : true ≡ false = sym yes_ ∙ no_ in absurd cc

pub not-true : (b : Bool) → not b ≡ true → b ≡ false
not-true true e = absurd cc
not-true false e = refl

pub not-false : (b : Bool) → not b ≡ false → b ≡ true
not-false true e = refl
not-false false e = absurd cc

pub and-left : (a b : Bool) → (a && b) ≡ true → a ≡ true
and-left true b e = refl
and-left false b e = absurd cc

pub and-right : (a b : Bool) → (a && b) ≡ true → b ≡ true
and-right true b e = e
and-right false b e = absurd cc

pub and-both : (a b : Bool) → a ≡ true → b ≡ true → (a && b) ≡ true
and-both true b e f = f
and-both false b e f = absurd cc

pub or-left : (a b : Bool) → a ≡ true → (a || b) ≡ true
or-left true b e = refl
or-left false b e = absurd cc

pub or-right : (a b : Bool) → b ≡ true → (a || b) ≡ true
or-right true b e = refl
or-right false b e = e

-- two tests are one where each follows from the other
pub same_truth : (a b : Bool) → (a ≡ true → b ≡ true) → (b ≡ true → a ≡ true) → a ≡ b
same_truth true b there back = sym (there refl)
same_truth false true there back = back refl
same_truth false false there back = refl

-- ---- parts

pub filter_same : {X : Type 0} (p q : X → Bool) → ((x : X) → p x ≡ q x) → (xs : List X) → filter p xs ≡ filter q xs
filter_same p q same [] = refl
filter_same p q same (x ∷ xs) = ap (λ b. cond b (x ∷ filter p xs) (filter p xs)) (same x) ∙ ap (λ l. cond (q x) (x ∷ l) l) (filter_same p q same xs)

-- the part of a part that has all that passes
pub filter_within : {X : Type 0} (p q : X → Bool) → ((x : X) → q x ≡ true → p x ≡ true) → (xs : List X) → filter q (filter p xs) ≡ filter q xs
filter_within p q within [] = refl
filter_within {X} p q within (x ∷ xs) = by (p x) (q x) refl refl (filter_within p q within xs)
  where
    by : (a b : Bool) → p x ≡ a → q x ≡ b → filter q (filter p xs) ≡ filter q xs → filter q (cond a (x ∷ filter p xs) (filter p xs)) ≡ cond (q x) (x ∷ filter q xs) (filter q xs)
    by true b e f rest = ap (λ l. cond (q x) (x ∷ l) l) rest
    by false true e f rest = absurd (not_both (p x) (within x f) e)
    by false false e f rest = rest ∙ sym (ap (λ t. cond t (x ∷ filter q xs) (filter q xs)) f)

pub filter_twice : {X : Type 0} (p q : X → Bool) (xs : List X) → filter p (filter q xs) ≡ filter (λ x. p x && q x) xs
filter_twice p q [] = refl
filter_twice {X} p q (x ∷ xs) = by (p x) (q x) refl (filter_twice p q xs)
  where
    by : (a b : Bool) → p x ≡ a → filter p (filter q xs) ≡ filter (λ x. p x && q x) xs
        → filter p (cond b (x ∷ filter q xs) (filter q xs)) ≡ cond (p x && b) (x ∷ filter (λ x. p x && q x) xs) (filter (λ x. p x && q x) xs)
    by true true e rest = ap (λ t. cond t (x ∷ filter p (filter q xs)) (filter p (filter q xs))) e ∙ ap (λ l. x ∷ l) rest ∙ sym (ap (λ t. cond (t && true) (x ∷ filter (λ x. p x && q x) xs) (filter (λ x. p x && q x) xs)) e)
    by true false e rest = rest ∙ sym (ap (λ t. cond (t && false) (x ∷ filter (λ x. p x && q x) xs) (filter (λ x. p x && q x) xs)) e)
    by false true e rest = ap (λ t. cond t (x ∷ filter p (filter q xs)) (filter p (filter q xs))) e ∙ rest ∙ sym (ap (λ t. cond (t && true) (x ∷ filter (λ x. p x && q x) xs) (filter (λ x. p x && q x) xs)) e)
    by false false e rest = rest ∙ sym (ap (λ t. cond (t && false) (x ∷ filter (λ x. p x && q x) xs) (filter (λ x. p x && q x) xs)) e)

pub filter_swap : {X : Type 0} (p q : X → Bool) (xs : List X) → filter p (filter q xs) ≡ filter q (filter p xs)
filter_swap p q xs = filter_twice p q xs ∙ filter_same (λ x. p x && q x) (λ x. q x && p x) (λ x. swap (p x) (q x)) xs ∙ sym (filter_twice q p xs)
  where
    swap : (a b : Bool) → (a && b) ≡ (b && a)
    swap true true = refl
    swap true false = refl
    swap false true = refl
    swap false false = refl

-- what is taken out doesn't matter to a part without it
pub filter_outside : {X : Type 0} (p q : X → Bool) → ((x : X) → q x ≡ true → p x ≡ true) → (xs : List X) → filter (λ x. not (p x)) (filter (λ x. not (q x)) xs) ≡ filter (λ x. not (p x)) xs
filter_outside {X} p q within xs = filter_within (λ x. not (q x)) (λ x. not (p x)) (λ x e. by (q x) x refl e) xs
  where
    by : (b : Bool) (x : X) → q x ≡ b → not (p x) ≡ true → not b ≡ true
    by true x f e = absurd (not_both (p x) (within x f) (not-true (p x) e))
    by false x f e = refl

pub all_pass : {X : Type 0} (p : X → Bool) (xs : List X) → list_all p xs ≡ true → filter p xs ≡ xs
all_pass p [] h = refl
all_pass p (x ∷ xs) h = ap (λ b. cond b (x ∷ filter p xs) (filter p xs)) (and-left (p x) (list_all p xs) h) ∙ ap (λ l. x ∷ l) (all_pass p xs (and-right (p x) (list_all p xs) h))

pub none_pass : {X : Type 0} (p : X → Bool) → ((x : X) → p x ≡ false) → (xs : List X) → filter p xs ≡ []
none_pass p none [] = refl
none_pass p none (x ∷ xs) = ap (λ b. cond b (x ∷ filter p xs) (filter p xs)) (none x) ∙ none_pass p none xs
