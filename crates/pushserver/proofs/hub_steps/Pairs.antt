-- Two lists whose elements belong together one by one, and lists with numbers.
--     zip-map, zip-first, zip-push, zip-filter      what stays together
--     zip-second      what each pair says of its second
--     zip-in      the elements of a number change
use Rattle.std.proofs.Common.{◌≡◌, ℕ, Bool, true, false, cond, List, [], ◌∷◌, ◌++◌, map, Option, Some, None, sym, ◌∙◌, ap, refl}
use Rattle.std.specs.Prelude.{find, filter, option_map, ◌==◌}
use Rattle.std.specs.List.{AllZip, AllByRecursion, list_any}
use Rattle.rrset.proofs.Distinct.{IsLone, lone, none_found}
use Rattle.livesessions.specs.NumberedSessions.{Numbered, session_in, in_sessions, AreApart}
use Rattle.livesessions.proofs.SessionLists.{same-number, number-itself}

-- ---- two lists

pub zip-map : {A B C D : Type 0} (R : A → B → Type 0) (Q : C → D → Type 0) (f : A → C) (g : B → D) → ((x : A) (y : B) → R x y → Q (f x) (g y)) → (xs : List A) (ys : List B) → AllZip R xs ys → AllZip Q (map f xs) (map g ys)
zip-map R Q f g step [] [] h = tt
zip-map R Q f g step [] (y ∷ ys) h = absurd h
zip-map R Q f g step (x ∷ xs) [] h = absurd h
zip-map R Q f g step (x ∷ xs) (y ∷ ys) h = (step x y h.0, zip-map R Q f g step xs ys h.1)

pub zip-all : {A B : Type 0} (R Q : A → B → Type 0) → ((x : A) (y : B) → R x y → Q x y) → (xs : List A) (ys : List B) → AllZip R xs ys → AllZip Q xs ys
zip-all R Q step [] [] h = tt
zip-all R Q step [] (y ∷ ys) h = absurd h
zip-all R Q step (x ∷ xs) [] h = absurd h
zip-all R Q step (x ∷ xs) (y ∷ ys) h = (step x y h.0, zip-all R Q step xs ys h.1)

-- what each pair says of its second
pub zip-second : {A B : Type 0} (R : A → B → Type 0) (P : B → Type 0) → ((x : A) (y : B) → R x y → P y) → (xs : List A) (ys : List B) → AllZip R xs ys → AllByRecursion P ys
zip-second R P step [] [] h = tt
zip-second R P step [] (y ∷ ys) h = absurd h
zip-second R P step (x ∷ xs) [] h = absurd h
zip-second R P step (x ∷ xs) (y ∷ ys) h = (step x y h.0, zip-second R P step xs ys h.1)

-- what holds of each first holds of the first of each pair
pub zip-first : {A B : Type 0} (P : A → Type 0) (R : A → B → Type 0) (xs : List A) (ys : List B) → AllByRecursion P xs → AllZip R xs ys → AllZip (λ x y. P x × R x y) xs ys
zip-first P R [] [] all h = tt
zip-first P R [] (y ∷ ys) all h = absurd h
zip-first P R (x ∷ xs) [] all h = absurd h
zip-first P R (x ∷ xs) (y ∷ ys) all h = ((all.0, h.0), zip-first P R xs ys all.1 h.1)

pub zip-push : {A B : Type 0} (R : A → B → Type 0) (xs : List A) (ys : List B) (x : A) (y : B) → AllZip R xs ys → R x y → AllZip R (xs ++ x ∷ []) (ys ++ y ∷ [])
zip-push R [] [] x y h r = (r, tt)
zip-push R [] (b ∷ ys) x y h r = absurd h
zip-push R (a ∷ xs) [] x y h r = absurd h
zip-push R (a ∷ xs) (b ∷ ys) x y h r = (h.0, zip-push R xs ys x y h.1 r)

pub zip-filter : {A B : Type 0} (R : A → B → Type 0) (p : A → Bool) (q : B → Bool) → ((x : A) (y : B) → R x y → p x ≡ q y) → (xs : List A) (ys : List B) → AllZip R xs ys → AllZip R (filter p xs) (filter q ys)
zip-filter R p q same [] [] h = tt
zip-filter R p q same [] (y ∷ ys) h = absurd h
zip-filter R p q same (x ∷ xs) [] h = absurd h
zip-filter R p q same (x ∷ xs) (y ∷ ys) h = by (p x) (q y) (same x y h.0) h.0 (zip-filter R p q same xs ys h.1)
  where
    by : (a b : Bool) → a ≡ b → R x y → AllZip R (filter p xs) (filter q ys) → AllZip R (cond a (x ∷ filter p xs) (filter p xs)) (cond b (y ∷ filter q ys) (filter q ys))
    by true true e r h = (r, h)
    by true false e r h = absurd cc
    by false true e r h = absurd cc
    by false false e r h = h

-- ---- one list

pub all-weaken : {A : Type 0} (P Q : A → Type 0) → ((x : A) → P x → Q x) → (xs : List A) → AllByRecursion P xs → AllByRecursion Q xs
all-weaken P Q step [] all = tt
all-weaken P Q step (x ∷ xs) all = (step x all.0, all-weaken P Q step xs all.1)

-- ---- lists with numbers

-- one element at most has a number
pub lone-number : {S : Type 0} (number : ℕ) (xs : Numbered S) → AreApart xs → IsLone (λ (e : ℕ × S). e.0 == number) xs
lone-number {S} number xs once = lone (λ (d e : ℕ × S). d.0 == e.0) (λ e. e.0 == number) (λ d e first second. ap (λ n. n == e.0) (same-number d.0 number first ∙ sym (same-number e.0 number second)) ∙ number-itself e.0) xs once

-- what belongs together does so after a change, where the second is the one that is found
abbrev Steps : {S P : Type 0} → (ℕ × S → ℕ × P → Type 0) → (S → S) → (P → P) → Option P → Type 0
Steps {S} {P} R f g found = (x : ℕ × S) (y : ℕ × P) → found ≡ Some y.1 → R x y → R (x.0, f x.1) (y.0, g y.1)

-- the elements of a number change
pub zip-in : {S P : Type 0} (R : ℕ × S → ℕ × P → Type 0) → ((x : ℕ × S) (y : ℕ × P) → R x y → x.0 ≡ y.0) → (number : ℕ) (f : S → S) (g : P → P) (xs : Numbered S) (ys : Numbered P) → IsLone (λ (e : ℕ × P). e.0 == number) ys
    → Steps R f g (session_in number ys) → AllZip R xs ys → AllZip R (in_sessions number f xs) (in_sessions number g ys)
zip-in R same number f g [] [] once step h = tt
zip-in R same number f g [] (y ∷ ys) once step h = absurd h
zip-in R same number f g (x ∷ xs) [] once step h = absurd h
zip-in {S} {P} R same number f g (x ∷ xs) (y ∷ ys) once step h = by (x.0 == number) (y.0 == number) (ap (λ n. n == number) (same x y h.0)) once.0 step (λ step. zip-in R same number f g xs ys once.1 step h.1)
  where
    absent : session_in number ys ≡ None → Steps R f g (session_in number ys)
    absent none x y found r = let wrong : None ≡ Some y.1 = sym none ∙ found in absurd cc

    by : (a b : Bool) → a ≡ b → (b ≡ true → list_any (λ (e : ℕ × P). e.0 == number) ys ≡ false) → Steps R f g (option_map (λ (e : ℕ × P). e.1) (cond b (Some y) (find (λ (e : ℕ × P). e.0 == number) ys)))
        → (Steps R f g (session_in number ys) → AllZip R (in_sessions number f xs) (in_sessions number g ys))
        → AllZip R ((x.0, cond a (f x.1) x.1) ∷ in_sessions number f xs) ((y.0, cond b (g y.1) y.1) ∷ in_sessions number g ys)
    by true true e lone step rest = (step x y refl h.0, rest (absent (ap (λ o. option_map (λ (e : ℕ × P). e.1) o) (none_found (λ (e : ℕ × P). e.0 == number) ys (lone refl)))))
    by true false e lone step rest = absurd cc
    by false true e lone step rest = absurd cc
    by false false e lone step rest = (h.0, rest step)
