-- Lists with no two elements that a test finds equal: one more, some left out, and the one that passes another test.
use Rattle.std.proofs.Common.{◌≡◌, ℕ, zero, suc, ◌+◌, ◌<◌, Bool, true, false, cond, not, ◌||◌, List, [], ◌∷◌, ◌++◌, length, get_or, Some, None, refl, sym, ap, ◌∙◌, arith}
use Rattle.std.specs.List.{IsDistinct, AllByRecursion, list_any, filter, find, position, position_or_len, remove}
use Rattle.std.proofs.lemmas.Bool.{lt-ltb}
use Rattle.std.proofs.lemmas.List.Folds.{list_any_at}
use Rattle.std.proofs.lemmas.List.Quantifiers.{position-Some}

pub or_false : (a b : Bool) → (a || b) ≡ false → (a ≡ false) × (b ≡ false)
or_false true b h = absurd cc
or_false false b h = (refl, h)

module _ {X : Type 0} (p : X → Bool) where
  -- the elements that fail
  abbrev pub failing : List X → List X
  failing xs = filter (λ x. not (p x)) xs

  -- one element at most passes
  abbrev pub IsLone : List X → Type 0
  IsLone [] = Unit {0}
  IsLone (x ∷ xs) = (p x ≡ true → list_any p xs ≡ false) × IsLone xs

  -- ---- where none passes

  pub none_left_out : (xs : List X) → list_any p xs ≡ false → failing xs ≡ xs
  none_left_out [] h = refl
  none_left_out (x ∷ xs) h =
      let both = or_false (p x) (list_any p xs) h in
      ap (λ (b : Bool). cond (not b) (x ∷ failing xs) (failing xs)) both.0 ∙ ap (λ (l : List X). x ∷ l) (none_left_out xs both.1)

  pub none_found : (xs : List X) → list_any p xs ≡ false → find p xs ≡ None
  none_found [] h = refl
  none_found (x ∷ xs) h =
      let both = or_false (p x) (list_any p xs) h in
      ap (λ (b : Bool). cond b (Some x) (find p xs)) both.0 ∙ none_found xs both.1

  pub any_found : (xs : List X) → find p xs ≡ None → list_any p xs ≡ false
  any_found [] h = refl
  any_found (x ∷ xs) h = by (p x) h (any_found xs)
    where
      by : (b : Bool) → cond b (Some x) (find p xs) ≡ None → (find p xs ≡ None → list_any p xs ≡ false) → (b || list_any p xs) ≡ false
      by true e rest = absurd cc
      by false e rest = rest e

  placed : (xs : List X) → list_any p xs ≡ true → position_or_len p xs < length xs
  placed [] h = absurd cc
  placed (x ∷ xs) h = by (p x) h (placed xs)
    where
      by : (b : Bool) → (b || list_any p xs) ≡ true → (list_any p xs ≡ true → position_or_len p xs < length xs) → cond (not b) (1 + position_or_len p xs) 0 < suc (length xs)
      by true e rest = omega arith
      by false e rest = omega (arith, rest e)

  pub no_place : (xs : List X) → position p xs ≡ None → list_any p xs ≡ false
  no_place xs h = by (list_any p xs) refl
    where
      by : (b : Bool) → list_any p xs ≡ b → b ≡ false
      by true is =
          let there : Some (position_or_len p xs) ≡ None = sym (ap (λ (b : Bool). cond b (Some (position_or_len p xs)) None) (lt-ltb _ _ (placed xs is))) ∙ h in
          absurd cc
      by false is = refl

  -- ---- where one passes

  pub record TakesOut (xs : List X) (i : ℕ) (d : X) : Type 0 where
    pub within : i < length xs
    pub left : remove xs i ≡ failing xs
    pub found : find p xs ≡ Some (get_or xs i d)

  taken_out : (xs : List X) (i : ℕ) (d : X) → IsLone xs → i < length xs → p (get_or xs i d) ≡ true → TakesOut xs i d
  taken_out [] i d lone within passes = absurd (omega arith)
  taken_out (x ∷ xs) zero d lone within passes = record {
    within = within;
    left = sym (ap (λ (b : Bool). cond (not b) (x ∷ failing xs) (failing xs)) passes ∙ none_left_out xs (lone.0 passes));
    found = ap (λ (b : Bool). cond b (Some x) (find p xs)) passes;
  }
  taken_out (x ∷ xs) (suc i) d lone within passes = by (p x) refl (taken_out xs i d lone.1 (omega arith) passes)
    where
      by : (b : Bool) → p x ≡ b → TakesOut xs i d → TakesOut (x ∷ xs) (suc i) d
      by true is t =
          let some = list_any_at p xs i d t.within passes in
          let none = lone.0 is in
          absurd cc
      by false is t = record {
        within = within;
        left = ap (λ (l : List X). x ∷ l) t.left ∙ sym (ap (λ (b : Bool). cond (not b) (x ∷ failing xs) (failing xs)) is);
        found = ap (λ (b : Bool). cond b (Some x) (find p xs)) is ∙ t.found;
      }

  pub at_place : (xs : List X) (i : ℕ) (d : X) → IsLone xs → position p xs ≡ Some i → TakesOut xs i d
  at_place xs i d lone is = let at = position-Some p xs i d is in taken_out xs i d lone at.0 at.1

module _ {X : Type 0} (e : X → X → Bool) where
  -- what passes is equal, so one passes at most
  none_after : (p : X → Bool) → ((x y : X) → p x ≡ true → p y ≡ true → e x y ≡ true) → (x : X) (xs : List X) → AllByRecursion (λ y. e x y ≡ false) xs → p x ≡ true → list_any p xs ≡ false
  none_after p one x [] all passes = refl
  none_after p one x (y ∷ xs) all passes = by (p y) refl (none_after p one x xs all.1 passes)
    where
      by : (b : Bool) → p y ≡ b → list_any p xs ≡ false → (b || list_any p xs) ≡ false
      by true is rest = let same = one x y passes is in let other = all.0 in absurd cc
      by false is rest = rest

  pub lone : (p : X → Bool) → ((x y : X) → p x ≡ true → p y ≡ true → e x y ≡ true) → (xs : List X) → IsDistinct e xs → IsLone p xs
  unfolding IsDistinct
  lone p one [] h = tt
  lone p one (x ∷ xs) h = (none_after p one x xs h.0, lone p one xs h.1)

  -- ---- lists that stay distinct

  all_left : (P : X → Type 0) (p : X → Bool) (xs : List X) → AllByRecursion P xs → AllByRecursion P (filter p xs)
  all_left P p [] all = tt
  all_left P p (x ∷ xs) all = by (p x) (all_left P p xs all.1)
    where
      by : (b : Bool) → AllByRecursion P (filter p xs) → AllByRecursion P (cond b (x ∷ filter p xs) (filter p xs))
      by true rest = (all.0, rest)
      by false rest = rest

  cons_or_not : (x : X) (xs : List X) → AllByRecursion (λ y. e x y ≡ false) xs → IsDistinct e xs → (b : Bool) → IsDistinct e (cond b (x ∷ xs) xs)
  unfolding IsDistinct
  cons_or_not x xs all h true = (all, h)
  cons_or_not x xs all h false = h

  pub distinct_filter : (p : X → Bool) (xs : List X) → IsDistinct e xs → IsDistinct e (filter p xs)
  unfolding IsDistinct
  distinct_filter p [] h = tt
  distinct_filter p (x ∷ xs) h = cons_or_not x (filter p xs) (all_left (λ y. e x y ≡ false) p xs h.0) (distinct_filter p xs h.1) (p x)

  all_push : (P : X → Type 0) (xs : List X) (y : X) → AllByRecursion P xs → P y → AllByRecursion P (xs ++ y ∷ [])
  all_push P [] y all last = (last, tt)
  all_push P (x ∷ xs) y all last = (all.0, all_push P xs y all.1 last)

  pub distinct_push : (xs : List X) (y : X) → IsDistinct e xs → list_any (λ x. e x y) xs ≡ false → IsDistinct e (xs ++ y ∷ [])
  unfolding IsDistinct
  distinct_push [] y h none = (tt, tt)
  distinct_push (x ∷ xs) y h none =
      let both = or_false (e x y) (list_any (λ x. e x y) xs) none in
      (all_push (λ z. e x z ≡ false) xs y h.0 both.0, distinct_push xs y h.1 both.1)

  pub distinct_none : IsDistinct e []
  unfolding IsDistinct
  distinct_none = tt
