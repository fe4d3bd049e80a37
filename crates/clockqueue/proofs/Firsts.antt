-- The first place at which a test passes, as a loop finds it, and what stands at a place.
use Rattle.std.proofs.Common.{◌≡◌, ℕ, zero, suc, ◌<◌, Bor, Bool, true, false, cond, List, [], ◌∷◌, length, get_or, Option, Some, None, refl, ap, ◌∙◌, nat_lt, arith}
use Rattle.std.specs.Prelude.{◌≤◌, slice_get, MatchOption}
use Rattle.std.specs.List.{AllWithin, HoldsAt, position, position_or_len}
use Rattle.std.proofs.lemmas.Bool.{lt-leb, lt-ltb}
use Rattle.std.proofs.lemmas.List.Quantifiers.{position-Some}
use Rattle.std.proofs.lemmas.List.Sums.{position_or_len_is}
use Rattle.std.proofs.lemmas.Option.{slice_get_past}
use Rattle.clockqueue.proofs.Keyed.{slice_get-here}

module _ {X : Type 0} (p : X → Bool) where
  pub position-here : (xs : List X) (i : ℕ) (d : X) → i < length xs → AllWithin (λ x. p x ≡ false) xs 0 i → p (get_or xs i d) ≡ true → position p xs ≡ Some i
  position-here xs i d within before here =
      let at : position_or_len p xs ≡ i = position_or_len_is p xs i d (omega arith) (λ k h. before k d (omega arith) h) (λ h. here) in
      ap (λ n. cond (nat_lt n (length xs)) (Some n) None) at ∙ ap (λ (b : Bool). cond b (Some i) None) (lt-ltb i (length xs) within)

  pub position-nowhere : (xs : List X) → AllWithin (λ x. p x ≡ false) xs 0 (length xs) → position p xs ≡ None
  position-nowhere [] all = refl
  position-nowhere (x ∷ xs) all =
      let size = length (x ∷ xs) in
      let at : position_or_len p (x ∷ xs) ≡ size = position_or_len_is p (x ∷ xs) size x (omega arith) (λ k h. all k x (omega arith) h) (λ h. absurd (omega arith)) in
      ap (λ n. cond (nat_lt n size) (Some n) None) at ∙ ap (λ (b : Bool). cond b (Some size) None) (lt-leb (suc size) size (omega arith))

  pub position-within : (xs : List X) (i : ℕ) → position p xs ≡ Some i → i < length xs
  position-within [] i e = absurd cc
  position-within (x ∷ xs) i e = (position-Some p (x ∷ xs) i x e).0

pub slice_get-within : {X : Type 0} (xs : List X) (n : ℕ) (x : X) → slice_get xs n ≡ Some x → n < length xs
slice_get-within [] n x e = absurd cc
slice_get-within (y ∷ ys) zero x e = omega arith
slice_get-within (y ∷ ys) (suc n) x e = omega (arith, slice_get-within ys n x e)

-- what a look at a place tells
pub seen-at : {X : Type 0} (xs : List X) (n : ℕ) (r : Option (Bor X)) → MatchOption r (length xs ≤ n) (λ x. (n < length xs) × HoldsAt (λ y. x.now ≡ y) xs n) → MatchOption r (slice_get xs n ≡ None) (λ x. slice_get xs n ≡ Some x.now)
seen-at xs n None h = slice_get_past xs n h
seen-at xs n (Some x) h = slice_get-here xs n x.now h.0 (h.1 x.now)
