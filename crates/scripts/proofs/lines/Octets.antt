-- The place of the first octet of a kind.
--     first_place, within      the first octet that is another one
use Rattle.std.proofs.Common.{◌≡◌, ℕ, zero, suc, ◌<◌, Bool, true, false, cond, Option, Some, None, List, [], ◌∷◌, length, refl, sym, ◌∙◌, ap, arith}
use Rattle.std.specs.Prelude.{option_map, IfSome}
use Rattle.std.specs.List.{position}
use Rattle.memchr.specs.Find.{IsFirstByte, Nowhere, Passes}
use Rattle.history.proofs.Positions.{position-cons}

-- ---- the first octet of a kind

not_true : (b : Bool) → (b ≡ true → ⊥) → b ≡ false
not_true true h = absurd (h refl)
not_true false h = refl

module _ (test : ℕ → Bool) where
  abbrev behind : Bool → Option ℕ → Option ℕ
  behind here rest = cond {A = Option ℕ} here (Some 0) (option_map suc rest)

  nowhere : (xs : List ℕ) → Nowhere (Passes test xs) 0 (length xs) → position test xs ≡ None
  nowhere [] none = refl
  nowhere (x ∷ xs) none =
      let here : test x ≡ false = not_true (test x) (none 0 (omega arith) (omega arith)) in
      let rest = nowhere xs (λ k low high. none (suc k) (omega arith) (omega arith)) in
      position-cons test x xs ∙ (λ i. behind (here i) (rest i))

  first_at : (xs : List ℕ) (k : ℕ) → k < length xs → Nowhere (Passes test xs) 0 k → Passes test xs k → position test xs ≡ Some k
  first_at [] k small none here = absurd (omega arith)
  first_at (x ∷ xs) zero small none here = position-cons test x xs ∙ ap (λ (b : Bool). behind b (position test xs)) here
  first_at (x ∷ xs) (suc k) small none here =
      let other : test x ≡ false = not_true (test x) (none 0 (omega arith) (omega arith)) in
      let rest = first_at xs k (omega arith) (λ j low high. none (suc j) (omega arith) (omega arith)) here in
      position-cons test x xs ∙ (λ i. behind (other i) (rest i))

  pub first_place : (text : List ℕ) (found : Option ℕ) → IsFirstByte test text found → found ≡ position test text
  first_place text None none = sym (nowhere text none)
  first_place text (Some k) first = sym (first_at text k first.0.high first.0.before first.1)

  pub within : (text : List ℕ) (found : Option ℕ) → IsFirstByte test text found → IfSome found (λ k. k < length text)
  within text None none = tt
  within text (Some k) first = first.0.high
