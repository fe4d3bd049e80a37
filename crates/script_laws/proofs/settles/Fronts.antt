-- Where no whole message waits in an input: what stands behind it.
--     room-left      there is room for more, so where none was taken none is there
--     none-left      where nothing is behind it nothing is under way
use Rattle.std.proofs.Common.{◌≡◌, ℕ, suc, ◌+◌, ◌-◌, ◌≤◌, ◌<◌, ◌^◌, List, [], ◌∷◌, ◌++◌, length, take, min, None, ltb, refl, sym, ◌∙◌, subst, arith, length-take, ap₂}
use Rattle.std.specs.Prelude.{flat_map}
use Rattle.std.specs.List.{AllByRecursion}
use Rattle.std.proofs.lemmas.List.{append-nil}
use Rattle.push_base.specs.Limits.{max_input}
use Rattle.dsotlv.specs.Messages.{frame, first_message}
use Rattle.flight_laws.proofs.NextMessage.{never_none, shorter}

-- ---- empty lists

pub front-nil : (xs ys : List ℕ) → xs ++ ys ≡ [] → xs ≡ []
front-nil [] ys is = refl
front-nil (x ∷ xs) ys is = absurd cc

pub back-nil : (xs ys : List ℕ) → xs ++ ys ≡ [] → ys ≡ []
back-nil [] ys is = is
back-nil (x ∷ xs) ys is = absurd cc

-- of a list of which no front of this length is taken there is nothing
pub taken-nil : (most : ℕ) (xs : List ℕ) → 0 < most → length (take most xs) ≡ 0 → xs ≡ []
taken-nil most [] some none = refl
taken-nil most (x ∷ xs) some none = absurd (counted most (length xs) (length (take most (x ∷ xs))) some (length-take most (x ∷ xs)) none)
  where
    counted : (most n front : ℕ) → 0 < most → front ≡ min most (suc n) → front ≡ 0 → ⊥
    counted most n front some is none = omega (arith, some, is, none)

-- ---- frames

module _ {A : Type 0} (octets : A → List ℕ) where
  abbrev AreSmall : List A → Type 0
  AreSmall xs = AllByRecursion (λ x. length (octets x) < 2 ^ 16) xs

  abbrev frames : List A → List ℕ
  frames xs = flat_map (λ x. frame (octets x)) xs

  pub room-left : (xs : List A) (input wire behind : List ℕ) (most : ℕ) → AreSmall xs → input ++ (wire ++ behind) ≡ frames xs → first_message input ≡ None → 0 < most
      → min (length (take most wire)) (max_input - length input) ≡ 0 → wire ≡ []
  room-left [] input wire behind most small whole none some taken = front-nil wire behind (back-nil input (wire ++ behind) whole)
  room-left (x ∷ xs) input wire behind most small whole none some taken =
      let less : length input < length (frame (octets x)) = shorter (octets x) input (wire ++ behind) (frames xs) small.0 whole none (ltb (length input) (length (frame (octets x)))) refl in
      taken-nil most wire some (none-taken (length (octets x)) (length (frame (octets x))) (length input) max_input (length (take most wire)) small.0 refl less (omega arith) taken)
    where
      none-taken : (message framed input most front : ℕ) → message < 2 ^ 16 → framed ≡ suc (suc message) → input < framed → 2 ^ 16 + 2 ≤ most → min front (most - input) ≡ 0 → front ≡ 0
      none-taken message framed input most front small is less wide taken = omega (arith, small, is, less, wide, taken)

  pub none-left : (xs : List A) (input wire behind : List ℕ) → AreSmall xs → input ++ (wire ++ behind) ≡ frames xs → first_message input ≡ None → wire ≡ [] → behind ≡ [] → xs ≡ []
  none-left [] input wire behind small whole none no_wire no_behind = refl
  none-left (x ∷ xs) input wire behind small whole none no_wire no_behind =
      let all : input ≡ frame (octets x) ++ frames xs = sym (append-nil input) ∙ ap₂ (λ (os ps : List ℕ). input ++ (os ++ ps)) (sym no_wire) (sym no_behind) ∙ whole in
      absurd (never_none (octets x) small.0 (frames xs) (subst (λ s. first_message s ≡ None) all none))
