-- Ordered cases, and steps that may fail.
--     chosen cases otherwise      the value beside the first test that is true
--     first_refusal tests      the number beside the first test that is true
--     r >>= next      next of the value, or the fault of r
use Rattle.std.specs.Prelude.{ℕ, zero, suc, Bool, true, false, cond, List, [], ◌∷◌, Option, Some, None, Result, Ok, Err}

abbrev pub chosen : {X : Type 0} → List (Bool × X) → X → X
chosen [] otherwise = otherwise
chosen (c ∷ cases) otherwise = cond c.0 c.1 (chosen cases otherwise)

abbrev pub first_refusal : List (Bool × ℕ) → Option ℕ
first_refusal [] = None
first_refusal (c ∷ cases) = cond c.0 (Some c.1) (first_refusal cases)

-- the first refusal that one of the items has
abbrev pub first_refused : {X : Type 0} → (X → Option ℕ) → List X → Option ℕ
first_refused refusal [] = None
first_refused refusal (x ∷ xs) = elim (refusal x) [ Some code ↦ Some code | None ↦ first_refused refusal xs ]

infixl 10 ◌>>=◌
abbrev pub ◌>>=◌ : {A B E : Type 0} → Result A E → (A → Result B E) → Result B E
(Ok x) >>= next = next x
(Err e) >>= next = Err e

-- the same fault seen as another
abbrev pub fault_as : {A E F : Type 0} → (E → F) → Result A E → Result A F
fault_as f (Ok x) = Ok x
fault_as f (Err e) = Err (f e)

abbrev pub is_empty : {X : Type 0} → List X → Bool
is_empty [] = true
is_empty (x ∷ xs) = false

-- the list with another element at a place
abbrev pub changed_at : {X : Type 0} → ℕ → (X → X) → List X → List X
changed_at i f [] = []
changed_at zero f (x ∷ xs) = f x ∷ xs
changed_at (suc i) f (x ∷ xs) = x ∷ changed_at i f xs
