-- How often each key stands in a list, by an order that may tie keys, and a map from keys to these numbers.
--     times order key keys      how often a key stands there
--     IsTally order keys tally      a map has each key that stands there, with how often
use Rattle.std.specs.Prelude.{◌≡◌, ℕ, ◌+◌, Bool, true, false, List, [], ◌∷◌, Option, Some, None, ◌==◌, if◌then◌else◌}
use Rattle.std.specs.Ordering.{eq_by_cmp}
use Rattle.std.specs.declared.cmp.Ordering.{Ordering}
use Rattle.std.specs.FinMap.{find as map_find}

abbrev pub once : Bool → ℕ
once true = 1
once false = 0

abbrev pub times : {K : Type 0} → (K → K → Ordering) → K → List K → ℕ
times order key [] = 0
times order key (k ∷ keys) = once (eq_by_cmp order key k) + times order key keys

abbrev pub positive : ℕ → Option ℕ
positive n = if n == 0 then None else Some n

abbrev pub IsTally : {K : Type 0} → (K → K → Ordering) → List K → List (K × ℕ) → Type 0
IsTally {K} order keys tally = (key : K) → map_find order key tally ≡ positive (times order key keys)
