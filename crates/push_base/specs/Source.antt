-- What a read gives.
--     ReadTakes, ReadGives      of the octets that are left; beside the octets given so far
use Rattle.std.specs.Prelude.{◌≡◌, ℕ, List, take, Result, MatchResult}
use Rattle.std.specs.declared.option.Option.{Option}
use Rattle.std.specs.Io.KnownBytes.{append_known, prepend_known, IsAtEnd}

-- a read takes the octets that it gives from those that are left, and gives none at the end only; a fault takes none
abbrev pub ReadTakes : {E : Type 0} → Option (List ℕ) → Option (List ℕ) → Result ℕ E → List ℕ → Type 0
ReadTakes left now result buf =
    MatchResult result (λ n. (left ≡ prepend_known (take n buf) now) × (n ≡ 0 → IsAtEnd now)) (λ _. now ≡ left)

-- a read adds the octets that it gives to those given so far; a fault adds none
abbrev pub ReadGives : {E : Type 0} → Option (List ℕ) → Option (List ℕ) → Result ℕ E → List ℕ → Type 0
ReadGives given now result buf = MatchResult result (λ n. now ≡ append_known given (take n buf)) (λ _. now ≡ given)
