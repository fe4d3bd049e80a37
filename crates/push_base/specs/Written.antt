-- What a sink took of a text.
--     IsFrontOf front whole      a front of a text
--     Took before now P      what a sink took, where it tells it, has P
use Rattle.std.specs.Prelude.{◌≡◌, ℕ, List, ◌++◌}
use Rattle.std.specs.declared.option.Option.{Option}
use Rattle.std.specs.Io.KnownBytes.{append_known}

abbrev pub IsFrontOf : List ℕ → List ℕ → Type 0
IsFrontOf front whole = (rest : List ℕ) × (front ++ rest ≡ whole)

-- what a sink took, where it tells it, has P
abbrev pub Took : Option (List ℕ) → Option (List ℕ) → (List ℕ → Type 0) → Type 0
Took before now P = (wrote : List ℕ) × (now ≡ append_known before wrote) × P wrote
