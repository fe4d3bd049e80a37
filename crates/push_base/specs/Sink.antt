-- What a write takes.
--     WriteTakes, TakesNoneAtFault      the front of the piece; none of it only at a fault
use Rattle.std.specs.Prelude.{◌≡◌, ℕ, ◌<◌, List, length, take, Result, IfOk, MatchResult}
use Rattle.std.specs.declared.option.Option.{Option}
use Rattle.std.specs.Io.KnownBytes.{append_known}
use Rattle.push_base.specs.Causes.{Rose}

-- a write adds the front of the piece to what was taken; a fault adds nothing
abbrev pub WriteTakes : {E : Type 0} → Option (List ℕ) → Option (List ℕ) → Result ℕ E → List ℕ → Type 0
WriteTakes taken now result piece = MatchResult result (λ n. now ≡ append_known taken (take n piece)) (λ _. now ≡ taken)

-- a write takes none of a piece that isn't empty only where the count of faults rose
abbrev pub TakesNoneAtFault : {E : Type 0} → ℕ → ℕ → Result ℕ E → List ℕ → Type 0
TakesNoneAtFault before now result piece = IfOk result (λ n. n ≡ 0 → 0 < length piece → Rose before now)
