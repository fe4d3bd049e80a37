-- A clock in memory.
--     ClockState      its values and its calls
--     moments_told      what its calls answered
use Rattle.std.specs.Prelude.{ℕ, zero, suc, ◌-◌, min, Bool, Some, None, List, [], ◌∷◌, ◌++◌, length, slice_index, if◌then◌else◌}
use Rattle.std.specs.declared.option.Option.{Option}

-- its values, the number of its calls, and whether calls came that are no longer counted
pub record ClockState : Type 0 where
  pub items : List ℕ
  pub calls : ℕ
  pub lost : Bool

-- what the call after n others answers: the value in its turn, then the last for good; 0 where there is none
abbrev pub moment_after : ℕ → List ℕ → ℕ
moment_after n items = slice_index items (min n (length items - 1))

-- what the first n calls answer
abbrev pub moments_of : List ℕ → ℕ → List ℕ
moments_of items zero = []
moments_of items (suc n) = moments_of items n ++ moment_after n items ∷ []

abbrev pub moments_told : ClockState → Option (List ℕ)
moments_told s = if s.lost then None else Some (moments_of s.items s.calls)
