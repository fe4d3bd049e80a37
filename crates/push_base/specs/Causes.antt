-- Counts that never fall, and what a fault says of them.
--     Rose before now      a count has risen
--     HasCause before now result      a fault was told only where the count rose
--     CountsOne      a count that is told went on by one
use Rattle.std.specs.Prelude.{◌≡◌, ℕ, ◌+◌, ◌-◌, ◌^◌, ◌≤◌, min, ⊤, None, Some, OnErr}
use Rattle.std.specs.declared.option.Option.{Option}
use Rattle.std.specs.declared.result.Result.{Result}

-- a count of 64 bits after one more; at its last value it stays
abbrev pub next_count : ℕ → ℕ
next_count n = min (n + 1) (2 ^ 64 - 1)

-- a count has risen, or stands at its last value
abbrev pub Rose : ℕ → ℕ → Type 0
Rose before now = next_count before ≤ now

-- the count of faults hasn't fallen, and a fault was told only where it rose
pub record HasCause {T E : Type 0} (before now : ℕ) (result : Result T E) : Type 0 where
  pub later : before ≤ now
  pub failed : OnErr result (Rose before now)

-- a count that is told went on by one
abbrev pub CountsOne : Option ℕ → Option ℕ → Type 0
CountsOne None now = ⊤
CountsOne (Some n) None = ⊥
CountsOne (Some n) (Some m) = m ≡ next_count n
