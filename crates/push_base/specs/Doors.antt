-- What doors count.
--     CountsSession      one session more where one was accepted
use Rattle.std.specs.Prelude.{◌≡◌, ℕ, Result, Ok, Err}
use Rattle.std.specs.declared.option.Option.{Option}
use Rattle.push_base.specs.Causes.{CountsOne}

-- one session more where one was accepted; none at a fault
abbrev pub CountsSession : {A E : Type 0} → Option ℕ → Option ℕ → Result A E → Type 0
CountsSession accepted now (Ok session) = CountsOne accepted now
CountsSession accepted now (Err e) = now ≡ accepted
