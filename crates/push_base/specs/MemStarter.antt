-- A starter in memory.
--     StarterState      the jobs that were handed to it, and its calls
--     AdmitsExactly, after_failing      what its calls do
use Rattle.std.specs.Prelude.{◌≡◌, ℕ, List, [], ◌∷◌, ◌++◌, Result, Ok, Err}
use Rattle.push_base.specs.Calls.{CallLog, NextFails, counted, faulted}
use Rattle.push_base.specs.declared.role.Role.{Role}
use Rattle.push_base.specs.declared.starter.Refusal.{Refusal}
use Rattle.push_base.specs.declared.starter.Refusal.TheVariants.{Failed, NoMemory}

-- the role and the turns of each job that was handed to it, and its calls
pub record StarterState : Type 0 where
  pub started : List (Role × ℕ)
  pub calls : CallLog

-- a job is kept unless memory is wanted, and the call fails exactly by its number
abbrev pub AdmitsExactly : {A : Type 0} → StarterState → StarterState → Role → ℕ → Result A Refusal → Type 0
AdmitsExactly before now role turns (Ok done) = (NextFails before.calls → ⊥)
    × (now ≡ record { started = before.started ++ (role, turns) ∷ []; calls = counted before.calls })
AdmitsExactly before now role turns (Err Failed) = NextFails before.calls
    × (now ≡ record { started = before.started ++ (role, turns) ∷ []; calls = faulted (counted before.calls) })
AdmitsExactly before now role turns (Err NoMemory) = now ≡ before

-- after a job that it took couldn't be started
abbrev pub after_failing : StarterState → StarterState
after_failing s = record s { calls = faulted s.calls }
