-- What a starter tells and counts of the jobs that are handed to it.
--     Admits, Starts      what is told after one more job; not of one that is handed back for want of memory
--     CountsRefusal, CountsStartFault      the count of faults rises exactly where the starter failed
--     HandsBack      which job is handed back
use Rattle.std.specs.Prelude.{◌≡◌, ℕ, ◌≤◌, ⊤, List, [], ◌∷◌, Result, Ok, Err}
use Rattle.std.specs.declared.option.Option.{Option}
use Rattle.push_base.specs.Causes.{Rose}
use Rattle.push_base.specs.Told.{TellsMore}
use Rattle.push_base.specs.declared.role.Role.{Role}
use Rattle.push_base.specs.declared.starter.Refusal.{Refusal}
use Rattle.push_base.specs.declared.starter.Refusal.TheVariants as refusals
use Rattle.push_base.specs.declared.starter.StartFault.{StartFault}
use Rattle.push_base.specs.declared.starter.StartFault.TheVariants.{Failed, NoMemory}

-- the jobs that are told, each by its role and its turns
abbrev pub Jobs : Type 0
Jobs = Option (List (Role × ℕ))

abbrev pub Admits : {A : Type 0} → Jobs → Jobs → Role → ℕ → Result A Refusal → Type 0
Admits told now role turns (Ok done) = TellsMore told now ((role, turns) ∷ [])
Admits told now role turns (Err refusals.Failed) = TellsMore told now ((role, turns) ∷ [])
Admits told now role turns (Err refusals.NoMemory) = now ≡ told

abbrev pub CountsRefusal : {A : Type 0} → ℕ → ℕ → Result A Refusal → Type 0
CountsRefusal before now (Ok done) = now ≡ before
CountsRefusal before now (Err refusals.Failed) = (before ≤ now) × Rose before now
CountsRefusal before now (Err refusals.NoMemory) = now ≡ before

abbrev pub Starts : {J P : Type 0} → Jobs → Jobs → Role → ℕ → Result P (StartFault J) → Type 0
Starts told now role turns (Ok pending) = TellsMore told now ((role, turns) ∷ [])
Starts told now role turns (Err (Failed job)) = TellsMore told now ((role, turns) ∷ [])
Starts told now role turns (Err (NoMemory job)) = now ≡ told

abbrev pub CountsStartFault : {J P : Type 0} → ℕ → ℕ → Result P (StartFault J) → Type 0
CountsStartFault before now (Ok pending) = now ≡ before
CountsStartFault before now (Err (Failed job)) = (before ≤ now) × Rose before now
CountsStartFault before now (Err (NoMemory job)) = now ≡ before

-- a job that wasn't started is handed back
abbrev pub HandsBack : {J P : Type 0} → J → Result P (StartFault J) → Type 0
HandsBack job (Ok pending) = ⊤
HandsBack job (Err (Failed back)) = back ≡ job
HandsBack job (Err (NoMemory back)) = back ≡ job
