-- What a call that makes an object answers.
--     CountsFailure, TellsWords      of the count of faults; of the words that were handed over
use Rattle.std.specs.Prelude.{◌≡◌, ℕ, ◌≤◌, Ok, Err, List}
use Rattle.std.specs.declared.option.Option.{Option}
use Rattle.std.specs.declared.result.Result.{Result}
use Rattle.push_base.specs.Causes.{Rose}
use Rattle.push_outside.specs.declared.outside.OpenFault.{OpenFault}
use Rattle.push_outside.specs.declared.outside.OpenFault.TheVariants.{Failed, NoMemory}
use Rattle.push_outside.specs.Outside.{Adds}

-- the count rises exactly where the call failed
abbrev pub CountsFailure : {A : Type 0} → ℕ → ℕ → Result A OpenFault → Type 0
CountsFailure before now (Err Failed) = (before ≤ now) × Rose before now
CountsFailure before now (Err NoMemory) = now ≡ before
CountsFailure before now (Ok object) = now ≡ before

-- the words that were handed over are told, save after want of memory
abbrev pub TellsWords : {A : Type 0} → Option (List (List ℕ)) → Option (List (List ℕ)) → Result A OpenFault → List ℕ → Type 0
TellsWords before now (Err NoMemory) words = now ≡ before
TellsWords before now (Err Failed) words = Adds before now words
TellsWords before now (Ok object) words = Adds before now words
