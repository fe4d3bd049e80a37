-- What the loop of a clock did.
--     timely moment      a moment over the last one counts as that
--     TicksUntil, TicksOn      how it ended, or goes on
use Rattle.std.specs.Prelude.{◌≡◌, ℕ, ◌+◌, ◌<◌, ◌≤◌, ⊤, List, [], ◌∷◌, ◌++◌, length, map, min, Result, Ok, Err, None, Some}
use Rattle.std.specs.List.{flat_map, AllByRecursion}
use Rattle.push_base.specs.Limits.{max_moment}
use Rattle.push_base.specs.Told.{TellsMore}
use Rattle.pushserver.specs.declared.fault.HubFault.{HubFault}
use Rattle.pushserver.specs.declared.fault.HubFault.TheVariants as faults
use Rattle.hubloops.specs.declared.loop_end.LoopEnd.{LoopEnd}
use Rattle.hubloops.specs.declared.loop_end.LoopEnd.TheVariants as ends
use Rattle.hubloops.specs.Calls.{HubCall, Passed}
use Rattle.hubloops.specs.Gates.{GoesOn, StopsAtOnce}
use Rattle.hubloops.specs.Loops.{Observed, Ran, CountsMore, UsesTurns, LeavesRest, EndsAt}

abbrev pub timely : ℕ → ℕ
timely moment = min moment max_moment

-- each call hands on a moment
abbrev pub IsPass : HubCall → Type 0
IsPass (Passed at fault) = ⊤
IsPass _ = ⊥

abbrev pub moments_in : HubCall → List ℕ
moments_in (Passed at fault) = at ∷ []
moments_in _ = []

abbrev pub moments_passed : List HubCall → List ℕ
moments_passed calls = flat_map moments_in calls

-- these moments were ticked, and these calls handed them on, but for a rest
pub record TickRun (before after : Observed ℕ) (rest : List ℕ) (calls : List HubCall) (ticks : ℕ) : Type 0 where
  pub ran : Ran IsPass calls before.gate after.gate
  pub moments : (ticked : List ℕ) × TellsMore before.told after.told ticked × (map timely ticked ≡ moments_passed calls ++ rest)
  pub counted : CountsMore ticks before.calls after.calls

-- the hub took the moment
abbrev pub IsTakenPass : HubCall → Type 0
IsTakenPass (Passed at None) = ⊤
IsTakenPass _ = ⊥

-- it refused the moment so
abbrev pub IsRefusedPass : HubFault → HubCall → Type 0
IsRefusedPass fault (Passed at answer) = answer ≡ Some fault
IsRefusedPass fault _ = ⊥

-- what each end comes from, before which nothing ended the loop
abbrev pub TickCause : Observed ℕ → List HubCall → ℕ → LoopEnd → Type 0
TickCause after calls used ends.Finished = StopsAtOnce after.gate used × AllByRecursion IsTakenPass calls
TickCause after calls used ends.Turns = GoesOn after.gate × AllByRecursion IsTakenPass calls
TickCause after calls used ends.NoMemory = GoesOn after.gate × EndsAt IsTakenPass (IsRefusedPass faults.NoMemory) calls
TickCause after calls used _ = ⊥

-- the loop ended so
abbrev pub TicksUntil : Observed ℕ → Observed ℕ → ℕ → LoopEnd → Type 0
TicksUntil before after turns end =
    (calls : List HubCall) × (ticks : ℕ) × (rest : List ℕ)
    × TickRun before after rest calls ticks
    × (length rest ≤ 1) × LeavesRest end rest × UsesTurns end (length calls + ticks) turns × TickCause after calls (length calls + ticks) end

-- the loop goes on with so many turns, as nothing ended it, or ended
abbrev pub TicksOn : Observed ℕ → Observed ℕ → ℕ → Result ℕ LoopEnd → Type 0
TicksOn before after turns (Ok left) =
    (calls : List HubCall) × (ticks : ℕ)
    × TickRun before after [] calls ticks
    × (left + (length calls + ticks) ≡ turns) × (left < turns) × GoesOn after.gate × AllByRecursion IsTakenPass calls
TicksOn before after turns (Err end) = TicksUntil before after turns end
