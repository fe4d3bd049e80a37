-- What the loop of a session's wire did.
--     octets_of answer buf      the octets that an answer gives
--     WritesUntil, WritesOn      how it ended, or goes on
--     TakesPiece      how the writing of one piece ended
use Rattle.std.specs.Prelude.{◌≡◌, ◌⊎◌, ℕ, ◌+◌, ◌<◌, ◌≤◌, ⊤, List, [], ◌∷◌, ◌++◌, length, take, Result, Ok, Err}
use Rattle.std.specs.declared.option.Option.{Option}
use Rattle.std.specs.Io.KnownBytes.{append_known}
use Rattle.std.specs.List.{flat_map, AllByRecursion}
use Rattle.pushserver.specs.declared.given.Given.{Given}
use Rattle.pushserver.specs.declared.given.Given.TheVariants as givens
use Rattle.pushserver.specs.declared.fault.HubFault.{HubFault}
use Rattle.pushserver.specs.declared.fault.HubFault.TheVariants as faults
use Rattle.hubloops.specs.declared.loop_end.LoopEnd.{LoopEnd}
use Rattle.hubloops.specs.declared.loop_end.LoopEnd.TheVariants as ends
use Rattle.hubloops.specs.Calls.{HubCall, Gave}
use Rattle.hubloops.specs.Gates.{GateState, GoesOn, WasDone}
use Rattle.hubloops.specs.Loops.{Observed, Ran, CountsMore, UsesTurns, LeavesRest, LastWas, EndsAt, IsEndOf}

-- each call asks for a session's octets, and has room for one
abbrev pub IsGive : ℕ → HubCall → Type 0
IsGive session (Gave number before after answer) = (number ≡ session) × (0 < length before)
IsGive session _ = ⊥

abbrev pub octets_of : Result Given HubFault → List ℕ → List ℕ
octets_of (Ok (givens.Bytes n)) buf = take n buf
octets_of _ buf = []

abbrev pub given_in : HubCall → List ℕ
given_in (Gave session before after answer) = octets_of answer after
given_in _ = []

abbrev pub octets_given : List HubCall → List ℕ
octets_given calls = flat_map given_in calls

-- what these calls gave the sink took, but for a rest
pub record WriteRun (session : ℕ) (before after : Observed ℕ) (rest : List ℕ) (calls : List HubCall) (writes : ℕ) : Type 0 where
  pub ran : Ran (IsGive session) calls before.gate after.gate
  pub octets : (front : List ℕ) × (octets_given calls ≡ front ++ rest) × (after.told ≡ append_known before.told front)
  pub counted : CountsMore writes before.calls after.calls

-- the loop goes on behind such an answer; behind one that has nothing to say unless all was done before the call
abbrev pub GoesOnWith : Option GateState → Result Given HubFault → Type 0
GoesOnWith gate (Ok (givens.Bytes n)) = ⊤
GoesOnWith gate (Ok givens.Worked) = ⊤
GoesOnWith gate (Ok givens.Nothing) = GoesOn gate
GoesOnWith gate (Ok givens.Ending) = GoesOn gate
GoesOnWith gate _ = ⊥

abbrev pub IsPassingGive : Option GateState → HubCall → Type 0
IsPassingGive gate (Gave session before after answer) = GoesOnWith gate answer
IsPassingGive gate _ = ⊥

-- the session has ended; or nothing was to be said, where all was done before the call
abbrev pub EndsWith : Option GateState → Result Given HubFault → Type 0
EndsWith gate (Ok (givens.End reason)) = ⊤
EndsWith gate (Ok givens.Nothing) = WasDone gate
EndsWith gate (Ok givens.Ending) = WasDone gate
EndsWith gate _ = ⊥

abbrev pub IsLastGive : Option GateState → HubCall → Type 0
IsLastGive gate (Gave session before after answer) = EndsWith gate answer
IsLastGive gate _ = ⊥

-- memory ran out in the hub
abbrev pub IsStarvedGive : HubCall → Type 0
IsStarvedGive (Gave session before after answer) = answer ≡ Err faults.NoMemory
IsStarvedGive _ = ⊥

-- what each end comes from, before which no call ended the loop
abbrev pub WriteCause : Observed ℕ → List HubCall → LoopEnd → Type 0
WriteCause after calls ends.Finished = EndsAt (IsPassingGive after.gate) (IsLastGive after.gate) calls
WriteCause after calls ends.Turns = AllByRecursion (IsPassingGive after.gate) calls
WriteCause after calls ends.WriteFault = AllByRecursion (IsPassingGive after.gate) calls
WriteCause after calls ends.NoMemory = EndsAt (IsPassingGive after.gate) IsStarvedGive calls
WriteCause after calls _ = ⊥

-- the loop ended so
abbrev pub WritesUntil : ℕ → Observed ℕ → Observed ℕ → ℕ → LoopEnd → Type 0
WritesUntil session before after turns end =
    (calls : List HubCall) × (writes : ℕ) × (rest : List ℕ)
    × WriteRun session before after rest calls writes
    × LeavesRest end rest × ((rest ≡ []) ⊎ LastWas (IsEndOf given_in rest) calls) × UsesTurns end (length calls + writes) turns × WriteCause after calls end

-- the loop goes on with so many turns, as no call ended it, or ended
abbrev pub WritesOn : ℕ → Observed ℕ → Observed ℕ → ℕ → Result ℕ LoopEnd → Type 0
WritesOn session before after turns (Ok left) =
    (calls : List HubCall) × (writes : ℕ)
    × WriteRun session before after [] calls writes
    × (left + (length calls + writes) ≡ turns) × (left < turns) × AllByRecursion (IsPassingGive after.gate) calls
WritesOn session before after turns (Err end) = WritesUntil session before after turns end

-- one piece was written to its end, or the loop ended before
abbrev pub TakesPiece : List ℕ → Option (List ℕ) → Option (List ℕ) → Option ℕ → Option ℕ → ℕ → Result ℕ LoopEnd → Type 0
TakesPiece piece taken now count count_now turns (Ok left) =
    (writes : ℕ) × (now ≡ append_known taken piece) × CountsMore writes count count_now × (left + writes ≡ turns)
TakesPiece piece taken now count count_now turns (Err end) =
    (writes : ℕ) × (front : List ℕ) × (rest : List ℕ) × (piece ≡ front ++ rest) × (now ≡ append_known taken front)
    × CountsMore writes count count_now × UsesTurns end writes turns × ((end ≡ ends.Turns) ⊎ (end ≡ ends.WriteFault))
