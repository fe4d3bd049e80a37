-- What the loop of a session's line did.
--     ReadsUntil, ReadsOn      how it ended, or goes on
--     HandsOn, HandsAll      octets that were read were handed on
--     Offers      they were offered once
use Rattle.std.specs.Prelude.{◌≡◌, ◌⊎◌, ℕ, ◌+◌, ◌<◌, ◌≤◌, ⊤, List, [], ◌∷◌, ◌++◌, length, take, Result, Ok, Err, None, Some}
use Rattle.std.specs.declared.option.Option.{Option}
use Rattle.std.specs.Io.KnownBytes.{append_known, IsAtEnd}
use Rattle.std.specs.List.{flat_map}
use Rattle.hubloops.specs.declared.reader.TheConstants as reading
use Rattle.hubloops.specs.declared.loop_end.LoopEnd.{LoopEnd}
use Rattle.hubloops.specs.declared.loop_end.LoopEnd.TheVariants as ends
use Rattle.hubloops.specs.Calls.{HubCall, Took}
use Rattle.hubloops.specs.Gates.{GateState, DoesTurn, GoesOn, WasDone, StopsAtOnce}
use Rattle.hubloops.specs.Loops.{Observed, Ran, CountsMore, UsesTurns, LeavesRest}

-- the octets that are read at once
abbrev pub max_read : ℕ
max_read = reading.MAX_READ

-- each call hands octets to a session, at least one
abbrev pub IsTake : ℕ → HubCall → Type 0
IsTake session (Took number piece count) = (number ≡ session) × (0 < length piece)
IsTake session _ = ⊥

-- the octets that a call took
abbrev pub taken_in : HubCall → List ℕ
taken_in (Took session piece count) = take count piece
taken_in _ = []

abbrev pub octets_taken : List HubCall → List ℕ
octets_taken calls = flat_map taken_in calls

-- these octets were handed on by these calls, but for a rest
pub record HandsOn (session : ℕ) (before after : Option GateState) (octets rest : List ℕ) (calls : List HubCall) : Type 0 where
  pub ran : Ran (IsTake session) calls before after
  pub octets_are : octets ≡ octets_taken calls ++ rest

-- where a gate tells whether it is to stop, a rest is left only where the turns were used
abbrev pub MayLeave : Option GateState → LoopEnd → List ℕ → Type 0
MayLeave None end rest = ⊤
MayLeave (Some state) end rest = LeavesRest end rest

-- nothing is left to do, or the turns were used before that
abbrev pub IsStop : Option GateState → LoopEnd → Type 0
IsStop gate ends.Finished = WasDone gate
IsStop gate ends.Turns = GoesOn gate
IsStop gate _ = ⊥

-- a piece was offered once, or the loop ended
abbrev pub Offers : Option GateState → Option GateState → ℕ → List ℕ → ℕ → Result ℕ LoopEnd → Type 0
Offers before after session piece turns (Ok count) =
    DoesTurn (Took session piece count) before after × (count ≤ length piece) × (0 < turns)
Offers before after session piece turns (Err end) =
    (calls : List HubCall) × HandsOn session before after piece piece calls
    × MayLeave after end piece × UsesTurns end (length calls) turns × IsStop after end

-- octets were handed on to their end, or the loop ended before
abbrev pub HandsAll : Option GateState → Option GateState → ℕ → List ℕ → ℕ → Result ℕ LoopEnd → Type 0
HandsAll before after session octets turns (Ok left) =
    (calls : List HubCall) × HandsOn session before after octets [] calls × (left + length calls ≡ turns)
HandsAll before after session octets turns (Err end) =
    (calls : List HubCall) × (rest : List ℕ) × HandsOn session before after octets rest calls
    × MayLeave after end rest × UsesTurns end (length calls) turns × IsStop after end

-- these octets were read, and these calls took them, but for a rest
pub record ReadRun (session : ℕ) (before after : Observed ℕ) (rest : List ℕ) (calls : List HubCall) (reads : ℕ) : Type 0 where
  pub ran : Ran (IsTake session) calls before.gate after.gate
  pub octets : after.told ≡ append_known before.told (octets_taken calls ++ rest)
  pub counted : CountsMore reads before.calls after.calls

-- what each end comes from
abbrev pub ReadCause : Observed ℕ → Option (List ℕ) → ℕ → LoopEnd → Type 0
ReadCause after left used ends.Finished = StopsAtOnce after.gate used ⊎ (GoesOn after.gate × IsAtEnd left)
ReadCause after left used ends.Turns = GoesOn after.gate
ReadCause after left used ends.ReadFault = GoesOn after.gate
ReadCause after left used _ = ⊥

-- the loop ended so, and these octets are left
abbrev pub ReadsUntil : ℕ → Observed ℕ → Observed ℕ → Option (List ℕ) → ℕ → LoopEnd → Type 0
ReadsUntil session before after left turns end =
    (calls : List HubCall) × (reads : ℕ) × (rest : List ℕ)
    × ReadRun session before after rest calls reads
    × (length rest ≤ max_read) × MayLeave after.gate end rest × UsesTurns end (length calls + reads) turns × ReadCause after left (length calls + reads) end

-- the loop goes on with so many turns, as something is left to do, or ended
abbrev pub ReadsOn : ℕ → Observed ℕ → Observed ℕ → Option (List ℕ) → ℕ → Result ℕ LoopEnd → Type 0
ReadsOn session before after left turns (Ok less) =
    (calls : List HubCall) × (reads : ℕ)
    × ReadRun session before after [] calls reads
    × (less + (length calls + reads) ≡ turns) × (less < turns) × GoesOn after.gate
ReadsOn session before after left turns (Err end) = ReadsUntil session before after left turns end
