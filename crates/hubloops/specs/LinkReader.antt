-- What the loop of a link did.
--     LinkSeen, seen      what a gate and the datagrams of a link tell
--     HearRun      the datagrams that were received and sent, and the calls that handed on and asked
--     EndsGone      behind datagrams that failed: the link is told gone, once
--     pending      a call of the datagrams behind which none of the hub came yet
--     HearsFrom, HearsUntil      how it ended, from a stage of its rounds, and from their begin
--     HearsOn      it goes on, or ended
use Rattle.std.specs.Prelude.{◌≡◌, ◌⊎◌, ℕ, Bool, true, false, ◌+◌, ◌<◌, ◌≤◌, ⊤, List, [], ◌++◌, length, Option, Some, Result, Ok, Err}
use Rattle.push_base.specs.Told.{TellsMore}
use Rattle.push_base.specs.Datagrams.{AreOver}
use Rattle.push_base.specs.Limits.{max_datagram}
use Rattle.pushserver.specs.declared.fault.HubFault.TheVariants as faults
use Rattle.hubloops.specs.declared.loop_end.LoopEnd.{LoopEnd}
use Rattle.hubloops.specs.declared.loop_end.LoopEnd.TheVariants as ends
use Rattle.hubloops.specs.Calls.{HubCall, Received, Asked, Went}
use Rattle.hubloops.specs.Gates.{GateState, DoesApart, GoesOn, StopsAtOnce}
use Rattle.hubloops.specs.Loops.{Ran, CountsMore, UsesTurns}
use Rattle.hubloops.specs.Rounds.{Stage, Waiting, ToAsk, ToSend, Over, made_at, made_before, stage_behind, datagrams_handed, datagrams_asked}

-- what a gate tells, and of a link's datagrams which were given and sent, and the number of their calls
pub record LinkSeen : Type 0 where
  pub gate : Option GateState
  pub given : Option (List (List ℕ))
  pub sent : Option (List (List ℕ))
  pub calls : Option ℕ

abbrev pub seen : Option GateState → Option (List (List ℕ)) → Option (List (List ℕ)) → Option ℕ → LinkSeen
seen gate given sent calls = record { gate = gate; given = given; sent = sent; calls = calls }

-- each call hands on a datagram of the link, or asks the link, with room for a datagram (RFC 6762, 17)
abbrev pub IsLinkCall : ℕ → HubCall → Type 0
IsLinkCall link (Received number datagram answer) = number ≡ link
IsLinkCall link (Asked number before after answer) = (number ≡ link) × (max_datagram ≤ length before)
IsLinkCall link _ = ⊥

-- what these calls asked with was sent, each once and in order, but for a rest
abbrev pub Sends : Option (List (List ℕ)) → Option (List (List ℕ)) → List HubCall → List (List ℕ) → Type 0
Sends before now calls unsent = (front : List (List ℕ)) × (datagrams_asked calls ≡ front ++ unsent) × TellsMore before now front

-- these datagrams were received, and these calls handed each on once, but for a rest; so many calls of the datagrams were made
pub record HearRun (link : ℕ) (before after : LinkSeen) (rest unsent : List (List ℕ)) (calls : List HubCall) (others : ℕ) : Type 0 where
  pub ran : Ran (IsLinkCall link) calls before.gate after.gate
  pub datagrams : TellsMore before.given after.given (datagrams_handed calls ++ rest)
  pub sends : Sends before.sent after.sent calls unsent
  pub counted : CountsMore others before.calls after.calls

-- one call, which is no turn, told that the link is gone, and the end is by its answer
abbrev pub EndsGone : ℕ → Option GateState → Option GateState → LoopEnd → Type 0
EndsGone link before after ends.LinkFault = (gone : Bool) × DoesApart (Went link (Ok gone)) before after
EndsGone link before after ends.NoMemory = DoesApart (Went link (Err faults.NoMemory)) before after
EndsGone link before after _ = ⊥

-- nothing is left of what was received and of what was asked
abbrev pub LeavesNone : List (List ℕ) → List (List ℕ) → Type 0
LeavesNone rest unsent = (rest ≡ []) × (unsent ≡ [])

-- what may be left where the turns were used, behind so many calls of the datagrams in which no call of the hub came: a datagram that was just
-- received, or one that was just asked with, unless it was sent
abbrev pub LeavesAt : Stage → ℕ → List (List ℕ) → List (List ℕ) → Type 0
LeavesAt Waiting last rest unsent = (length rest ≤ last) × (last ≤ 1) × (unsent ≡ [])
LeavesAt ToAsk last rest unsent = (last ≡ 0) × LeavesNone rest unsent
LeavesAt ToSend last rest unsent = (rest ≡ []) × (last + length unsent ≡ 1)
LeavesAt Over last rest unsent = ⊥

-- what is left where the datagrams failed: nothing at a receipt, at a send what was to be sent
abbrev pub BreaksAt : Stage → List (List ℕ) → List (List ℕ) → Type 0
BreaksAt Waiting rest unsent = LeavesNone rest unsent
BreaksAt ToSend rest unsent = (rest ≡ []) × (length unsent ≡ 1)
BreaksAt _ rest unsent = ⊥

-- what an end comes from other than datagrams that failed. Only want of memory in the last call of the hub leads to `Over`
abbrev pub CallsCause : Option GateState → Option (List (List ℕ)) → Stage → ℕ → List (List ℕ) → List (List ℕ) → ℕ → LoopEnd → Type 0
CallsCause gate left stage last rest unsent used ends.Finished = ((StopsAtOnce gate used × (last ≡ 0)) ⊎ (GoesOn gate × AreOver left × (last ≡ 1))) × (stage ≡ Waiting) × LeavesNone rest unsent
CallsCause gate left stage last rest unsent used ends.Turns = GoesOn gate × LeavesAt stage last rest unsent
CallsCause gate left stage last rest unsent used ends.NoMemory = GoesOn gate × (stage ≡ Over) × (last ≡ 0) × LeavesNone rest unsent
CallsCause gate left stage last rest unsent used _ = ⊥

-- what each end comes from: the datagrams didn't fail, and no call stands behind these; or they did, and the link was told gone behind them
abbrev pub HearCause : ℕ → Type 0 → Option GateState → Option GateState → Option (List (List ℕ)) → Stage → ℕ → List (List ℕ) → List (List ℕ) → ℕ → LoopEnd → Type 0
HearCause link failed gate after left stage last rest unsent used end =
    ((after ≡ gate) × CallsCause gate left stage last rest unsent used end)
    ⊎ (failed × GoesOn gate × (last ≡ 1) × BreaksAt stage rest unsent × EndsGone link gate after end)

-- the call of the datagrams that was made at a stage, if one was, where the link is asked next
abbrev pub pending : Bool → Stage → ℕ
pending true stage = made_at stage
pending false stage = 0

-- From a stage, at which the link is asked first or not, the loop ended so, and these datagrams are left; the datagrams may have failed. All their
-- calls are those that stand before the hub's, and the last.
abbrev pub HearsFrom : Bool → Stage → ℕ → Type 0 → LinkSeen → LinkSeen → Option (List (List ℕ)) → ℕ → LoopEnd → Type 0
HearsFrom asks from link failed before after left turns end =
    (gate : Option GateState) × (calls : List HubCall) × (others : ℕ) × (stage : Stage) × (last : ℕ) × (rest : List (List ℕ)) × (unsent : List (List ℕ))
    × HearRun link before (record after { gate = gate }) rest unsent calls others
    × (stage_behind (Some from) calls ≡ Some stage) × (pending asks from + others ≡ made_before (Some from) calls + last)
    × UsesTurns end (length calls + others) turns
    × HearCause link failed gate after.gate left stage last rest unsent (length calls + others) end

-- the loop ended so
abbrev pub HearsUntil : ℕ → Type 0 → LinkSeen → LinkSeen → Option (List (List ℕ)) → ℕ → LoopEnd → Type 0
HearsUntil link failed before after left turns end = HearsFrom false Waiting link failed before after left turns end

-- the link is asked next, where the gate wasn't to stop at the begin of the round; or a datagram is waited for
abbrev pub GoesOnAt : Bool → Stage → Option GateState → Type 0
GoesOnAt true Over gate = ⊥
GoesOnAt true _ gate = GoesOn gate
GoesOnAt false Waiting gate = ⊤
GoesOnAt false _ gate = ⊥

-- from a stage the loop goes on, and asks next or not, with so many turns, as no call ended it; or ended
abbrev pub HearsOn : Bool → Stage → ℕ → Type 0 → LinkSeen → LinkSeen → Option (List (List ℕ)) → ℕ → Result (Bool × ℕ) LoopEnd → Type 0
HearsOn asks from link failed before after left turns (Ok next) =
    (calls : List HubCall) × (others : ℕ) × (stage : Stage)
    × HearRun link before after [] [] calls others
    × (stage_behind (Some from) calls ≡ Some stage) × (pending asks from + others ≡ made_before (Some from) calls + pending next.0 stage) × GoesOnAt next.0 stage after.gate
    × (next.1 + (length calls + others) ≡ turns) × (next.1 < turns) × GoesOn after.gate
HearsOn asks from link failed before after left turns (Err end) = HearsFrom asks from link failed before after left turns end

-- the same from each stage at which a turn may come that asks or doesn't
abbrev pub TurnsOn : Bool → ℕ → Type 0 → LinkSeen → LinkSeen → Option (List (List ℕ)) → ℕ → Result (Bool × ℕ) LoopEnd → Type 0
TurnsOn asks link failed before after left turns result = (from : Stage) → GoesOnAt asks from before.gate → HearsOn asks from link failed before after left turns result
