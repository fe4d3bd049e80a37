-- What a gate tells, and what calls of it do.
--     GateState      the hub that a gate holds, whether it is to stop, the number of its calls, whether its caller may wait,
--     and what it told others
--     DoesTurn, DoesApart      after one call of the hub, counted or not
--     IsIdle, has_nothing, Waits      whether its caller may wait; after an answer; once it did
--     Tells, with_line, with_session      others were told
--     IsFor      a gate is for a role
--     Answers, GoesOn, WasDone      whether it is to stop
--     StopsAtOnce      it is to stop, and so nothing was called
--     LeadsTo calls before after      after a list of calls of the hub
use Rattle.std.specs.Prelude.{◌≡◌, ℕ, ◌+◌, ◌^◌, ◌-◌, ◌≤◌, ◌⊎◌, ⊤, Bool, true, false, List, [], ◌∷◌, length, None, Some, Result, Ok, Err}
use Rattle.std.specs.declared.option.Option.{Option}
use Rattle.push_base.specs.Causes.{next_count}
use Rattle.push_base.specs.declared.role.Role.{Role}
use Rattle.pushserver.specs.declared.given.Given.{Given}
use Rattle.pushserver.specs.declared.given.Given.TheVariants as givens
use Rattle.pushserver.specs.declared.fault.HubFault.{HubFault}
use Rattle.hubasking.specs.AskingHubs.{AskingHub}
use Rattle.hubloops.specs.Calls.{HubCall, Does}
use Rattle.hubloops.specs.declared.overs.Overs.{Overs}

-- the number of calls counts those that are turns; it stays at its last value. Its caller may wait once where the last call
-- found nothing to take or to give
pub record GateState : Type 0 where
  pub hub : AskingHub
  pub quit : Bool
  pub calls : ℕ
  pub idle : Bool
  pub over : Overs

-- one call of the hub was made, and this is the count then; others were told nothing
pub record Made (call : HubCall) (before after : GateState) (count : ℕ) : Type 0 where
  pub does : Does before.hub call after.hub
  pub quit : after.quit ≡ before.quit
  pub counted : after.calls ≡ count
  pub over : after.over ≡ before.over

-- a gate that tells nothing never does
abbrev pub DoesTurn : HubCall → Option GateState → Option GateState → Type 0
DoesTurn call None None = ⊤
DoesTurn call None (Some after) = ⊥
DoesTurn call (Some before) None = ⊥
DoesTurn call (Some before) (Some after) = Made call before after (next_count before.calls)

-- the same of a call that is no turn
abbrev pub DoesApart : HubCall → Option GateState → Option GateState → Type 0
DoesApart call None None = ⊤
DoesApart call None (Some after) = ⊥
DoesApart call (Some before) None = ⊥
DoesApart call (Some before) (Some after) = Made call before after before.calls

-- its caller may wait, or not
abbrev pub IsIdle : Bool → Option GateState → Type 0
IsIdle idle None = ⊤
IsIdle idle (Some state) = state.idle ≡ idle

-- a session has nothing to say now
abbrev pub has_nothing : Result Given HubFault → Bool
has_nothing (Ok givens.Nothing) = true
has_nothing (Ok givens.Ending) = true
has_nothing _ = false

-- its caller has waited, and doesn't again before another call
abbrev pub Waits : Option GateState → Option GateState → Type 0
Waits None after = after ≡ None
Waits (Some before) after = after ≡ Some (record before { idle = false })

-- unless there is nothing to wait for
abbrev pub WaitsUnless : Bool → Option GateState → Option GateState → Type 0
WaitsUnless true before after = after ≡ before
WaitsUnless false before after = Waits before after

-- a session's line is over
abbrev pub with_line : ℕ → Overs → Overs
with_line session overs = record { lines = next_count overs.lines; line = Some session; sessions = overs.sessions }

-- one session has ended
abbrev pub with_session : Overs → Overs
with_session overs = record { lines = overs.lines; line = overs.line; sessions = next_count overs.sessions }

-- others were told, and nothing else was done
abbrev pub Tells : (Overs → Overs) → Option GateState → Option GateState → Type 0
Tells more None after = after ≡ None
Tells more (Some before) after = after ≡ Some (record before { over = more before.over })

-- a gate that is for one role is for this
abbrev pub IsFor : Option Role → Role → Type 0
IsFor None role = ⊤
IsFor (Some own) role = own ≡ role

-- a gate that tells answers whether it is to stop
abbrev pub Answers : Option GateState → Bool → Type 0
Answers None answer = ⊤
Answers (Some state) answer = answer ≡ state.quit

-- a gate that tells isn't to stop
abbrev pub GoesOn : Option GateState → Type 0
GoesOn state = Answers state false

-- a gate that tells is to stop
abbrev pub WasDone : Option GateState → Type 0
WasDone state = Answers state true

-- a gate is to stop, and where it tells that, so many turns were used, which are none
abbrev pub StopsAtOnce : Option GateState → ℕ → Type 0
StopsAtOnce None used = ⊤
StopsAtOnce (Some state) used = (state.quit ≡ true) × (used ≡ 0)

-- each call by the contract of the hub's call
abbrev pub Leads : AskingHub → List HubCall → AskingHub → Type 0
Leads before [] after = after ≡ before
Leads before (call ∷ calls) after = (next : AskingHub) × Does before call next × Leads next calls after

-- a count rose by so many, or stands at its last value
abbrev pub RoseBy : ℕ → ℕ → ℕ → Type 0
RoseBy n before now = (now ≡ before + n) ⊎ (2 ^ 64 - 1 ≤ now)

-- the hub is the result of these calls and no others, and each was counted; others were told nothing
pub record Led (calls : List HubCall) (before after : GateState) : Type 0 where
  pub leads : Leads before.hub calls after.hub
  pub quit : after.quit ≡ before.quit
  pub counted : RoseBy (length calls) before.calls after.calls
  pub over : after.over ≡ before.over

unfoldable pub LeadsTo : List HubCall → Option GateState → Option GateState → Type 0
LeadsTo calls None None = ⊤
LeadsTo calls None (Some after) = ⊥
LeadsTo calls (Some before) None = ⊥
LeadsTo calls (Some before) (Some after) = Led calls before after
