-- Hubs to which calls lead, and what is so of them.
--     FitsCall call      what comes as octets are octets, and the numbers of a stop fit their fields
--     IsReached hub      calls led to it from a start of homes
--     Began hub number start      a session wasn't there yet when so many entries were made, and calls led on from there
--     IsFor number call      a call for one session alone: octets in, or octets out
--     Avoids session call      a call that isn't for a seat's session, if it has one, and doesn't end it
use Rattle.std.specs.Prelude.{◌≡◌, ℕ, ◌<◌, ◌≤◌, ◌^◌, List, [], ◌∷◌, ◌++◌, map, Option, Some, None}
use Rattle.std.specs.List.{AllByRecursion}
use Rattle.dnsname.specs.Names.{Labels}
use Rattle.dsosession.specs.declared.session.Timers.{Timers}
use Rattle.history.specs.States.{State}
use Rattle.pushserver.specs.PlainHubs.{Hub, Session, new_hub, told, note_of, HaveOwnIds}
use Rattle.pushserver.specs.Hubs.{newest, session_of}
use Rattle.pushserver.specs.Calls.{HubCall, takes, gives, stops, after_calls, BringsOctets}
use Rattle.pushserver.specs.SoundHubs.{IsSoundHub}
use Rattle.pushserver.specs.ToldMessages.{TellsHistory}
use Rattle.pushclient.specs.ServerMessages.{CanBeGranted}
use Rattle.inflight.specs.Flight.{FirstAnswersEnd}
use Rattle.flight_laws.specs.Turns.{StopFits}
use Rattle.flight_laws.specs.OtherCalls.{IsOfOthers}
use Rattle.pushtelling.specs.Laws.{IsStartOfHomes}

-- RFC 8490, 6.6.1
abbrev pub HasStopNumbers : HubCall → Type 0
HasStopNumbers (stops number rcode delay) = (rcode < 16) × (delay < 2 ^ 32)
HasStopNumbers _ = Unit {0}

abbrev pub FitsCall : HubCall → Type 0
FitsCall call = BringsOctets call × HasStopNumbers call

abbrev pub FitCalls : List HubCall → Type 0
FitCalls calls = AllByRecursion FitsCall calls

pub record IsReached (hub : Hub) : Type 0 where
  pub start : State
  pub timers : Timers
  pub calls : List HubCall
  pub homes : IsStartOfHomes start
  pub granted : CanBeGranted timers
  pub fit : FitCalls calls
  pub is : hub ≡ after_calls calls (new_hub start timers)

-- before these calls the session wasn't there, and the newest point was this one
pub record Began (hub : Hub) (number : ℕ) (start : ℕ) : Type 0 where
  pub first : Hub
  pub calls : List HubCall
  pub reached : IsReached first
  pub fit : FitCalls calls
  pub fresh : session_of first number ≡ None
  pub newest_then : newest first ≡ start
  pub is : hub ≡ after_calls calls first

abbrev pub IsFor : ℕ → HubCall → Type 0
IsFor number (takes other piece) = other ≡ number
IsFor number (gives other room) = other ≡ number
IsFor number _ = ⊥

abbrev pub AreFor : ℕ → List HubCall → Type 0
AreFor number calls = AllByRecursion (IsFor number) calls

abbrev pub Avoids : Option ℕ → List HubCall → Type 0
Avoids None calls = Unit {0}
Avoids (Some number) calls = AllByRecursion (IsOfOthers number) calls

-- ---- what is so of a hub that is reached

abbrev pub ReachedOnesGoOn : Type 0
ReachedOnesGoOn = (hub : Hub) (calls : List HubCall) → IsReached hub → FitCalls calls → IsReached (after_calls calls hub)

abbrev pub BegunOnesGoOn : Type 0
BegunOnesGoOn = (hub : Hub) (number start : ℕ) (calls : List HubCall) → Began hub number start → FitCalls calls → Began (after_calls calls hub) number start

-- the hub keeps what holds of every plain hub to which calls lead
abbrev pub ReachedOnesAreSound : Type 0
ReachedOnesAreSound = (hub : Hub) → IsReached hub → IsSoundHub hub

-- of each of its sessions: it was told the history, its first answers end where messages do, a stop that it was asked for fits, and its number was given out
pub record SessionIsReached (hub : Hub) (number : ℕ) (session : Session) : Type 0 where
  pub history : TellsHistory hub session
  pub ends : FirstAnswersEnd session
  pub stop : StopFits session.standing
  pub below : number < hub.numbers_given
  pub ids : HaveOwnIds session.subscriptions

abbrev pub ReachedSessions : Type 0
ReachedSessions = (hub : Hub) (number : ℕ) (session : Session) → IsReached hub → session_of hub number ≡ Some session → SessionIsReached hub number session

-- what a session was told is of no point before the newest one when it was connected
abbrev pub BegunOnesTellSince : Type 0
BegunOnesTellSince = (hub : Hub) (number start : ℕ) (session : Session) → Began hub number start → session_of hub number ≡ Some session
    → AllByRecursion (λ n. (name : Labels) → start ≤ told n name) (map (λ m. m.note) session.made ++ note_of (newest hub) session ∷ [])

-- the newest point never goes back
abbrev pub PointsRise : Type 0
PointsRise = (hub : Hub) (calls : List HubCall) → newest hub ≤ newest (after_calls calls hub)
