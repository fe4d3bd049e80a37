-- What the server promises over any calls: each session was told what the history says.
--     IsStartOfHomes      what a history begins with
--     SessionsTellTheHistory      the promise
--     MessagesStay      what was told before stays
use Rattle.std.specs.Prelude.{◌≡◌, ℕ, ◌<◌, List, ◌++◌, Some, IsTrue}
use Rattle.std.specs.List.{AllByRecursion}
use Rattle.dnsname.specs.Names.{is_name}
use Rattle.dsosession.specs.declared.session.Timers.{Timers}
use Rattle.history.specs.Plans.{IsStart}
use Rattle.history.specs.AtHome.{StandApart, homes_in}
use Rattle.history.specs.States.{State}
use Rattle.pushserver.specs.PlainHubs.{Hub, Session, Made, new_hub}
use Rattle.pushserver.specs.Hubs.{session_of}
use Rattle.pushserver.specs.Calls.{HubCall, after_calls, BringsOctets}
use Rattle.pushserver.specs.ToldMessages.{TellsHistory}

-- zones with their first records and links that have heard nothing, which stand apart, each with a name
pub record IsStartOfHomes (start : State) : Type 0 where
  pub begins : IsStart start
  pub apart : StandApart (homes_in start)
  pub names : AllByRecursion (λ h. IsTrue (is_name h.0)) (homes_in start)

-- each session that is there after the calls was told what the history says
abbrev pub SessionsTellTheHistory : Type 0
SessionsTellTheHistory = (start : State) (timers : Timers) (calls : List HubCall) → IsStartOfHomes start → AllByRecursion BringsOctets calls
    → AllByRecursion (λ e. TellsHistory (after_calls calls (new_hub start timers)) e.1) (after_calls calls (new_hub start timers)).sessions

-- all messages that were made before stand first, and perhaps more behind them
abbrev pub Grows : Session → Session → Type 0
Grows before after = (more : List Made) × (after.made ≡ before.made ++ more)

-- a session whose number was given before the calls was there then, and each message with its note stays in its place
abbrev pub MessagesStay : Type 0
MessagesStay = (hub : Hub) (calls : List HubCall) (number : ℕ) (after : Session) → number < hub.numbers_given → session_of (after_calls calls hub) number ≡ Some after
    → (before : Session) × (session_of hub number ≡ Some before) × Grows before after
