-- What any calls of the hub keep of its sessions.
--     FirstAnswersEndAfterCalls      first answers end where messages do
use Rattle.std.specs.Prelude.{List}
use Rattle.std.specs.List.{AllByRecursion}
use Rattle.dsosession.specs.declared.session.Timers.{Timers}
use Rattle.history.specs.States.{State}
use Rattle.pushserver.specs.PlainHubs.{new_hub}
use Rattle.pushserver.specs.Calls.{HubCall, after_calls}
use Rattle.inflight.specs.Flight.{FirstAnswersEnd}

-- of each session that is there after the calls
abbrev pub FirstAnswersEndAfterCalls : Type 0
FirstAnswersEndAfterCalls = (start : State) (timers : Timers) (calls : List HubCall) → AllByRecursion (λ e. FirstAnswersEnd e.1) (after_calls calls (new_hub start timers)).sessions
