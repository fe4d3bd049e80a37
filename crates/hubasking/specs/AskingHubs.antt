-- A hub, and what it asks its links.
--     AskingHub, new_asking      as it is kept; before any entry
--     given_by count buf      the datagram in front of a buffer, where there is one
--     untouched_by count buf      the octets after it; all of them where there is none
use Rattle.std.specs.Prelude.{ℕ, List, take, drop, Option, Some, None}
use Rattle.dsosession.specs.declared.session.Timers.{Timers}
use Rattle.history.specs.States.{State}
use Rattle.pushserver.specs.KeptHubs.{KeptHub, new_kept}
use Rattle.hubasking.specs.LinkAskings.{Askings, new_askings}

pub record AskingHub : Type 0 where
  pub hub : KeptHub
  pub askings : Askings

abbrev pub new_asking : State → Timers → AskingHub
new_asking start timers = record { hub = new_kept start timers; askings = new_askings start }

abbrev pub given_by : Option ℕ → List ℕ → Option (List ℕ)
given_by None buf = None
given_by (Some count) buf = Some (take count buf)

abbrev pub untouched_by : Option ℕ → List ℕ → List ℕ
untouched_by None buf = buf
untouched_by (Some count) buf = drop count buf
