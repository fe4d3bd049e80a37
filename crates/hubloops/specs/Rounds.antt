-- The rounds of a link's loop, as its calls of the hub tell (RFC 8766, 5.6). Each wait for a datagram begins a round: the datagram, if one came, is
-- handed on, and then the link is asked until nothing is due; what it is asked is sent before the next call.
--     Stage      what is to come in a round
--     next_stage, stage_behind      behind a call, and behind several; none where a call has no place
--     made_at, made_before      how many calls of the datagrams stand before a call of the hub, and before these
--     datagrams_handed, datagrams_asked      the datagrams that were handed on, and those that the link was asked with
use Rattle.std.specs.Prelude.{ℕ, ◌+◌, List, [], ◌∷◌, take, Option, Some, None, Result, Ok, Err}
use Rattle.std.specs.List.{flat_map}
use Rattle.pushserver.specs.declared.given.Heard.{Heard}
use Rattle.pushserver.specs.declared.fault.HubFault.{HubFault}
use Rattle.hubloops.specs.Calls.{HubCall, Received, Asked}

-- a datagram is waited for; the link is asked; what it was asked is sent, and it is asked again; no call follows
pub data Stage : Type 0 where
  Waiting : Stage
  ToAsk : Stage
  ToSend : Stage
  Over : Stage

abbrev pub behind_receipt : Result Heard HubFault → Stage
behind_receipt (Ok heard) = ToAsk
behind_receipt (Err fault) = Over

abbrev pub behind_ask : Result (Option ℕ) HubFault → Stage
behind_ask (Ok None) = Waiting
behind_ask (Ok (Some count)) = ToSend
behind_ask (Err fault) = Over

-- a wait that gave no datagram is followed by an ask alone
abbrev pub next_stage : Stage → HubCall → Option Stage
next_stage Waiting (Received link datagram answer) = Some (behind_receipt answer)
next_stage Waiting (Asked link before after answer) = Some (behind_ask answer)
next_stage ToAsk (Asked link before after answer) = Some (behind_ask answer)
next_stage ToSend (Asked link before after answer) = Some (behind_ask answer)
next_stage _ _ = None

abbrev pub stage_behind : Option Stage → List HubCall → Option Stage
stage_behind stage [] = stage
stage_behind None (call ∷ calls) = None
stage_behind (Some stage) (call ∷ calls) = stage_behind (next_stage stage call) calls

-- a receipt begins each round, and what was asked is sent
abbrev pub made_at : Stage → ℕ
made_at Waiting = 1
made_at ToAsk = 0
made_at ToSend = 1
made_at Over = 0

abbrev pub made_before : Option Stage → List HubCall → ℕ
made_before stage [] = 0
made_before None (call ∷ calls) = 0
made_before (Some stage) (call ∷ calls) = made_at stage + made_before (next_stage stage call) calls

abbrev pub datagrams_in : HubCall → List (List ℕ)
datagrams_in (Received link datagram answer) = datagram ∷ []
datagrams_in _ = []

abbrev pub datagrams_handed : List HubCall → List (List ℕ)
datagrams_handed calls = flat_map datagrams_in calls

abbrev pub asked_in : HubCall → List (List ℕ)
asked_in (Asked link before after (Ok (Some count))) = take count after ∷ []
asked_in _ = []

abbrev pub datagrams_asked : List HubCall → List (List ℕ)
datagrams_asked calls = flat_map asked_in calls
