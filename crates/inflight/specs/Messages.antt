-- The messages between a client of this project and its session.
--     ClientMessage, message_octets      what a client writes
--     Flying, made_of      a message on its way down, and as the session made it
use Rattle.std.specs.Prelude.{ℕ, ◌<◌, ◌^◌, Bool, true, false, List, ◌∷◌, length, flat_map, filter_map, Option, Some, None, ◌==◌}
use Rattle.rrset.specs.declared.record.Question.{Question}
use Rattle.rrset.specs.declared.record.Rr.{Rr}
use Rattle.dsotlv.specs.Messages.{frame}
use Rattle.dsosession.specs.declared.session.Timers.{Timers}
use Rattle.pushserver.specs.PlainHubs.{Subscription, Note, Made}
use Rattle.pushclient.specs.Clients.{subscribe_message, unsubscribe_message, reconfirm_message}
use Rattle.pushclient.specs.Steps.{keepalive_message}
use Rattle.pushclient.specs.ServerMessages.{ServerMessage, accepts, refuses, grants, server_octets, IsReadable}
use Rattle.pushclient.specs.FittingMessages.{id_answered}

-- ---- up

-- what a client of this project writes
pub data ClientMessage : Type 0 where
  subscribes : ℕ → Question → ClientMessage
  unsubscribes : ℕ → ClientMessage
  reconfirms : Rr → ClientMessage
  requests_keepalive : ℕ → ClientMessage

abbrev pub message_octets : ClientMessage → List ℕ
message_octets (subscribes id question) = subscribe_message id question
message_octets (unsubscribes id) = unsubscribe_message id
message_octets (reconfirms rr) = reconfirm_message rr
message_octets (requests_keepalive id) = keepalive_message id

-- the ID of a request, and of a subscription that is ended
abbrev pub request_id : ClientMessage → Option ℕ
request_id (subscribes id question) = Some id
request_id (requests_keepalive id) = Some id
request_id _ = None

abbrev pub unsubscribed_id : ClientMessage → Option ℕ
unsubscribed_id (unsubscribes id) = Some id
unsubscribed_id _ = None

abbrev pub unsubscribes_id : ℕ → ClientMessage → Bool
unsubscribes_id id (unsubscribes other) = id == other
unsubscribes_id id _ = false

abbrev pub request_ids : List ClientMessage → List ℕ
request_ids ups = filter_map request_id ups

abbrev pub unsubscribed_ids : List ClientMessage → List ℕ
unsubscribed_ids ups = filter_map unsubscribed_id ups

-- ---- down

-- a message on its way down: what it says, the note with which it was made, and the subscriptions that were active then
pub record Flying : Type 0 where
  pub says : ServerMessage
  pub note : Note
  pub subscribed : List Subscription

-- as the session made it
abbrev pub made_of : Timers → Flying → Made
made_of timers f = record { message = server_octets timers f.says; note = f.note; subscribed = f.subscribed }

abbrev pub flying_octets : Timers → List Flying → List ℕ
flying_octets timers flying = flat_map (λ f. frame (server_octets timers f.says)) flying

-- it can be read, and fits into a frame
abbrev pub CanBeRead : Timers → Flying → Type 0
CanBeRead timers f = IsReadable f.says × (length (server_octets timers f.says) < 2 ^ 16)

-- the IDs of answers
abbrev pub answer_ids : List Flying → List ℕ
answer_ids flying = filter_map (λ f. id_answered f.says) flying

-- the NOERROR answer to the SUBSCRIBE with this ID
abbrev pub accepts_id : ℕ → ServerMessage → Bool
accepts_id id (accepts other) = id == other
accepts_id id _ = false

abbrev pub is_refusal : ServerMessage → Bool
is_refusal (refuses id) = true
is_refusal _ = false

-- behind refusals an answer comes that establishes the client, before every message without an ID (RFC 8490, 5.1)
abbrev pub answer_comes_first : List ServerMessage → Bool
answer_comes_first (accepts id ∷ ms) = true
answer_comes_first (grants id ∷ ms) = true
answer_comes_first (refuses id ∷ ms) = answer_comes_first ms
answer_comes_first _ = false
