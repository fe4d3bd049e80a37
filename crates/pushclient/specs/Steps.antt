-- The client's reaction to one message, and what is due at a moment (RFC 8490, 5 to 7; RFC 8765, 6).
--     step client      one whole message is reacted to
--     moment client now      the client at a moment
use Rattle.std.specs.Prelude.{ℕ, Bool, true, false, not, ◌&&◌, cond, List, [], ◌∷◌, ◌++◌, map, length, take, drop, find, Option, Some, None, Ok, Err, is_some, ◌==◌, if◌then◌else◌}
use Rattle.std.specs.Int.{w32, from_be_bytes}
use Rattle.std.specs.List.{list_any}
use Rattle.rrset.specs.Rcodes.{noerror, dsotypeni}
use Rattle.rrset.specs.Header.{id_of, flags_of, is_response, rcode_of, answer_octets}
use Rattle.rrset.specs.Records.{same_question}
use Rattle.dsotlv.specs.Messages.{first_message, head_of, tlvs_of, dso_flags, primary_data}
use Rattle.dsotlv.specs.Answers.{answer_to, keepalive_octets}
use Rattle.dsotlv.specs.Notices.{notices_of}
use Rattle.dsotlv.specs.declared.message.Tlv.{Tlv}
use Rattle.dsotlv.specs.declared.message.DsoHead.{DsoHead}
use Rattle.dsotlv.specs.declared.message.Notice.{Notice}
use Rattle.dsotlv.specs.TlvKinds.{keepalive_tlv, push_tlv, keepalive_size}
use Rattle.dsosession.specs.Reactions.{client_reaction, is_keepalive}
use Rattle.dsosession.specs.Timing.{default_timers, is_short, restarted, client_due}
use Rattle.dsosession.specs.declared.session.CloseReason.{CloseReason}
use Rattle.dsosession.specs.declared.session.CloseReason.TheVariants as closes
use Rattle.dsosession.specs.declared.session.ClientReaction.{ClientReaction}
use Rattle.dsosession.specs.declared.session.ClientReaction.TheVariants.{Answered, Typeless, Keepalive, Delay, Push, Close}
use Rattle.dsosession.specs.declared.session.Due.{Due}
use Rattle.dsosession.specs.declared.session.Due.TheVariants as dues
use Rattle.pushclient.specs.declared.client.Step.{Step}
use Rattle.pushclient.specs.declared.client.Step.TheVariants as steps
use Rattle.pushclient.specs.Clients.{Client, Connection, Wish, RequestState, unanswered, refused, answered, next_id, writes, with_connection, in_connection, unsubscribe_message, without_wish, open_connection}

abbrev pub closes_as : CloseReason → Client → Step × Client
closes_as reason client = (steps.Closed reason, in_connection (λ c. record c { closed = Some reason }) client)

abbrev pub establishes : Client → Client
establishes client = in_connection (λ c. record c { established = true }) client

abbrev pub is_unanswered : ℕ → RequestState → Bool
is_unanswered id (unanswered other) = id == other
is_unanswered id _ = false

abbrev pub is_answered : RequestState → Bool
is_answered (answered id) = true
is_answered _ = false

abbrev pub request_of : Client → ℕ → Option Wish
request_of client id = find (λ w. is_unanswered id w.standing) client.wishes

abbrev pub with_standing : Wish → RequestState → Client → Client
with_standing wish standing client = record client { wishes = map (λ w. cond (same_question w.question wish.question) (record w { standing = standing; notices = [] }) w) client.wishes }

abbrev pub forgets : Wish → Client → Client
forgets wish client = record client { wishes = without_wish wish.question client.wishes }

-- the answer to a SUBSCRIBE: the set begins empty; what was dropped meanwhile is ended by a message (RFC 8765, 6.2.2 and 6.4)
abbrev pub subscribe_answered : Wish → ℕ → ℕ → Client → Client
subscribe_answered wish id rcode client =
    if rcode == noerror then
    (if wish.wanted then establishes (with_standing wish (answered id) client)
    else in_connection (writes false client.now (unsubscribe_message id)) (establishes (forgets wish client)))
    else if wish.wanted then with_standing wish (refused rcode) client
    else forgets wish client

-- two numbers of a Keepalive TLV that stands first
abbrev pub timers_in : List Tlv → Option (ℕ × ℕ)
timers_in [] = None
timers_in (tlv ∷ tlvs) = if tlv.kind == keepalive_tlv && length tlv.octets == keepalive_size then Some (from_be_bytes w32 (take 4 tlv.octets), from_be_bytes w32 (drop 4 tlv.octets)) else None

abbrev pub timers_of : List ℕ → Option (ℕ × ℕ)
timers_of message = elim (tlvs_of message) [ Err fault ↦ None | Ok tlvs ↦ timers_in tlvs ]

-- the two numbers hold; an interval under ten seconds is an error (RFC 8490, 6.5.2 and 7.1)
abbrev pub adopts : List ℕ → Client → Step × Client
adopts message client = elim (timers_of message) [
  | None ↦ closes_as (closes.BadData keepalive_tlv) client
  | Some numbers ↦ if is_short numbers.1 then closes_as (closes.Interval numbers.1) client
      else (steps.Kept numbers.0 numbers.1, establishes (in_connection (λ c. record c { clocks = record c.clocks { timers = record { inactivity = numbers.0; keepalive = numbers.1 } } }) client))
]

abbrev pub keepalive_answered : List ℕ → ℕ → Client → Step × Client
keepalive_answered message rcode client =
    if not (rcode == noerror) then closes_as (closes.Kept rcode) client
    else adopts message (in_connection (λ c. record c { keepalive_out = None }) client)

abbrev pub is_keepalive_out : ℕ → Client → Bool
is_keepalive_out id client = elim client.connection [ None ↦ false | Some c ↦ elim c.keepalive_out [ None ↦ false | Some out ↦ out == id ] ]

abbrev pub answer_taken : List ℕ → ℕ → ℕ → Client → Step × Client
answer_taken message id rcode client = elim (request_of client id) [
  | Some wish ↦ (steps.Answered id rcode, subscribe_answered wish id rcode client)
  | None ↦ if is_keepalive_out id client then keepalive_answered message rcode client else closes_as (closes.Stranger id) client
]

abbrev pub notices_taken : List Notice → Client → Client
notices_taken notices client = record client { wishes = map (λ w. cond (is_answered w.standing) (record w { notices = w.notices ++ notices }) w) client.wishes }

abbrev pub push_taken : List ℕ → Client → Step × Client
push_taken data' client = elim (notices_of data') [
  | Err fault ↦ closes_as (closes.BadData push_tlv) client
  | Ok notices ↦ (steps.Pushed notices, notices_taken notices client)
]

abbrev pub by_reaction : ClientReaction → List ℕ → ℕ → ℕ → Client → Step × Client
by_reaction Answered message id rcode client = answer_taken message id rcode client
by_reaction Typeless message id rcode client = (steps.Typeless id, in_connection (writes false client.now (answer_to id dsotypeni)) client)
by_reaction Keepalive message id rcode client = adopts message client
by_reaction Delay message id rcode client = closes_as (closes.Delay (from_be_bytes w32 (primary_data message)) rcode) client
by_reaction Push message id rcode client = push_taken (primary_data message) client
by_reaction (Close reason) message id rcode client = closes_as reason client

-- a Keepalive, or the answer to the client's own; the TLVs of another answer make it none
abbrev pub counts_as_keepalive : Client → DsoHead → Bool
counts_as_keepalive client head = if is_response head.flags then is_keepalive_out head.id client else is_keepalive head

abbrev pub reacted : List ℕ → Connection → Client → Step × Client
reacted message c client = elim (head_of message) [
  | None ↦ closes_as closes.Short client
  | Some head ↦ by_reaction (client_reaction head c.established) message (id_of message) (rcode_of (flags_of message))
      (in_connection (λ d. record d { clocks = restarted (counts_as_keepalive client head) client.now d.clocks }) client)
]

-- one whole message, or what keeps the client from one
abbrev pub step : Client → Step × Client
step client = elim client.connection [
  | None ↦ (steps.Waiting, client)
  | Some c ↦ elim c.closed [
    | Some reason ↦ (steps.Closed reason, client)
    | None ↦ elim (first_message c.input) [
      | None ↦ (steps.Waiting, client)
      | Some found ↦ reacted found.0 c (with_connection (record c { input = found.1 }) client)
    ]
  ]
]

-- RFC 8490, 7.1
abbrev pub keepalive_message : ℕ → List ℕ
keepalive_message id = answer_octets id (dso_flags false 0) ++ keepalive_octets default_timers.inactivity default_timers.keepalive

abbrev pub is_active : RequestState → Bool
is_active (unanswered id) = true
is_active (answered id) = true
is_active _ = false

abbrev pub sends_keepalive : Connection → Client → Client
sends_keepalive c client = let id = next_id client.wishes c in
    with_connection (writes true client.now (keepalive_message id) (record c { last_id = id; keepalive_out = Some id })) client

abbrev pub does : Due → Connection → Client → Client
does dues.Nothing c client = client
does dues.Keepalive c client = sends_keepalive c client
does dues.Idle c client = (closes_as closes.Idle client).1

abbrev pub at_later : ℕ → Client → Client
at_later t client = record client { now = t }

abbrev pub moment : Client → ℕ → Client
moment client t = elim (open_connection client) [
  | None ↦ at_later t client
  | Some c ↦ does (client_due c.clocks t (list_any (λ w. is_active w.standing) client.wishes) (is_some c.keepalive_out)) c (at_later t client)
]
