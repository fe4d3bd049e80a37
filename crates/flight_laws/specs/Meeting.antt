-- How a session meets the messages of this project's client: what it reads, and what it does (RFC 8490, 5; RFC 8765, 6).
--     MessagesAreReadBack, MessagesAreReadAgain      a message within its bounds is read as what it is
--     FirstComesUp, TakenUpIsWithin      of frames on their way up the first is the first in the input; what is taken up is within its bounds
--     after hub m session      the session after it has reacted to a message
--     ReactsSo, VerdictsAreTwo      the rules do so with what is taken up; a SUBSCRIBE is accepted, or refused with NOTAUTH
--     AfterIs      what the session has then, and what comes down
--     falls_behind m hub session, after_entry hub m session      what the entry that a message asks for leaves of a session; and of its own
--     GivesSo      and what `give` does
use Rattle.std.specs.Prelude.{◌≡◌, ℕ, ◌+◌, ◌<◌, ◌^◌, Bool, true, false, ◌&&◌, List, [], ◌∷◌, ◌++◌, map, length, take, drop, filter, flat_map, Some, IsTrue, IsSome, nat_le, not, ◌==◌, unwrap_or, option_map, Option, None, if◌then◌else◌}
use Rattle.std.specs.Int.{w16, from_be_bytes, to_be_bytes}
use Rattle.std.specs.List.{AllByRecursion}
use Rattle.push_base.specs.Cases.{is_empty}
use Rattle.dnsname.specs.Names.{is_name}
use Rattle.rrset.specs.Header.{id_of}
use Rattle.rrset.specs.Rcodes.{noerror, notauth}
use Rattle.rrset.specs.declared.record.Question.{Question}
use Rattle.rrset.specs.declared.record.Rr.{Rr}
use Rattle.dsotlv.specs.Answers.{answer_to}
use Rattle.dsotlv.specs.Messages.{frame, first_message, head_of, primary_data, dso_flags}
use Rattle.dsotlv.specs.Notices.{question_of, reconfirm_of}
use Rattle.dsotlv.specs.TlvKinds.{keepalive_tlv, subscribe_tlv, unsubscribe_tlv, reconfirm_tlv}
use Rattle.dsotlv.specs.declared.message.DsoHead.{DsoHead}
use Rattle.dsotlv.specs.declared.message.Notice.{Notice}
use Rattle.dsosession.specs.Timing.{restarted}
use Rattle.dsosession.specs.declared.session.EndReason.TheVariants as ends
use Rattle.rrset.specs.declared.record.Key.{Key}
use Rattle.history.specs.States.{accepts, reconfirm_key}
use Rattle.history.specs.declared.entry.Entry.{Entry}
use Rattle.history.specs.declared.entry.Entry.TheVariants as entries
use Rattle.pushsession.specs.declared.request.Request.{Request}
use Rattle.pushsession.specs.declared.request.Request.TheVariants as requests
use Rattle.pushsession.specs.declared.session_status.SessionStatus.TheVariants.{Live}
use Rattle.pushsession.specs.Sessions.{without_first, ended_where}
use Rattle.pushsession.specs.Subscribing.{Refuse, Accept, verdict_on, may_be_served, first_answer_size}
use Rattle.pushsession.specs.Reactions.{request_in}
use Rattle.pushserver.specs.Hubs.{newest, now, state_now, keeps_now, session_of, behind_at, can_enter}
use Rattle.pushserver.specs.Giving.{is_served_at, reconfirms as reconfirms_record, reacted, given_of, given_after, give}
use Rattle.pushserver.specs.PlainHubs.{Session, Subscription, Queue, Hub, plain_keeps, leaves_queue, note_of, written, first_answer, asked_of}
use Rattle.pushclient.specs.Clients.{Connection, reconfirm_message}
use Rattle.pushclient.specs.ServerMessages.{accepts as accepting, refuses, grants, tells}
use Rattle.inflight.specs.Messages.{ClientMessage, subscribes, unsubscribes, reconfirms, requests_keepalive, message_octets, request_id, Flying, made_of, flying_octets}
use Rattle.inflight.specs.Ends.{is_id, is_question, going_up, taken_up, all_taken_up}
use Rattle.inflight.specs.Worked.{client_message}
use Rattle.flight_laws.specs.Laws.{Active, flies}
use Rattle.flight_laws.specs.Turns.{reaction}

-- ---- what is read of a message

-- IDs, questions and names are within their bounds, and a frame holds the message
abbrev pub is_within : ClientMessage → Bool
is_within (subscribes id question) = is_id id && is_question question
is_within (unsubscribes id) = is_id id
is_within (reconfirms rr) = is_name rr.owner && nat_le (length (reconfirm_message rr)) 65535
is_within (requests_keepalive id) = is_id id

-- the ID in its header, which is 0 where no answer is wanted (RFC 8490, 5.4.1), and the kind of its TLV
abbrev pub id_in : ClientMessage → ℕ
id_in m = unwrap_or (request_id m) 0

abbrev pub kind_in : ClientMessage → ℕ
kind_in (subscribes id question) = subscribe_tlv
kind_in (unsubscribes id) = unsubscribe_tlv
kind_in (reconfirms rr) = reconfirm_tlv
kind_in (requests_keepalive id) = keepalive_tlv

-- a request with OPCODE 6, no counts, whole TLVs, and this kind first (RFC 8490, 5.4)
abbrev pub head_in : ClientMessage → DsoHead
head_in m = record { id = id_in m; flags = dso_flags false 0; zero_counts = true; tlvs_good = true; primary = Some (kind_in m, length (primary_data (message_octets m))) }

-- a record as a RECONFIRM carries it: kind and class in two octets each, and no TTL (RFC 8765, 6.5.1)
abbrev pub in_two_octets : ℕ → ℕ
in_two_octets n = from_be_bytes w16 (to_be_bytes w16 n)

abbrev pub as_carried : Rr → Rr
as_carried rr = record rr { class = in_two_octets rr.class; kind = in_two_octets rr.kind; ttl = 0 }

-- what the data of its TLV says
abbrev pub SaysSo : ClientMessage → List ℕ → Type 0
SaysSo (subscribes id question) octets = question_of octets ≡ Some question
SaysSo (unsubscribes id) octets = (length octets ≡ 2) × (from_be_bytes w16 octets ≡ id)
SaysSo (reconfirms rr) octets = reconfirm_of octets ≡ Some (as_carried rr)
SaysSo (requests_keepalive id) octets = length octets ≡ 8

pub record IsReadBack (m : ClientMessage) : Type 0 where
  pub small : length (message_octets m) < 2 ^ 16
  pub id : id_of (message_octets m) ≡ id_in m
  pub head : head_of (message_octets m) ≡ Some (head_in m)
  pub says : SaysSo m (primary_data (message_octets m))

abbrev pub MessagesAreReadBack : Type 0
MessagesAreReadBack = (m : ClientMessage) → IsTrue (is_within m) → IsReadBack m

abbrev pub as_read : ClientMessage → ClientMessage
as_read (reconfirms rr) = reconfirms (as_carried rr)
as_read m = m

-- the message that the octets are, where no message is known beforehand; a record whose fields fit, without TTL, is carried as it is
pub record MessagesAreReadAgain : Type 0 where
  pub again : (m : ClientMessage) → IsTrue (is_within m) → client_message (message_octets m) ≡ Some (as_read m)
  pub carried : (rr : Rr) → rr.kind < 2 ^ 16 → rr.class < 2 ^ 16 → rr.ttl ≡ 0 → as_carried rr ≡ rr

-- ---- the first message comes up

-- it is the first that is on its way, and the frames of the others are left
pub record ComesUp (session : Session) (c : Connection) (wire : List ℕ) (ups : List ClientMessage) (whole rest : List ℕ) : Type 0 where
  pub first : ClientMessage
  pub others : List ClientMessage
  pub are : ups ≡ first ∷ others
  pub whole_is : whole ≡ message_octets first
  pub left : going_up (without_first rest session) c wire ≡ flat_map (λ m. frame (message_octets m)) others

abbrev pub FirstComesUp : Type 0
FirstComesUp = (session : Session) (c : Connection) (wire : List ℕ) (ups : List ClientMessage) (whole rest : List ℕ) → AllByRecursion (λ m. IsTrue (is_within m)) ups
    → going_up session c wire ≡ flat_map (λ m. frame (message_octets m)) ups → first_message session.input ≡ Some (whole, rest) → ComesUp session c wire ups whole rest

abbrev pub TakenUpIsWithin : Type 0
TakenUpIsWithin = (established : Bool) (active : Active) (ups : List ClientMessage) → IsSome (all_taken_up established active ups) → AllByRecursion (λ m. IsTrue (is_within m)) ups

-- ---- the reaction

-- what is needed of the server for it
abbrev pub needs : ClientMessage → Request
needs (subscribes id question) = requests.Subscribe (Some question)
needs (reconfirms rr) = requests.Reconfirm (Some (as_carried rr))
needs _ = requests.Itself

abbrev pub is_request_to_keep : ClientMessage → Bool
is_request_to_keep (requests_keepalive id) = true
is_request_to_keep _ = false

-- the timers begin anew (RFC 8490, 6.3)
abbrev pub heard : ℕ → ClientMessage → Session → Session
heard t m session = record session { clocks = restarted (is_request_to_keep m) t session.clocks }

-- the timers begin anew, and the session reacts to what the message says
abbrev pub after : Hub → ClientMessage → Session → Session
after hub m session = reaction hub m (heard (now hub) m session)

-- a later hub has this session of the number, these entries, so of each other session, and all else as before
pub record HasAfter (hub later : Hub) (entries : List Entry) (elsewhere : Option Session → Option Session) (number : ℕ) (found : Session) : Type 0 where
  pub start : later.start ≡ hub.start
  pub timers : later.timers ≡ hub.timers
  pub history : later.history ≡ entries
  pub numbers_given : later.numbers_given ≡ hub.numbers_given
  pub session : session_of later number ≡ Some found
  pub others : (other : ℕ) → (other ≡ number → ⊥) → session_of later other ≡ elsewhere (session_of hub other)

-- a RECONFIRM asks for the reconfirming of its record besides: where a link shows that, and the point isn't the last one, an entry is made (RFC 8765, 6.5)
abbrev pub asks_hub : ClientMessage → ℕ → Hub → Hub
asks_hub (reconfirms rr) number hub = reconfirms_record (Some (as_carried rr)) number hub
asks_hub _ number hub = hub

-- the rules, of a message that may be taken up: nothing is read for it but what it says, and the session reacts so
pub record ReactedSo (hub : Hub) (number : ℕ) (m : ClientMessage) (session : Session) : Type 0 where
  pub request : request_in (message_octets m) session.established ≡ needs m
  pub between : Hub
  pub reacts : HasAfter hub between hub.history (λ other. other) number (after hub m session)
  pub asks : reacted (message_octets m) number hub ≡ asks_hub m number between

abbrev pub ReactsSo : Type 0
ReactsSo = (hub : Hub) (number : ℕ) (m : ClientMessage) (session : Session) → session_of hub number ≡ Some session
    → IsSome (taken_up session.established (asked_of session.subscriptions) m) → ReactedSo hub number m session

-- a SUBSCRIBE is accepted where its question may be served, and refused with NOTAUTH where it isn't: there is no other verdict, and no end (RFC 8765, 6.2.2)
abbrev pub VerdictsAreTwo : Type 0
VerdictsAreTwo = (point id : ℕ) (question : Question) (has_home established : Bool) (subscriptions : List Subscription) → IsSome (taken_up established (asked_of subscriptions) (subscribes id question))
    → verdict_on (plain_keeps point) id (Some question) has_home subscriptions ≡ (if may_be_served question has_home then Accept question else Refuse notauth)

-- ---- what the session has then

-- a question is active with its ID, and its first answer ends behind all that was written before
abbrev pub accepted_as : Hub → ℕ → Question → Session → Subscription
accepted_as hub id question session = record { id = id; question = question; filled = written session + first_answer_size (answer_to id noerror) (first_answer hub session question) }

abbrev pub subscriptions_after : Hub → ClientMessage → Session → List Subscription
subscriptions_after hub (subscribes id question) session = if is_served_at (state_now hub) question then session.subscriptions ++ accepted_as hub id question session ∷ [] else session.subscriptions
subscriptions_after hub (unsubscribes id) session = filter (λ s. not (s.id == id)) session.subscriptions
subscriptions_after hub _ session = session.subscriptions

abbrev pub established_after : Hub → ClientMessage → Session → Bool
established_after hub (subscribes id question) session = if is_served_at (state_now hub) question then true else session.established
established_after hub (requests_keepalive id) session = true
established_after hub _ session = session.established

-- a PUSH where there are notices
abbrev pub tells_some : List Notice → Hub → Queue → List Subscription → List Flying
tells_some [] hub queue subscribed = []
tells_some (n ∷ ns) hub queue subscribed = flies (tells (n ∷ ns)) (record { queue = queue; newest = newest hub }) subscribed ∷ []

-- NOERROR, and the PUSH that follows it (RFC 8765, 6.2.2); the name doesn't wait behind them
abbrev pub accepted_with : List Notice → Hub → ℕ → Question → Session → List Flying
accepted_with notices hub id question session =
    let subscribed = session.subscriptions ++ accepted_as hub id question session ∷ [] in
    let left = leaves_queue question.name session.queue in
    flies (accepting id) (record { queue = if is_empty notices then left else session.queue; newest = newest hub }) subscribed ∷ tells_some notices hub left subscribed

-- what comes down for it
abbrev pub said_after : Hub → ClientMessage → Session → List Flying
said_after hub (subscribes id question) session =
    if is_served_at (state_now hub) question then accepted_with (first_answer hub session question) hub id question session
    else flies (refuses id) (note_of (newest hub) session) session.subscriptions ∷ []
said_after hub (requests_keepalive id) session = flies (grants id) (note_of (newest hub) session) session.subscriptions ∷ []
said_after hub _ session = []

pub record IsAfter (hub : Hub) (m : ClientMessage) (session : Session) : Type 0 where
  pub subscriptions : (after hub m session).subscriptions ≡ subscriptions_after hub m session
  pub made : (after hub m session).made ≡ session.made ++ map (made_of hub.timers) (said_after hub m session)
  pub output : (after hub m session).output ≡ session.output ++ flying_octets hub.timers (said_after hub m session)
  pub established : (after hub m session).established ≡ established_after hub m session
  pub standing : (after hub m session).standing ≡ session.standing
  pub input : (after hub m session).input ≡ session.input

abbrev pub AfterIs : Type 0
AfterIs = (hub : Hub) (m : ClientMessage) (session : Session) → IsAfter hub m session

-- ---- `give`

-- a live session without output, in whose input a message stands first that may be taken up
pub record IsMet (hub : Hub) (number : ℕ) (session : Session) (m : ClientMessage) (rest : List ℕ) : Type 0 where
  pub there : session_of hub number ≡ Some session
  pub live : session.standing ≡ Live
  pub silent : session.output ≡ []
  pub first : first_message session.input ≡ Some (message_octets m, rest)
  pub taken : IsSome (taken_up session.established (asked_of session.subscriptions) m)

-- the point from which on a session falls behind by the entry that a RECONFIRM makes (this project's own)
abbrev pub behind_point : Hub → Session → Option (ℕ × Key) → Option ℕ
behind_point hub session None = None
behind_point hub session (Some found) =
    let entry = entries.Reconfirm found.0 found.1 in
    if accepts (state_now hub) entry && can_enter hub then behind_at hub entry session else None

abbrev pub behind_for : ClientMessage → Hub → Session → Option ℕ
behind_for (reconfirms rr) hub session = behind_point hub session (reconfirm_key (state_now hub) (as_carried rr))
behind_for _ hub session = None

-- such a session ends; the entry changes no record, so no name comes to wait for it
abbrev pub falls_behind : ClientMessage → Hub → Session → Session
falls_behind m hub session = ended_where (keeps_now hub) (option_map (λ p. ends.Behind p) (behind_for m hub session)) session

-- the session that sent it, behind that
abbrev pub after_entry : Hub → ClientMessage → Session → Session
after_entry hub m session = falls_behind m hub (after hub m session)

-- octets were written, or else what was done
pub record GaveSo (hub : Hub) (number room : ℕ) (m : ClientMessage) (session : Session) : Type 0 where
  pub octets : (give hub number room).octets ≡ take room (after_entry hub m session).output
  pub given : (give hub number room).given ≡ given_of (given_after (after_entry hub m session).standing) room (after_entry hub m session)
  pub leaves : HasAfter hub (give hub number room).hub (asks_hub m number hub).history (option_map (falls_behind m hub)) number (record (after_entry hub m session) { output = drop room (after_entry hub m session).output })

abbrev pub GivesSo : Type 0
GivesSo = (hub : Hub) (number room : ℕ) (session : Session) (m : ClientMessage) (rest : List ℕ) → IsMet hub number session m rest → GaveSo hub number room m (without_first rest session)
