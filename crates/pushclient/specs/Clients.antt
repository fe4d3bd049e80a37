-- The client: its wishes in order of asking, and its connection. It keeps no set, but the notices taken since each answer.
--     connected, cut, subscribe, unsubscribe, reconfirm      the calls that ask
--     take_octets, give_octets      octets in and out
--     id_of      the ID with which a question is asked
--     held      what the client knows of a question
use Rattle.std.specs.Prelude.{ℕ, zero, suc, ◌+◌, ◌-◌, Bool, true, false, not, ◌&&◌, cond, List, [], ◌∷◌, ◌++◌, map, length, take, drop, filter, fold, find, flat_map, Option, Some, None, is_some, nat_le, ◌==◌, option_map, option_to_list, if◌then◌else◌}
use Rattle.std.specs.Int.{w16, to_be_bytes}
use Rattle.std.specs.List.{list_any}
use Rattle.push_base.specs.Limits.{max_questions, max_input}
use Rattle.dnsname.specs.Names.{octets}
use Rattle.rrset.specs.Header.{answer_octets, max_message}
use Rattle.rrset.specs.Records.{same_question}
use Rattle.rrset.specs.RecordSet.{RecordSet}
use Rattle.rrset.specs.declared.record.Rr.{Rr}
use Rattle.rrset.specs.declared.record.Question.{Question}
use Rattle.dsotlv.specs.Messages.{frame, tlv_octets, dso_flags}
use Rattle.dsotlv.specs.Notices.{applied_all}
use Rattle.dsotlv.specs.declared.message.Notice.{Notice}
use Rattle.dsotlv.specs.TlvKinds.{subscribe_tlv, unsubscribe_tlv, reconfirm_tlv}
use Rattle.dsosession.specs.Timing.{Clocks, new_clocks, restarted}
use Rattle.dsosession.specs.declared.session.CloseReason.{CloseReason}
use Rattle.pushclient.specs.declared.client.Asked.{Asked}
use Rattle.pushclient.specs.declared.client.Asked.TheVariants as asked

-- how a wish stands on this connection: not asked, asked with an ID, refused with an RCODE, or answered with the ID
pub data RequestState : Type 0 where
  not_asked : RequestState
  unanswered : ℕ → RequestState
  refused : ℕ → RequestState
  answered : ℕ → RequestState

-- a question, and the notices taken since its answer; one that was dropped before its answer isn't wanted any more
pub record Wish : Type 0 where
  pub question : Question
  pub wanted : Bool
  pub standing : RequestState
  pub notices : List Notice

pub record Connection : Type 0 where
  pub last_id : ℕ
  pub established : Bool
  pub clocks : Clocks
  pub keepalive_out : Option ℕ
  pub input : List ℕ
  pub output : List ℕ
  pub closed : Option CloseReason

pub record Client : Type 0 where
  pub wishes : List Wish
  pub connection : Option Connection
  pub now : ℕ

abbrev pub new_client : Client
new_client = record { wishes = []; connection = None; now = 0 }

abbrev pub new_connection : ℕ → Connection
new_connection now = record { last_id = 0; established = false; clocks = new_clocks now; keepalive_out = None; input = []; output = []; closed = None }

abbrev pub id_in_use : RequestState → List ℕ
id_in_use (unanswered id) = id ∷ []
id_in_use (answered id) = id ∷ []
id_in_use _ = []

-- the IDs of unanswered requests and of answered subscriptions
abbrev pub ids_in_use : List Wish → Connection → List ℕ
ids_in_use wishes connection = flat_map (λ w. id_in_use w.standing) wishes ++ option_to_list connection.keepalive_out

-- 65,535 is followed by 1
abbrev pub id_after : ℕ → ℕ
id_after id = if id == 65535 then 1 else id + 1

-- The first free ID from one on. At most 1,025 are in use. Which one is next is this project's own.
abbrev pub free_id : ℕ → List ℕ → ℕ → ℕ
free_id zero used id = id
free_id (suc more) used id = elim (list_any (λ u. u == id) used) [ false ↦ id | true ↦ free_id more used (id_after id) ]

-- the next ID after the last that isn't in use: no ID is in use twice (RFC 8490, 5.4.1)
abbrev pub next_id : List Wish → Connection → ℕ
next_id wishes connection = free_id 1025 (ids_in_use wishes connection) (id_after connection.last_id)

-- a message behind its length goes to the output; it restarts the timers (RFC 7766, 8; RFC 8490, 6.3)
abbrev pub writes : Bool → ℕ → List ℕ → Connection → Connection
writes is_keepalive now message connection = record connection { output = connection.output ++ frame message; clocks = restarted is_keepalive now connection.clocks }

abbrev pub question_octets : Question → List ℕ
question_octets q = octets q.name ++ to_be_bytes w16 q.kind ++ to_be_bytes w16 q.class

-- RFC 8765, 6.2.1, 6.4.1 and 6.5.1
abbrev pub subscribe_message : ℕ → Question → List ℕ
subscribe_message id question = answer_octets id (dso_flags false 0) ++ tlv_octets (record { kind = subscribe_tlv; octets = question_octets question })

abbrev pub unsubscribe_message : ℕ → List ℕ
unsubscribe_message id = answer_octets 0 (dso_flags false 0) ++ tlv_octets (record { kind = unsubscribe_tlv; octets = to_be_bytes w16 id })

abbrev pub reconfirm_message : Rr → List ℕ
reconfirm_message rr = answer_octets 0 (dso_flags false 0) ++ tlv_octets (record { kind = reconfirm_tlv; octets = octets rr.owner ++ to_be_bytes w16 rr.kind ++ to_be_bytes w16 rr.class ++ rr.rdata })

-- a connection that is there and hasn't closed
abbrev pub opened : Option Connection → Option Connection
opened connection = elim connection [ None ↦ None | Some c ↦ cond (is_some c.closed) None (Some c) ]

abbrev pub open_connection : Client → Option Connection
open_connection client = opened client.connection

abbrev pub with_connection : Connection → Client → Client
with_connection connection client = record client { connection = Some connection }

-- a wish as the last in order; where the connection is open it is asked with the next ID
abbrev pub asks : Client → Question → Client
asks client question = elim (open_connection client) [
  | None ↦ record client { wishes = client.wishes ++ (record { question = question; wanted = true; standing = not_asked; notices = [] }) ∷ [] }
  | Some c ↦ (let id = next_id client.wishes c in record client {
    wishes = client.wishes ++ (record { question = question; wanted = true; standing = unanswered id; notices = [] }) ∷ [];
    connection = Some (writes false client.now (subscribe_message id question) (record c { last_id = id }));
  })
]

abbrev pub wanted_questions : Client → List Question
wanted_questions client = map (λ w. w.question) (filter (λ w. w.wanted) client.wishes)

-- a new connection, on which all wanted questions are asked anew
abbrev pub connected : ℕ → Client → Client
connected t client = fold asks (record { wishes = []; connection = Some (new_connection t); now = t }) (wanted_questions client)

abbrev pub unasked : Question → Wish
unasked question = record { question = question; wanted = true; standing = not_asked; notices = [] }

-- what was dropped is forgotten, and nothing is asked
abbrev pub cut : Client → Client
cut client = record client { wishes = map unasked (wanted_questions client); connection = None }

abbrev pub wish_for : Client → Question → Option Wish
wish_for client question = find (λ w. same_question w.question question) client.wishes

abbrev pub without_wish : Question → List Wish → List Wish
without_wish question wishes = filter (λ w. not (same_question w.question question)) wishes

-- A question dropped without an answer is wanted again without a message, as the last in order (this project's own; RFC 8765, 6.2).
abbrev pub subscribe : Client → Question → Asked × Client
subscribe client question = elim (wish_for client question) [
  | Some wish ↦ if wish.wanted then (asked.Already, client)
      else (asked.New, record client { wishes = without_wish question client.wishes ++ (record wish { wanted = true }) ∷ [] })
  | None ↦ if nat_le max_questions (length client.wishes) then (asked.Many, client) else (asked.New, asks client question)
]

abbrev pub in_connection : (Connection → Connection) → Client → Client
in_connection f client = record client { connection = option_map f client.connection }

-- an answered subscription is ended by a message where the connection is open, an unanswered one waits for its answer, any other goes (RFC 8765, 6.4)
abbrev pub drops : RequestState → Wish → Client → Client
drops (answered id) wish client =
    let gone = record client { wishes = without_wish wish.question client.wishes } in
    elim (open_connection client) [ None ↦ gone | Some c ↦ with_connection (writes false client.now (unsubscribe_message id) c) gone ]
drops (unanswered id) wish client = record client { wishes = map (λ w. cond (same_question w.question wish.question) (record w { wanted = false }) w) client.wishes }
drops _ wish client = record client { wishes = without_wish wish.question client.wishes }

abbrev pub unsubscribe : Client → Question → Bool × Client
unsubscribe client question = elim (wish_for client question) [
  | None ↦ (false, client)
  | Some wish ↦ if wish.wanted then (true, drops wish.standing wish client) else (false, client)
]

abbrev pub reconfirm : Client → Rr → Bool × Client
reconfirm client rr = elim (open_connection client) [
  | None ↦ (false, client)
  | Some c ↦ if c.established && nat_le (length (reconfirm_message rr)) max_message then (true, with_connection (writes false client.now (reconfirm_message rr) c) client) else (false, client)
]

abbrev pub room_of : Client → ℕ
room_of client = elim (open_connection client) [ None ↦ 0 | Some c ↦ max_input - length c.input ]

abbrev pub take_octets : List ℕ → Client → Client
take_octets piece client = in_connection (λ c. record c { input = c.input ++ take (room_of client) piece }) client

abbrev pub output_of : Client → List ℕ
output_of client = elim client.connection [ None ↦ [] | Some c ↦ c.output ]

abbrev pub give_octets : ℕ → Client → Client
give_octets n client = in_connection (λ c. record c { output = drop n c.output }) client

abbrev pub closed_as : Client → Option CloseReason
closed_as client = elim client.connection [ None ↦ None | Some c ↦ c.closed ]

abbrev pub is_connected : Client → Bool
is_connected client = is_some client.connection

-- the ID of a request that has no answer yet, or that is answered
abbrev pub id_asked : RequestState → Option ℕ
id_asked (unanswered id) = Some id
id_asked (answered id) = Some id
id_asked _ = None

-- also of a question that was dropped and has no answer yet
abbrev pub id_of : Client → Question → Option ℕ
id_of client question = elim (wish_for client question) [ None ↦ None | Some wish ↦ id_asked wish.standing ]

-- what a client knows of a question
pub data Held : Type 0 where
  off : Held
  asked_only : Held
  refused_with : ℕ → Held
  set_held : ℕ → RecordSet → Held

abbrev pub held_as : RequestState → Wish → Held
held_as not_asked wish = off
held_as (unanswered id) wish = asked_only
held_as (refused rcode) wish = refused_with rcode
held_as (answered id) wish = set_held id (applied_all wish.notices wish.question [])

abbrev pub held : Client → Question → Held
held client question = elim (wish_for client question) [ None ↦ off | Some wish ↦ if wish.wanted && is_connected client then held_as wish.standing wish else off ]
