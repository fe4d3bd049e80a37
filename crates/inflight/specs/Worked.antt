-- Words for worked rows: which sentences on what is under way aren't so, by name.
--     unmet_together ends taken flying ups      of those over messages
--     client_message, server_message      the messages that octets are
use Rattle.std.specs.Prelude.{ℕ, ◌-◌, Bool, true, not, ◌&&◌, ◌||◌, List, [], ◌∷◌, ◌++◌, map, length, filter, count_by, flat_map, Option, Some, None, Ok, Err, is_some, nat_le, nat_lt, ◌==◌, option_map, codes, ◌+◌, ◌^◌, if◌then◌else◌}
use Rattle.std.specs.Int.{w16, w32, from_be_bytes}
use Rattle.std.specs.List.{list_all}
use Rattle.std.specs.Str.{bytes_eq}
use Rattle.push_base.specs.Limits.{max_questions}
use Rattle.rrset.specs.Header.{id_of, flags_of, is_response, rcode_of}
use Rattle.rrset.specs.Records.{same_question}
use Rattle.dsotlv.specs.TlvKinds.{keepalive_tlv, subscribe_tlv, unsubscribe_tlv, reconfirm_tlv}
use Rattle.dsotlv.specs.Messages.{head_of, primary_data}
use Rattle.dsotlv.specs.Notices.{question_of, reconfirm_of, notice_octets, notices_of}
use Rattle.dsosession.specs.Timing.{least_keepalive}
use Rattle.pushserver.specs.PlainHubs.{Session, Made, size_of_made, asked_of}
use Rattle.pushserver.specs.ToldMessages.{notices_since}
use Rattle.pushclient.specs.Clients.{Wish, answered}
use Rattle.inflight.specs.Messages.{ClientMessage, subscribes, unsubscribes, reconfirms, requests_keepalive, request_ids, unsubscribed_ids, Flying, answer_ids, is_refusal, answer_comes_first}
use Rattle.inflight.specs.Ends.{BothEnds, is_id, is_question, unanswered_ids, used_ids, is_requested, fits_request, is_told, all_taken_up}
use Rattle.inflight.specs.Flight.{is_seen, is_homeless, is_active_answer, is_let_go, is_held_active, is_accounted_for}
use Rattle.pushclient.specs.ServerMessages.{ServerMessage, accepts, refuses, grants, tells, delays, server_octets}
use Rattle.pushclient.specs.FittingMessages.{is_delay}
use Rattle.pushclient.specs.SoundClients.{count_of, is_asked}
use Rattle.pushclient.specs.Steps.{is_answered}

-- ---- what octets are

-- the message that a client wrote, by its first TLV
abbrev pub client_message : List ℕ → Option ClientMessage
client_message message = elim (head_of message) [
  | None ↦ None
  | Some head ↦ elim head.primary [
    | None ↦ None
    | Some primary ↦
        if primary.0 == subscribe_tlv then option_map (λ q. subscribes head.id q) (question_of (primary_data message))
        else if primary.0 == unsubscribe_tlv then Some (unsubscribes (from_be_bytes w16 (primary_data message)))
        else if primary.0 == reconfirm_tlv then option_map (λ rr. reconfirms rr) (reconfirm_of (primary_data message))
        else if primary.0 == keepalive_tlv then Some (requests_keepalive head.id) else None
  ]
]

-- the message that the server made, by its flags and its first TLV
abbrev pub server_message : List ℕ → Option ServerMessage
server_message message =
    if is_response (flags_of message) then
    (if length message == 12 then Some (accepts (id_of message))
    else if rcode_of (flags_of message) == 0 then Some (grants (id_of message)) else Some (refuses (id_of message)))
    else if length message == 20 then Some (delays (rcode_of (flags_of message)) (from_be_bytes w32 (primary_data message)))
    else elim (notices_of (primary_data message)) [ Err fault ↦ None | Ok notices ↦ Some (tells notices) ]

abbrev pub flying_of : Made → Option Flying
flying_of m = option_map (λ s. record { says = s; note = m.note; subscribed = m.subscribed }) (server_message m.message)

-- ---- what isn't so

-- sentences by name, each with whether it is so: the names of those that aren't
abbrev pub unmet : List (List ℕ × Bool) → List (List ℕ)
unmet sentences = map (λ s. s.0) (filter (λ s. not s.1) sentences)

-- each number stands as often in one list as in two others
abbrev pub count_together : List ℕ → List ℕ → List ℕ → Bool
count_together ns ms ls = list_all (λ n. count_of n ns == count_of n ms + count_of n ls) (ns ++ ms ++ ls)

abbrev pub none_twice : List ℕ → Bool
none_twice ns = list_all (λ n. nat_le (count_of n ns) 1) ns

abbrev pub took_notices : List Made → Wish → Bool
took_notices taken w = elim w.standing [ answered id ↦ bytes_eq (flat_map notice_octets w.notices) (flat_map notice_octets (notices_since id taken)) | _ ↦ true ]

abbrev pub unmet_of_wishes : List Wish → List (List ℕ)
unmet_of_wishes wishes = unmet (
    (codes "few", nat_le (length wishes) max_questions)
    ∷ (codes "questions", list_all (λ w. count_by (λ v. same_question v.question w.question) wishes == 1) wishes)
    ∷ (codes "fit", list_all (λ w. is_question w.question) wishes)
    ∷ [])

abbrev pub unmet_of_client : BothEnds → List (List ℕ)
unmet_of_client e = unmet_of_wishes e.wishes ++ unmet (
    (codes "ids", list_all is_id (used_ids e))
    ∷ (codes "distinct", none_twice (used_ids e))
    ∷ (codes "last", nat_le e.last_id 65535)
    ∷ (codes "asked", list_all (λ w. is_asked w.standing) e.wishes)
    ∷ (codes "begun", list_all (λ w. not (is_answered w.standing) || e.client_established) e.wishes)
    ∷ [])

abbrev pub unmet_down : BothEnds → List Made → List Flying → List (List ℕ)
unmet_down e taken flying = unmet (
    (codes "readable", list_all (λ f. nat_lt (length (server_octets e.timers f.says)) (2 ^ 16)) flying)
    ∷ (codes "fits", list_all (λ f. fits_request e f.says) flying)
    ∷ (codes "awaited", list_all (λ id. nat_le (count_of id (answer_ids flying)) (count_of id (unanswered_ids e))) (answer_ids flying))
    ∷ (codes "notices", list_all (took_notices taken) e.wishes)
    ∷ (codes "seen", list_all (is_seen e.told taken flying) e.wishes)
    ∷ (codes "told", list_all (is_told e.told) e.subscriptions)
    ∷ (codes "homeless", list_all (is_homeless e) e.wishes)
    ∷ (codes "established", not e.client_established || e.established)
    ∷ (codes "speaks", list_all (λ f. e.established || is_refusal f.says) flying)
    ∷ (codes "first", not e.established || e.client_established || answer_comes_first (map (λ f. f.says) flying))
    ∷ [])

abbrev pub unmet_up : BothEnds → List Flying → List ClientMessage → List (List ℕ)
unmet_up e flying ups = unmet (
    (codes "once", count_together (unanswered_ids e) (request_ids ups) (answer_ids flying))
    ∷ (codes "requests", list_all (is_requested e) ups)
    ∷ (codes "answers", list_all (is_active_answer e) flying)
    ∷ (codes "let_go", list_all (is_let_go e flying) (unsubscribed_ids ups))
    ∷ (codes "let_go_once", none_twice (unsubscribed_ids ups))
    ∷ (codes "held", list_all (is_held_active e) e.wishes)
    ∷ (codes "active", list_all (is_accounted_for e flying ups) e.subscriptions)
    ∷ (codes "accepted", is_some (all_taken_up e.established (asked_of e.subscriptions) ups))
    ∷ (codes "no_delay", list_all (λ f. not (is_delay f.says)) flying)
    ∷ [])

abbrev pub unmet_together : BothEnds → List Made → List Flying → List ClientMessage → List (List ℕ)
unmet_together e taken flying ups =
    unmet ((codes "timers", nat_lt e.timers.inactivity (2 ^ 32) && nat_le least_keepalive e.timers.keepalive && nat_lt e.timers.keepalive (2 ^ 32)) ∷ [])
    ++ unmet_of_client e ++ unmet_down e taken flying ++ (if e.goes_on then unmet_up e flying ups else [])

-- a number of octets ends one of some messages, or none
abbrev pub ends_a_message : List Made → ℕ → Bool
ends_a_message [] n = n == 0
ends_a_message (m ∷ ms) n = n == 0 || (nat_le (size_of_made (m ∷ [])) n && ends_a_message ms (n - size_of_made (m ∷ [])))

abbrev pub first_answers_end : Session → Bool
first_answers_end session =
    list_all (λ s. ends_a_message session.made s.filled) session.subscriptions
    && list_all (λ m. list_all (λ s. ends_a_message session.made s.filled) m.subscribed) session.made
