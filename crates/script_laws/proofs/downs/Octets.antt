-- What a client writes is octets.
--     WritesOctets message      the names and the data that a message brings are octets
--     octets-written      the frames of such messages
--     asked-octets, dropped-octets, reconfirmed-octets, due-octets, ended-octets, opened-octets      what each call and step writes
use Rattle.std.proofs.Common.{◌≡◌, ℕ, zero, suc, ◌<◌, Bool, true, false, ◌&&◌, List, [], ◌∷◌, ◌++◌, map, length, Option, Some, None, sym, subst, arith}
use Rattle.std.specs.Prelude.{IsTrue, nat_le, if◌then◌else◌}
use Rattle.std.specs.Int.{Width, w16, w32, byte_at, byte_len, bytes_high_first, to_be_bytes}
use Rattle.std.specs.List.{AllByRecursion}
use Rattle.std.proofs.lemmas.Bool.{and_parts}
use Rattle.std.proofs.lemmas.List.Elements.{All-nil, All-cons, All-from_recursion}
use Rattle.push_base.specs.Limits.{max_questions}
use Rattle.dnsname.specs.Names.{Labels, IsLabel, is_name, label_octets, labels_octets, octets}
use Rattle.dnsname.proofs.Decisions.{is_name-Decides}
use Rattle.rrset.specs.Header.{answer_octets}
use Rattle.rrset.specs.declared.record.Question.{Question}
use Rattle.rrset.specs.declared.record.Rr.{Rr}
use Rattle.dsotlv.specs.Laws.{AreOctets}
use Rattle.dsotlv.specs.Messages.{frame, tlv_octets, dso_flags}
use Rattle.dsotlv.specs.TlvKinds.{subscribe_tlv, unsubscribe_tlv, reconfirm_tlv, keepalive_tlv}
use Rattle.dsosession.specs.Timing.{default_timers}
use Rattle.dsosession.specs.declared.session.Due.{Due}
use Rattle.dsosession.specs.declared.session.Due.TheVariants as dues
use Rattle.pushclient.specs.Clients.{Client, Connection, Wish, RequestState, not_asked, unanswered, refused, answered, next_id, wish_for, question_octets, reconfirm_message}
use Rattle.pushclient.specs.ServerMessages.{ServerMessage, accepts, refuses, grants, tells, delays}
use Rattle.pushclient.specs.Steps.{request_of}
use Rattle.pushclient.proofs.SoundWishes.{some_is}
use Rattle.inflight.specs.Messages.{ClientMessage, message_octets, subscribes, unsubscribes, reconfirms, requests_keepalive}
use Rattle.inflight.specs.Ends.{is_question}
use Rattle.flight_laws.specs.Taking.{written, ended_by, asked_by, ended_as, dropped_by, reconfirmed_by, due_message, question_asked}
use Rattle.replay.proofs.rest.RestingStreams.{octets-both}

-- ---- numbers and names

byte-below : (i n : ℕ) → byte_at i n < 256
byte-below zero n = omega arith
byte-below (suc i) n = omega arith

bytes-octets : (k n : ℕ) → AreOctets (bytes_high_first k n)
bytes-octets zero n = All-nil (λ o. o < 256)
bytes-octets (suc k) n = All-cons (λ o. o < 256) (byte_at k n) (bytes_high_first k n) (byte-below k n) (bytes-octets k n)

number-octets : (w : Width) (n : ℕ) → AreOctets (to_be_bytes w n)
number-octets w n = bytes-octets (byte_len w) n

labels-octets : (name : Labels) → AllByRecursion IsLabel name → AreOctets (labels_octets name)
labels-octets [] all = All-nil (λ o. o < 256)
labels-octets (l ∷ ls) all =
    let first : AreOctets (label_octets l) = All-cons (λ o. o < 256) (length l) l (omega (arith, all.0.few)) (All-from_recursion (λ o. o < 256) l all.0.octets) in
    octets-both (label_octets l) (labels_octets ls) first (labels-octets ls all.1)

pub name-octets : (name : Labels) → IsTrue (is_name name) → AreOctets (octets name)
name-octets name named = octets-both (labels_octets name) (0 ∷ []) (labels-octets name ((is_name-Decides name).0 named).labels) (All-from_recursion (λ o. o < 256) (0 ∷ []) (omega arith))

-- ---- messages

header-octets : (id flags : ℕ) → AreOctets (answer_octets id flags)
header-octets id flags =
    let zeros : List ℕ = 0 ∷ 0 ∷ 0 ∷ 0 ∷ 0 ∷ 0 ∷ 0 ∷ 0 ∷ [] in
    octets-both (to_be_bytes w16 id ++ to_be_bytes w16 flags) zeros (octets-both (to_be_bytes w16 id) (to_be_bytes w16 flags) (number-octets w16 id) (number-octets w16 flags)) (All-from_recursion (λ o. o < 256) zeros (omega arith))

tlv-is-octets : (kind : ℕ) (os : List ℕ) → AreOctets os → AreOctets (tlv_octets (record { kind = kind; octets = os }))
tlv-is-octets kind os all =
    octets-both (to_be_bytes w16 kind ++ to_be_bytes w16 (length os)) os (octets-both (to_be_bytes w16 kind) (to_be_bytes w16 (length os)) (number-octets w16 kind) (number-octets w16 (length os))) all

-- a header, and one TLV
message-is-octets : (id kind : ℕ) (os : List ℕ) → AreOctets os → AreOctets (answer_octets id (dso_flags false 0) ++ tlv_octets (record { kind = kind; octets = os }))
message-is-octets id kind os all = octets-both (answer_octets id (dso_flags false 0)) (tlv_octets (record { kind = kind; octets = os })) (header-octets id (dso_flags false 0)) (tlv-is-octets kind os all)

question-is-octets : (q : Question) → IsTrue (is_name q.name) → AreOctets (question_octets q)
question-is-octets q named =
    octets-both (octets q.name ++ to_be_bytes w16 q.kind) (to_be_bytes w16 q.class) (octets-both (octets q.name) (to_be_bytes w16 q.kind) (name-octets q.name named) (number-octets w16 q.kind)) (number-octets w16 q.class)

record-is-octets : (rr : Rr) → IsTrue (is_name rr.owner) → AreOctets rr.rdata → AreOctets (octets rr.owner ++ to_be_bytes w16 rr.kind ++ to_be_bytes w16 rr.class ++ rr.rdata)
record-is-octets rr named below =
    octets-both (octets rr.owner ++ to_be_bytes w16 rr.kind ++ to_be_bytes w16 rr.class) rr.rdata
    (octets-both (octets rr.owner ++ to_be_bytes w16 rr.kind) (to_be_bytes w16 rr.class) (octets-both (octets rr.owner) (to_be_bytes w16 rr.kind) (name-octets rr.owner named) (number-octets w16 rr.kind)) (number-octets w16 rr.class)) below

abbrev pub WritesOctets : ClientMessage → Type 0
WritesOctets (subscribes id question) = IsTrue (is_name question.name)
WritesOctets (reconfirms rr) = IsTrue (is_name rr.owner) × AreOctets rr.rdata
WritesOctets _ = Unit {0}

one-octets : (m : ClientMessage) → WritesOctets m → AreOctets (message_octets m)
one-octets (subscribes id question) named = message-is-octets id subscribe_tlv (question_octets question) (question-is-octets question named)
one-octets (unsubscribes id) named = message-is-octets 0 unsubscribe_tlv (to_be_bytes w16 id) (number-octets w16 id)
one-octets (reconfirms rr) h = message-is-octets 0 reconfirm_tlv _ (record-is-octets rr h.0 h.1)
one-octets (requests_keepalive id) named =
    message-is-octets id keepalive_tlv (to_be_bytes w32 default_timers.inactivity ++ to_be_bytes w32 default_timers.keepalive) (octets-both (to_be_bytes w32 default_timers.inactivity) (to_be_bytes w32 default_timers.keepalive) (number-octets w32 default_timers.inactivity) (number-octets w32 default_timers.keepalive))

pub octets-written : (ups : List ClientMessage) → AllByRecursion WritesOctets ups → AreOctets (written ups)
octets-written [] all = All-nil (λ o. o < 256)
octets-written (m ∷ ms) all =
    let os = message_octets m in
    octets-both (frame os) (written ms) (octets-both (to_be_bytes w16 (length os)) os (number-octets w16 (length os)) (one-octets m all.0)) (octets-written ms all.1)

-- ---- what each call writes

question-named : (q : Question) → IsTrue (is_question q) → IsTrue (is_name q.name)
question-named q fits = (and_parts (is_name q.name) (nat_le q.kind 65535) (and_parts (is_name q.name && nat_le q.kind 65535) (nat_le q.class 65535) fits).0).0

pub asked-octets : (client : Client) (c : Connection) (question : Question) → IsTrue (is_question question) → AllByRecursion WritesOctets (asked_by client c question)
asked-octets client c question fits = by (wish_for client question)
  where
    room : (b : Bool) → AllByRecursion WritesOctets (if b then [] else subscribes (next_id client.wishes c) question ∷ [])
    room true = tt
    room false = (question-named question fits, tt)

    by : (o : Option Wish) → AllByRecursion WritesOctets (elim o as (λ _. List ClientMessage) [
      | Some wish ↦ []
      | None ↦ if nat_le max_questions (length client.wishes) then [] else subscribes (next_id client.wishes c) question ∷ []
    ])
    by (Some wish) = tt
    by None = room (nat_le max_questions (length client.wishes))

ended-as-octets : (s : RequestState) → AllByRecursion WritesOctets (ended_as s)
ended-as-octets (answered id) = (tt, tt)
ended-as-octets (unanswered id) = tt
ended-as-octets (refused rcode) = tt
ended-as-octets not_asked = tt

pub dropped-octets : (client : Client) (question : Question) → AllByRecursion WritesOctets (dropped_by client question)
dropped-octets client question = by (wish_for client question)
  where
    wanted : (wish : Wish) (b : Bool) → AllByRecursion WritesOctets (if b then ended_as wish.standing else [])
    wanted wish true = ended-as-octets wish.standing
    wanted wish false = tt

    by : (o : Option Wish) → AllByRecursion WritesOctets (elim o as (λ _. List ClientMessage) [ None ↦ [] | Some wish ↦ if wish.wanted then ended_as wish.standing else [] ])
    by None = tt
    by (Some wish) = wanted wish wish.wanted

pub reconfirmed-octets : (c : Connection) (rr : Rr) → IsTrue (is_name rr.owner) → AreOctets rr.rdata → AllByRecursion WritesOctets (reconfirmed_by c rr)
reconfirmed-octets c rr named below = by (c.established && nat_le (length (reconfirm_message rr)) 65535)
  where
    by : (b : Bool) → AllByRecursion WritesOctets (if b then reconfirms rr ∷ [] else [])
    by true = ((named, below), tt)
    by false = tt

pub due-octets : (due : Due) (id : ℕ) → AllByRecursion WritesOctets (due_message due id)
due-octets dues.Keepalive id = (tt, tt)
due-octets dues.Nothing id = tt
due-octets dues.Idle id = tt

pub ended-octets : (client : Client) (says : ServerMessage) → AllByRecursion WritesOctets (ended_by client says)
ended-octets client (accepts id) = by (request_of client id)
  where
    wanted : (b : Bool) → AllByRecursion WritesOctets (if b then [] else unsubscribes id ∷ [])
    wanted true = tt
    wanted false = (tt, tt)

    by : (o : Option Wish) → AllByRecursion WritesOctets (elim o as (λ _. List ClientMessage) [ None ↦ [] | Some wish ↦ if wish.wanted then [] else unsubscribes id ∷ [] ])
    by None = tt
    by (Some wish) = wanted wish.wanted
ended-octets client (refuses id) = tt
ended-octets client (grants id) = tt
ended-octets client (tells notices) = tt
ended-octets client (delays rcode delay) = tt

-- what asks for questions within bounds
pub opened-octets : (ups : List ClientMessage) (questions : List Question) → map question_asked ups ≡ map (λ q. Some q) questions → AllByRecursion (λ q. IsTrue (is_question q)) questions → AllByRecursion WritesOctets ups
opened-octets [] questions are fit = tt
opened-octets (m ∷ ms) [] are fit = absurd cc
opened-octets (m ∷ ms) (q ∷ qs) are fit = let first : question_asked m ≡ Some q = cc in let others : map question_asked ms ≡ map (λ q. Some q) qs = cc in (one m first, opened-octets ms qs others fit.1)
  where
    one : (m : ClientMessage) → question_asked m ≡ Some q → WritesOctets m
    one (subscribes id question) is = subst (λ (z : Question). IsTrue (is_name z.name)) (sym (some_is question q is)) (question-named q fit.0)
    one (unsubscribes id) is = tt
    one (reconfirms rr) is = absurd cc
    one (requests_keepalive id) is = tt
