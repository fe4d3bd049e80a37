-- A message of this project's client is read as what it is, and the first on its way up is the first in the input.
--     read-back, read-again, carried      what is read
--     taken-up-within      what is taken up is within its bounds
--     first-comes-up      the first message
use Rattle.std.proofs.Common.{◌≡◌, ℕ, zero, suc, ◌+◌, ◌<◌, ◌≤◌, ◌^◌, Bool, true, false, not, ◌&&◌, ◌||◌, List, [], ◌∷◌, ◌++◌, length, get_or, Option, Some, None, Result, Ok, Err, refl, sym, ap, subst, ◌∙◌, arith, true≢false}
use Rattle.std.specs.Prelude.{flat_map, filter, is_some, option_map, nat_le, IsSome, IsTrue, ◌==◌, if◌then◌else◌}
use Rattle.std.specs.Int.{w16, w32, from_be_bytes, to_be_bytes}
use Rattle.std.specs.List.{AllByRecursion, list_any}
use Rattle.std.proofs.lemmas.Bool.{and_parts, and_from, leb-true}
use Rattle.std.proofs.lemmas.List.{append-nil, length-append}
use Rattle.std.proofs.lemmas.List.Elements.{All-nil, All-cons}
use Rattle.std.proofs.lemmas.Nat.{be_bytes_2, from_be_bytes-to_be_bytes_2}
use Rattle.push_base.specs.Limits.{max_questions}
use Rattle.dnsname.specs.Names.{octets, is_name}
use Rattle.dnsname.proofs.Decisions.{is_name-Decides}
use Rattle.rrset.specs.Header.{id_of, answer_octets}
use Rattle.rrset.specs.Records.{same_question}
use Rattle.rrset.specs.declared.record.Question.{Question}
use Rattle.rrset.specs.declared.record.Rr.{Rr}
use Rattle.dsotlv.specs.Laws.{HasSize}
use Rattle.dsotlv.specs.Messages.{frame, first_message, head_of, tlv_octets, primary_data, data_of_first, dso_flags}
use Rattle.dsotlv.specs.Notices.{question_of, reconfirm_of}
use Rattle.dsotlv.specs.Spelling.{SpellsQuestionData}
use Rattle.dsotlv.specs.TlvKinds.{keepalive_tlv, subscribe_tlv, unsubscribe_tlv, reconfirm_tlv}
use Rattle.dsotlv.specs.declared.message.DsoFault.{DsoFault}
use Rattle.dsotlv.specs.declared.message.DsoHead.{DsoHead}
use Rattle.dsotlv.specs.declared.message.Tlv.{Tlv}
use Rattle.dsotlv.proofs.QuestionLaws.{question_there}
use Rattle.dsotlv.proofs.Sizes.{length-tlv}
use Rattle.dsotlv.proofs.ReconfirmLaws.{reconfirm_there}
use Rattle.dsosession.specs.Timing.{default_timers}
use Rattle.pushclient.specs.Clients.{question_octets, reconfirm_message}
use Rattle.pushclient.proofs.Streams.{first-of-frames}
use Rattle.pushclient.proofs.WrittenHeads.{Written, dso_text, written}
use Rattle.inflight.specs.Messages.{ClientMessage, subscribes, unsubscribes, reconfirms, requests_keepalive, message_octets}
use Rattle.inflight.specs.Ends.{is_id, is_question, taken_up, all_taken_up}
use Rattle.inflight.specs.Worked.{client_message}
use Rattle.flight_laws.specs.Laws.{Active}
use Rattle.flight_laws.proofs.TakenUp.{goes_on}
use Rattle.flight_laws.specs.Meeting.{is_within, id_in, kind_in, head_in, in_two_octets, as_carried, SaysSo, IsReadBack, MessagesAreReadBack, as_read, FirstComesUp, TakenUpIsWithin}

-- ---- a message with one TLV

abbrev text : ℕ → Tlv → List ℕ
text id tlv = answer_octets id (dso_flags false 0) ++ tlv_octets tlv

size_of_text : (id : ℕ) (tlv : Tlv) → length (text id tlv) ≡ 16 + length tlv.octets
size_of_text id tlv =
    let header : length (answer_octets id (dso_flags false 0)) ≡ 12 = refl in
    omega (arith, header, length-append (answer_octets id (dso_flags false 0)) (tlv_octets tlv), length-tlv tlv)

abbrev head_with : ℕ → ℕ → ℕ → DsoHead
head_with id kind size = record { id = id; flags = dso_flags false 0; zero_counts = true; tlvs_good = true; primary = Some (kind, size) }

abbrev data_by : Result (List Tlv) DsoFault → List ℕ
data_by read = elim read as (λ _. List ℕ) [ Err fault ↦ [] | Ok tlvs ↦ data_of_first tlvs ]

record HasOne (id : ℕ) (tlv : Tlv) : Type 0 where
  pub id_is : id_of (text id tlv) ≡ id
  pub head : head_of (text id tlv) ≡ Some (head_with id tlv.kind (length tlv.octets))
  pub data_is : primary_data (text id tlv) ≡ tlv.octets

has_one : (id : ℕ) (tlv : Tlv) → id < 2 ^ 16 → HasSize tlv → HasOne id tlv
has_one id tlv small size =
    let is : dso_text id 0x3000 (tlv ∷ []) ≡ text id tlv = ap (λ (l : List ℕ). answer_octets id 0x3000 ++ l) (append-nil (tlv_octets tlv)) in
    let first = written id 0x3000 (tlv ∷ []) small (omega arith) (All-cons HasSize tlv [] size (All-nil HasSize)) in
    let w : Written (text id tlv) id 0x3000 (tlv ∷ []) = subst (λ (t : List ℕ). Written t id 0x3000 (tlv ∷ [])) is first in
    record { id_is = w.id_is; head = w.head; data_is = ap data_by w.tlvs_are }

back : (m : ClientMessage) (tlv : Tlv) → message_octets m ≡ text (id_in m) tlv → tlv.kind ≡ kind_in m → id_in m < 2 ^ 16 → HasSize tlv → length (text (id_in m) tlv) < 2 ^ 16 → SaysSo m tlv.octets → IsReadBack m
back m tlv is kind low size short says =
    let o = has_one (id_in m) tlv low size in
    let octets-are : tlv.octets ≡ primary_data (message_octets m) = sym (ap primary_data is ∙ o.data_is) in
    record {
      small = subst (λ (t : List ℕ). length t < 2 ^ 16) (sym is) short;
      id = ap id_of is ∙ o.id_is;
      head = ap head_of is ∙ o.head ∙ λ i. Some (head_with (id_in m) (kind i) (length (octets-are i)));
      says = subst (SaysSo m) octets-are says;
    }

-- ---- bounds

id_below : (id : ℕ) → is_id id ≡ true → id < 2 ^ 16
id_below id h = let high = leb-true id 65535 (and_parts (nat_le 1 id) (nat_le id 65535) h).1 in omega (arith, high)

below : (n : ℕ) → nat_le n 65535 ≡ true → n < 2 ^ 16
below n h = let high = leb-true n 65535 h in omega (arith, high)

-- a question that is spelled, with few octets
record Spelled (question : Question) : Type 0 where
  pub spells : SpellsQuestionData (question_octets question) question
  pub short : length (question_octets question) ≤ 259

spelled : (question : Question) → is_question question ≡ true → Spelled question
spelled question h =
    let class = and_parts (is_name question.name && nat_le question.kind 65535) (nat_le question.class 65535) h in
    let kind = and_parts (is_name question.name) (nat_le question.kind 65535) class.0 in
    let few : length (octets question.name) ≤ 255 = ((is_name-Decides question.name).0 kind.0).size in
    let size : length (octets question.name ++ to_be_bytes w16 question.kind ++ to_be_bytes w16 question.class) ≤ 259 =
    omega (
      arith,
      few,
      length-append (octets question.name) (to_be_bytes w16 question.kind ++ to_be_bytes w16 question.class),
      length-append (to_be_bytes w16 question.kind) (to_be_bytes w16 question.class),
      length-append (octets question.name ++ to_be_bytes w16 question.kind) (to_be_bytes w16 question.class),
      length-append (octets question.name) (to_be_bytes w16 question.kind),
    ) in
    record {
      spells = record { name = kind.0; kind = below question.kind kind.1; class = below question.class class.1; whole = refl };
      short = size;
    }

-- ---- a record

each_below : (n i : ℕ) → get_or (to_be_bytes w16 n) i 0 < 256
each_below n zero = omega arith
each_below n (suc zero) = omega arith
each_below n (suc (suc i)) = omega arith

-- two octets carry what they say
carried_again : (n : ℕ) → to_be_bytes w16 (in_two_octets n) ≡ to_be_bytes w16 n
carried_again n = be_bytes_2 (to_be_bytes w16 n) (in_two_octets n) (omega arith) (each_below n) refl

carried_below : (n : ℕ) → in_two_octets n < 2 ^ 16
carried_below n = omega arith

abbrev record_octets : Rr → List ℕ
record_octets rr = octets rr.owner ++ to_be_bytes w16 rr.kind ++ to_be_bytes w16 rr.class ++ rr.rdata

carries : (rr : Rr) → is_name rr.owner ≡ true → reconfirm_of (record_octets rr) ≡ Some (as_carried rr)
carries rr name = reconfirm_there (record_octets rr) (as_carried rr) (record {
  owner = name;
  kind = carried_below rr.kind;
  class = carried_below rr.class;
  ttl = refl;
  whole = λ i. octets rr.owner ++ sym (carried_again rr.kind) i ++ sym (carried_again rr.class) i ++ rr.rdata;
})

pub carried : (rr : Rr) → rr.kind < 2 ^ 16 → rr.class < 2 ^ 16 → rr.ttl ≡ 0 → as_carried rr ≡ rr
carried rr kind class ttl =
    let kind-is = from_be_bytes-to_be_bytes_2 rr.kind kind in
    let class-is = from_be_bytes-to_be_bytes_2 rr.class class in
    λ i. record rr { class = class-is i; kind = kind-is i; ttl = sym ttl i }

-- ---- each message

pub read-back : MessagesAreReadBack
read-back (subscribes id question) h =
    let both = and_parts (is_id id) (is_question question) h in
    let s = spelled question both.1 in
    let few : length (question_octets question) ≤ 259 = s.short in
    let tlv : Tlv = record { kind = subscribe_tlv; octets = question_octets question } in
    let size : length (text id tlv) ≡ 16 + length (question_octets question) = size_of_text id tlv in
    back (subscribes id question) tlv refl refl (id_below id both.0) (omega arith, omega (arith, few)) (omega (arith, few, size)) (question_there (question_octets question) question s.spells)
read-back (unsubscribes id) h =
    let tlv : Tlv = record { kind = unsubscribe_tlv; octets = to_be_bytes w16 id } in
    let two : length (to_be_bytes w16 id) ≡ 2 = refl in
    let size : length (text 0 tlv) ≡ 16 + length (to_be_bytes w16 id) = size_of_text 0 tlv in
    back (unsubscribes id) tlv refl refl (omega arith) (omega arith, omega (arith, two)) (omega (arith, two, size)) (two, from_be_bytes-to_be_bytes_2 id (id_below id h))
read-back (reconfirms rr) h =
    let both = and_parts (is_name rr.owner) (nat_le (length (reconfirm_message rr)) 65535) h in
    let tlv : Tlv = record { kind = reconfirm_tlv; octets = record_octets rr } in
    let few : length (text 0 tlv) ≤ 65535 = leb-true (length (reconfirm_message rr)) 65535 both.1 in
    let size : length (text 0 tlv) ≡ 16 + length (record_octets rr) = size_of_text 0 tlv in
    back (reconfirms rr) tlv refl refl (omega arith) (omega arith, omega (arith, few, size)) (omega (arith, few)) (carries rr both.0)
read-back (requests_keepalive id) h =
    let numbers : List ℕ = to_be_bytes w32 default_timers.inactivity ++ to_be_bytes w32 default_timers.keepalive in
    let tlv : Tlv = record { kind = keepalive_tlv; octets = numbers } in
    let eight : length numbers ≡ 8 = refl in
    let size : length (text id tlv) ≡ 16 + length numbers = size_of_text id tlv in
    back (requests_keepalive id) tlv refl refl (id_below id h) (omega arith, omega (arith, eight)) (omega (arith, eight, size)) eight

-- ---- where no message is known

abbrev primary_says : List ℕ → DsoHead → Option (ℕ × ℕ) → Option ClientMessage
primary_says message head None = None
primary_says message head (Some primary) =
    if primary.0 == subscribe_tlv then option_map (λ q. subscribes head.id q) (question_of (primary_data message))
    else if primary.0 == unsubscribe_tlv then Some (unsubscribes (from_be_bytes w16 (primary_data message)))
    else if primary.0 == reconfirm_tlv then option_map (λ rr. reconfirms rr) (reconfirm_of (primary_data message))
    else if primary.0 == keepalive_tlv then Some (requests_keepalive head.id) else None

abbrev head_says : List ℕ → Option DsoHead → Option ClientMessage
head_says message None = None
head_says message (Some head) = primary_says message head head.primary

pub read-again : (m : ClientMessage) → IsTrue (is_within m) → client_message (message_octets m) ≡ Some (as_read m)
read-again m h = let r = read-back m h in ap (head_says (message_octets m)) r.head ∙ by m r.says
  where
    by : (m : ClientMessage) → SaysSo m (primary_data (message_octets m)) → head_says (message_octets m) (Some (head_in m)) ≡ Some (as_read m)
    by (subscribes id question) says = ap (option_map (λ q. subscribes id q)) says
    by (unsubscribes id) says = ap (λ n. Some (unsubscribes n)) says.1
    by (reconfirms rr) says = ap (option_map (λ r. reconfirms r)) says
    by (requests_keepalive id) says = refl

-- ---- what is taken up

-- what a SUBSCRIBE has passed
pub record Passed (good used full : Bool) : Type 0 where
  pub good_is : good ≡ true
  pub unused : used ≡ false
  pub room : full ≡ false

pub passed : {A : Type 0} (good used full : Bool) (value : A) → IsSome (if not good || used || full then None else Some value) → Passed good used full
passed true false false value h = record { good_is = refl; unused = refl; room = refl }
passed true false true value h = absurd (true≢false (sym h))
passed true true full value h = absurd (true≢false (sym h))
passed false used full value h = absurd (true≢false (sym h))

pub allowed : {A : Type 0} (b : Bool) (value : A) → IsSome (if b then Some value else None) → b ≡ true
allowed true value h = refl
allowed false value h = absurd (true≢false (sym h))

pub within-one : (established : Bool) (active : Active) (m : ClientMessage) → IsSome (taken_up established active m) → is_within m ≡ true
within-one established active (subscribes id question) h =
    (passed (is_id id && is_question question) (list_any (λ a. a.0 == id || same_question a.1 question) active) (nat_le max_questions (length active)) (active ++ (id, question) ∷ []) h).good_is
within-one established active (unsubscribes id) h = (and_parts established (is_id id) (allowed (established && is_id id) (filter (λ (a : ℕ × Question). not (a.0 == id)) active) h)).1
within-one established active (reconfirms rr) h =
    let fits = nat_le (length (reconfirm_message rr)) 65535 in
    let all = and_parts (established && is_name rr.owner) fits (allowed (established && is_name rr.owner && fits) active h) in
    and_from (is_name rr.owner) fits (and_parts established (is_name rr.owner) all.0).1 all.1
within-one established active (requests_keepalive id) h = allowed (is_id id) active h

pub taken-up-within : TakenUpIsWithin
taken-up-within established active [] h = tt
taken-up-within established active (m ∷ ms) h = by (taken_up established active m) refl h (λ later. taken-up-within established later ms)
  where
    by : (o : Option Active) → taken_up established active m ≡ o → IsSome (goes_on established ms o) → ((later : Active) → IsSome (all_taken_up established later ms) → AllByRecursion (λ m. IsTrue (is_within m)) ms)
        → AllByRecursion (λ m. IsTrue (is_within m)) (m ∷ ms)
    by None e h others = absurd (true≢false (sym h))
    by (Some later) e h others = (within-one established active m (subst (λ (o : Option Active). IsSome o) (sym e) refl), others later h)

-- ---- the first message

-- no message stands in front of nothing
nothing-first : (input behind : List ℕ) (found : List ℕ × List ℕ) → input ++ behind ≡ [] → first_message input ≡ Some found → ⊥
nothing-first [] behind found none first = absurd (true≢false (sym (ap is_some first)))
nothing-first (x ∷ xs) behind found none first = absurd cc

pub first-comes-up : FirstComesUp
first-comes-up session c wire [] whole rest within up first = absurd (nothing-first session.input (wire ++ c.output) (whole, rest) up first)
first-comes-up session c wire (m ∷ ms) whole rest within up first =
    let both = first-of-frames session.input whole rest (wire ++ c.output) (message_octets m) (flat_map (λ m. frame (message_octets m)) ms) first up (read-back m within.0).small in
    record { first = m; others = ms; are = refl; whole_is = both.0; left = both.1 }
