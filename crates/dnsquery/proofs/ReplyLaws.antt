-- What holds of every reply.
use Rattle.std.proofs.Common.{◌≡◌, ℕ, zero, suc, ◌+◌, ◌<◌, ◌≤◌, ◌%◌, ◌^◌, Bool, true, false, cond, min, not, ◌&&◌, List, [], ◌∷◌, ◌++◌, length, Result, Ok, Err, refl, sym, subst, arith}
use Rattle.std.specs.Prelude.{IfOk, bit_and, ◌==◌}
use Rattle.std.specs.Int.{bit_at}
use Rattle.std.proofs.lemmas.Bool.{eqb-true, le-leb}
use Rattle.std.proofs.lemmas.Nat.{and_le_r, from_be_bytes-to_be_bytes_2}
use Rattle.std.proofs.lemmas.Nat.Bits.{bit_at_and, bit_at_lowest}
use Rattle.push_base.specs.Cases.{chosen}
use Rattle.dnsname.specs.Names.{Labels}
use Rattle.rrset.specs.Kinds.{cname_kind, in_class}
use Rattle.rrset.specs.Rcodes.{noerror, nxdomain, notimp, refused}
use Rattle.rrset.specs.Header.{id_of, flags_of, header_octets, is_response, answer_octets}
use Rattle.rrset.specs.RecordSet.{RecordSet, at_name}
use Rattle.rrset.specs.declared.header.TheConstants as header
use Rattle.rrset.specs.declared.record.Rr.{Rr}
use Rattle.rrset.specs.declared.record.Question.{Question}
use Rattle.dnswire.specs.Writing.{message_octets}
use Rattle.dnsquery.specs.declared.replying.TheConstants as constants
use Rattle.dnsquery.specs.declared.query.Query.{Query}
use Rattle.dnsquery.specs.declared.query.QueryFault.{QueryFault}
use Rattle.dnsquery.specs.Queries.{query_of}
use Rattle.dnsquery.specs.Replies.{Known, Answered, answers_query, at_step, ends_here, is_answerable, is_below, is_left_out, is_unserved, malformed_flags, max_reply, max_targets, own_flags, plain_flags, refuses_query, reply_to_query, rrs_of, target_of, walk, walk_from}
use Rattle.dnsquery.specs.Laws.{IsAnswer, RepliesAreAnswers, RepliesFit}
use Rattle.dnsquery.proofs.ReplySizes.{message-size, query-fits}
use Rattle.dnsquery.proofs.ShortNames.{AsksShort, asked-short}
use Rattle.dnsquery.proofs.Walking.{part_for, step-is, step_by}

-- ---- sizes

small-enough : (size : ℕ) → size ≡ 12 → size ≤ max_reply
small-enough size is = omega (arith, is)

pub replies_fit : RepliesFit
replies_fit known message can = by (query_of message) (asked-short message)
  where
    by : (read : Result Query QueryFault) → IfOk read AsksShort
        → length (elim read as (λ _. List ℕ) [ Err fault ↦ answer_octets (id_of message) (malformed_flags (flags_of message)) | Ok query ↦ reply_to_query known query ]) ≤ max_reply
    by (Err fault) short = small-enough (length (answer_octets (id_of message) (malformed_flags (flags_of message)))) refl
    by (Ok query) short = query-fits known query can short

-- ---- flags

-- from 0x8000 up to those of an answer in a DSO session, or odd
abbrev IsAnswerFlags : ℕ → Type 0
IsAnswerFlags flags = (header.RESPONSE ≤ flags) × (flags < 2 ^ 16) × ((flags == 0xb000) ≡ false)

unequal : (flags : ℕ) → flags < 0xb000 → (flags == 0xb000) ≡ false
unequal flags small = by (flags == 0xb000) refl
  where
    by : (b : Bool) → (flags == 0xb000) ≡ b → (flags == 0xb000) ≡ false
    by true is = absurd (omega (arith, small, eqb-true flags 0xb000 is))
    by false is = is

low-flags : (base kept rcode : ℕ) → 0x8000 ≤ base → base ≤ 0x8400 → kept ≤ 0x100 → rcode ≤ 5 → IsAnswerFlags (base + kept + rcode)
low-flags base kept rcode least most kept-small rcode-small = (omega (arith, least), omega (arith, most, kept-small, rcode-small), unequal (base + kept + rcode) (omega (arith, most, kept-small, rcode-small)))

plain-is : (flags rcode : ℕ) → rcode ≤ 5 → IsAnswerFlags (plain_flags flags rcode)
plain-is flags rcode small = low-flags header.RESPONSE (bit_and flags constants.RECURSION_DESIRED) rcode (omega arith) (omega arith) (and_le_r flags constants.RECURSION_DESIRED) small

own-is : (flags rcode : ℕ) → rcode ≤ 5 → IsAnswerFlags (own_flags flags rcode)
own-is flags rcode small = low-flags (header.RESPONSE + constants.AUTHORITATIVE) (bit_and flags constants.RECURSION_DESIRED) rcode (omega arith) (omega arith) (and_le_r flags constants.RECURSION_DESIRED) small

even-by : (n low kept mask : ℕ) → low ≡ min kept mask → low ≡ n % 2 → mask ≡ 0 → n % 2 ≡ 0
even-by n low kept mask a b c = omega (arith, a, b, c)

-- OPCODE and RD are no lowest bit
kept-even : (flags : ℕ) → bit_and flags header.KEPT_FLAGS % 2 ≡ 0
kept-even flags =
    even-by (bit_and flags header.KEPT_FLAGS) (bit_at (bit_and flags header.KEPT_FLAGS) 0) (bit_at flags 0) (bit_at header.KEPT_FLAGS 0) (bit_at_and flags header.KEPT_FLAGS 0) (bit_at_lowest (bit_and flags header.KEPT_FLAGS)) refl

odd-flags : (kept : ℕ) → kept ≤ 0x7900 → kept % 2 ≡ 0 → IsAnswerFlags (0x8000 + kept + 1)
odd-flags kept small even = (omega arith, omega (arith, small), by (0x8000 + kept + 1 == 0xb000) refl)
  where
    by : (b : Bool) → (0x8000 + kept + 1 == 0xb000) ≡ b → (0x8000 + kept + 1 == 0xb000) ≡ false
    by true is = absurd (omega (arith, even, eqb-true (0x8000 + kept + 1) 0xb000 is))
    by false is = is

malformed-is : (flags : ℕ) → IsAnswerFlags (malformed_flags flags)
malformed-is flags = odd-flags (bit_and flags header.KEPT_FLAGS) (and_le_r flags header.KEPT_FLAGS) (kept-even flags)

-- ---- replies

answer-by : (flags : ℕ) (reply : List ℕ) → header_octets ≤ length reply → flags_of reply ≡ flags → IsAnswerFlags flags → IsAnswer reply
answer-by flags reply whole is (least, most, other) = record {
  whole = whole;
  response = subst (λ n. is_response n ≡ true) (sym is) (le-leb header.RESPONSE flags least);
  no_session = subst (λ n. (n == 0xb000) ≡ false) (sym is) other;
}

whole-by : (size name rest : ℕ) → size ≡ 12 + name + rest → header_octets ≤ size
whole-by size name rest is = omega (arith, is)

message-is : (id flags : ℕ) (question : Question) (rrs : List Rr) → IsAnswerFlags flags → IsAnswer (message_octets id flags question rrs)
message-is id flags question rrs is = answer-by flags (message_octets id flags question rrs) (whole-by _ _ _ (message-size id flags question rrs)) (from_be_bytes-to_be_bytes_2 flags is.1) is

malformed-answers : (id flags : ℕ) → IsAnswerFlags flags → IsAnswer (answer_octets id flags)
malformed-answers id flags is = answer-by flags (answer_octets id flags) (whole-by (length (answer_octets id flags)) 0 0 refl) (from_be_bytes-to_be_bytes_2 flags is.1) is

least-rcode : noerror ≤ nxdomain
least-rcode = omega arith

most-rcode : nxdomain ≤ nxdomain
most-rcode = omega arith

step-rcode : (known : Known) (question : Question) (name : Labels) (goes_on : Labels → Answered) → ((target : Labels) → (goes_on target).rcode ≤ nxdomain) → (at_step known question name goes_on).rcode ≤ nxdomain
step-rcode known question name goes_on goes =
    subst (λ (a : Answered). a.rcode ≤ nxdomain) (sym (step-is known question name goes_on))
    (by (part_for question.kind question.class (at_name name known.records)) (part_for cname_kind in_class (at_name name known.records)))
  where
    nothing : (b : Bool) → cond b nxdomain noerror ≤ nxdomain
    nothing true = most-rcode
    nothing false = least-rcode

    by : (found aliases : RecordSet) → (step_by known name goes_on found aliases).rcode ≤ nxdomain
    by (e ∷ es) aliases = least-rcode
    by [] [] = nothing (known.has_home name && not (is_below name known.records))
    by [] (alias ∷ others) = goes (target_of alias)

walk-rcode : (known : Known) (question : Question) (n : ℕ) (visited : List Labels) (name : Labels) → (walk_from n known question visited name).rcode ≤ nxdomain
walk-rcode known question zero visited name = step-rcode known question name ends_here (λ target. least-rcode)
walk-rcode known question (suc n) visited name =
    step-rcode known question name (λ target. cond (is_left_out known (visited ++ name ∷ []) target) (ends_here target) (walk_from n known question (visited ++ name ∷ []) target))
    (λ target. by target (is_left_out known (visited ++ name ∷ []) target) (walk-rcode known question n (visited ++ name ∷ []) target))
  where
    by : (target : Labels) (gone : Bool) → (walk_from n known question (visited ++ name ∷ []) target).rcode ≤ nxdomain → (cond gone (ends_here target) (walk_from n known question (visited ++ name ∷ []) target)).rcode ≤ nxdomain
    by target true h = least-rcode
    by target false h = h

query-answers : (known : Known) (query : Query) → IsAnswer (reply_to_query known query)
query-answers known query =
    by (not (is_answerable known query.question)) (is_unserved query.question.kind) (refuses_query query refused) (refuses_query query notimp) (answers_query query answered)
    (message-is query.id (plain_flags query.flags refused) query.question [] (plain-is query.flags refused (omega arith))) (message-is query.id (plain_flags query.flags notimp) query.question [] (plain-is query.flags notimp (omega arith)))
    (message-is query.id (own_flags query.flags answered.rcode) query.question (rrs_of answered.answers) (own-is query.flags answered.rcode (omega (arith, small))))
  where
    answered : Answered
    answered = walk known query.question

    small : (walk known query.question).rcode ≤ nxdomain
    small = walk-rcode known query.question max_targets [] query.question.name

    by : (a b : Bool) (x y z : List ℕ) → IsAnswer x → IsAnswer y → IsAnswer z → IsAnswer (chosen ((a, x) ∷ (b, y) ∷ []) z)
    by true b x y z p q r = p
    by false true x y z p q r = q
    by false false x y z p q r = r

pub replies_are_answers : RepliesAreAnswers
replies_are_answers known message = by (query_of message)
  where
    by : (read : Result Query QueryFault) → IsAnswer (elim read as (λ _. List ℕ) [ Err fault ↦ answer_octets (id_of message) (malformed_flags (flags_of message)) | Ok query ↦ reply_to_query known query ])
    by (Err fault) = malformed-answers (id_of message) (malformed_flags (flags_of message)) (malformed-is (flags_of message))
    by (Ok query) = query-answers known query
