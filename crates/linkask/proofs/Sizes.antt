-- What is sent for a question has room in a datagram (RFC 6762, 17).
--     room-left      behind so many octets, with the records that fit
--     query-small, made-small      the question and the answers that are known
use Rattle.std.proofs.Common.{◌≡◌, ℕ, ◌+◌, ◌≤◌, Bool, true, false, List, [], ◌∷◌, ◌++◌, length, refl, sym, ap, subst, ◌∙◌, arith}
use Rattle.std.specs.Prelude.{flat_map, nat_le, if◌then◌else◌}
use Rattle.std.specs.Int.{w16, to_be_bytes}
use Rattle.std.proofs.lemmas.Bool.Decides.{nat_tests}
use Rattle.std.proofs.lemmas.List.{length-append}
use Rattle.push_base.specs.Limits.{max_datagram}
use Rattle.dnsname.specs.Names.{IsName, octets}
use Rattle.rrset.specs.Header.{header_octets}
use Rattle.rrset.specs.Records.{rr_size}
use Rattle.rrset.specs.declared.record.Rr.{Rr}
use Rattle.rrset.specs.declared.record.Question.{Question}
use Rattle.dnswire.specs.Writing.{message_header, query_answers, query_octets, question_octets, record_octets, with_room}
use Rattle.dnswire.proofs.RecordSizes.{record-size}

one-room : (size : ℕ) (rr : Rr) (more less : List Rr) (b : Bool) → nat_le (size + rr_size rr) max_datagram ≡ b
    → (size + rr_size rr ≤ max_datagram → size + rr_size rr + length (flat_map record_octets more) ≤ max_datagram)
    → size + length (flat_map record_octets less) ≤ max_datagram
    → size + length (flat_map record_octets (if b then rr ∷ more else less)) ≤ max_datagram
one-room size rr more less true t taken left =
    let fits : size + rr_size rr ≤ max_datagram = grind (arith, nat_tests) in
    omega (arith, taken fits, record-size rr, length-append (record_octets rr) (flat_map record_octets more))
one-room size rr more less false t taken left = left

pub room-left : (size : ℕ) (rrs : List Rr) → size ≤ max_datagram → size + length (flat_map record_octets (with_room size rrs)) ≤ max_datagram
room-left size [] fits = omega (arith, fits)
room-left size (rr ∷ rrs) fits =
    one-room size rr (with_room (size + rr_size rr) rrs) (with_room size rrs) (nat_le (size + rr_size rr) max_datagram) refl (room-left (size + rr_size rr) rrs) (room-left size rrs fits)

question-size : (question : Question) → length (question_octets question) ≡ length (octets question.name) + 4
question-size question =
    length-append (octets question.name ++ to_be_bytes w16 question.kind) (to_be_bytes w16 question.class)
    ∙ ap (λ n. n + 2) (length-append (octets question.name) (to_be_bytes w16 question.kind))
    ∙ omega arith

question-fits : (question : Question) → IsName question.name → header_octets + length (question_octets question) ≤ max_datagram
question-fits question is = omega (arith, is.size, question-size question)

pub query-small : (question : Question) (known : List Rr) → IsName question.name → length (query_octets question known) ≤ max_datagram
query-small question known is =
    let answers = query_answers question known in
    let header = message_header 0 0 1 (length answers) 0 in
    omega (
      arith,
      room-left (header_octets + length (question_octets question)) known (question-fits question is),
      length-append (header ++ question_octets question) (flat_map record_octets answers),
      length-append header (question_octets question),
    )

-- behind nothing
pub made-small : (question : Question) (known : List Rr) (before made : List ℕ) → IsName question.name → before ≡ [] → made ≡ before ++ query_octets question known → length made ≤ max_datagram
made-small question known before made is none same =
    let alone : made ≡ query_octets question known = same ∙ ap (λ (l : List ℕ). l ++ query_octets question known) none in
    subst (λ (l : List ℕ). length l ≤ max_datagram) (sym alone) (query-small question known is)
