-- The octets of a message are those of the stream that it waits in, and its data are among its own.
--     rest_is, rest_octets, first_octets      what follows the first whole message; the message
--     data-octets      the data of its first TLV
--     question-named      the question in its data has a name
use Rattle.std.proofs.Common.{◌≡◌, ℕ, ◌+◌, ◌-◌, ◌<◌, zero, suc, Bool, true, false, cond, List, [], ◌∷◌, length, drop, Option, Some, None, Result, Ok, Err, sym, ap, subst}
use Rattle.std.specs.Prelude.{nat_lt, slice_range, ◌==◌, IsTrue}
use Rattle.std.proofs.lemmas.List.Elements.{All-nil, All-take, All-drop}
use Rattle.push_base.specs.Cases.{◌>>=◌}
use Rattle.dnsname.specs.Names.{is_name}
use Rattle.rrset.specs.Header.{two_octets}
use Rattle.rrset.specs.declared.record.Question.{Question}
use Rattle.dsotlv.specs.Messages.{first_message, tlv_end, tlvs_from, data_of_first, primary_data}
use Rattle.dsotlv.specs.Notices.{question_of}
use Rattle.dsotlv.specs.declared.message.DsoFault.{DsoFault}
use Rattle.dsotlv.specs.declared.message.DsoFault.TheVariants.{Tlv as TlvAt}
use Rattle.dsotlv.specs.declared.message.Tlv.{Tlv}
use Rattle.dsotlv.proofs.QuestionLaws.{question_spelled}
use Rattle.dsotlv.specs.Laws.{AreOctets}

slice-octets : (octets : List ℕ) (from to : ℕ) → AreOctets octets → AreOctets (slice_range octets from to)
slice-octets octets from to all = All-take (λ o. o < 256) (to - from) (drop from octets) (All-drop (λ o. o < 256) from octets all)

-- ---- the first whole message

pub rest_is : (stream : List ℕ) (found : List ℕ × List ℕ) → first_message stream ≡ Some found → found.1 ≡ drop (2 + two_octets stream 0) stream
rest_is stream found is = by (nat_lt (length stream) (2 + two_octets stream 0)) is
  where
    whole : List ℕ × List ℕ
    whole = (slice_range stream 2 (2 + two_octets stream 0), drop (2 + two_octets stream 0) stream)

    by : (b : Bool) → cond b None (Some whole) ≡ Some found → found.1 ≡ whole.1
    by true e = absurd cc
    by false e = let same : whole ≡ found = cc in ap (λ x. x.1) (sym same)

pub first_octets : (stream : List ℕ) (found : List ℕ × List ℕ) → first_message stream ≡ Some found → AreOctets stream → AreOctets found.0
first_octets stream found is octets = by (nat_lt (length stream) (2 + n)) is
  where
    n : ℕ
    n = two_octets stream 0

    by : (b : Bool) → cond {A = Option (List ℕ × List ℕ)} b None (Some (slice_range stream 2 (2 + n), drop (2 + n) stream)) ≡ Some found → AreOctets found.0
    by true e = absurd cc
    by false e = let same : (slice_range stream 2 (2 + n), drop (2 + n) stream) ≡ found = cc in subst AreOctets (ap (λ x. x.0) same) (slice-octets stream 2 (2 + n) octets)

pub rest_octets : (stream : List ℕ) (found : List ℕ × List ℕ) → first_message stream ≡ Some found → AreOctets stream → AreOctets found.1
rest_octets stream found is octets = subst AreOctets (sym (rest_is stream found is)) (All-drop (λ o. o < 256) (2 + two_octets stream 0) stream octets)

-- ---- its data

none : AreOctets []
none = All-nil (λ o. o < 256)

abbrev data_in : Result (List Tlv) DsoFault → List ℕ
data_in r = elim r as (λ _. List ℕ) [ Err fault ↦ [] | Ok tlvs ↦ data_of_first tlvs ]

behind-octets : (message : List ℕ) (at end : ℕ) (rest : Result (List Tlv) DsoFault) → AreOctets message
    → AreOctets (data_in (rest >>= λ others. Ok ((record { kind = two_octets message at; octets = slice_range message (at + 4) end }) ∷ others)))
behind-octets message at end (Err fault) octets = none
behind-octets message at end (Ok others) octets = slice-octets message (at + 4) end octets

tlvs-octets : (more : ℕ) (message : List ℕ) (at : ℕ) → AreOctets message → AreOctets (data_in (tlvs_from more message at))
tlvs-octets zero message at octets = by (at == length message)
  where
    by : (b : Bool) → AreOctets (data_in (cond b (Ok []) (Err (TlvAt at))))
    by true = none
    by false = none
tlvs-octets (suc more) message at octets = by (at == length message) (tlv_end message at)
  where
    by : (a : Bool) (end : Option ℕ) → AreOctets (data_in (elim a as (λ _. Result (List Tlv) DsoFault) [
      | true ↦ Ok []
      | false ↦ elim end as (λ _. Result (List Tlv) DsoFault) [
        | None ↦ Err (TlvAt at)
        | Some next ↦ tlvs_from more message next >>= λ others. Ok ((record { kind = two_octets message at; octets = slice_range message (at + 4) next }) ∷ others)
      ]
    ]))
    by true end = none
    by false None = none
    by false (Some end) = behind-octets message at end (tlvs_from more message end) octets

pub data-octets : (message : List ℕ) → AreOctets message → AreOctets (primary_data message)
data-octets message octets = tlvs-octets (length message) message 12 octets

pub question-named : (message : List ℕ) (question : Question) → AreOctets message → question_of (primary_data message) ≡ Some question → IsTrue (is_name question.name)
question-named message question octets read = (question_spelled (primary_data message) question (data-octets message octets) read).name
