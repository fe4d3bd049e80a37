-- The reply to a SUBSCRIBE has far fewer octets than a script's turns.
--     accepted-size      at most 2,000,000 octets, in a state that is within the bounds
use Rattle.std.proofs.Common.{◌≡◌, ℕ, ◌+◌, ◌≤◌, false, List, [], ◌∷◌, ◌++◌, length, flat_map, sym, subst, arith, length-append, le_trans}
use Rattle.dnsname.specs.Names.{Labels, octets}
use Rattle.rrset.specs.Header.{answer_octets}
use Rattle.rrset.specs.Records.{matches, rr_of, rr_size}
use Rattle.rrset.specs.RecordSet.{RecordSet, at_name, matching, size_of}
use Rattle.rrset.specs.Rcodes.{noerror}
use Rattle.rrset.specs.declared.record.Key.{Key}
use Rattle.rrset.specs.declared.record.Shown.{Shown}
use Rattle.rrset.specs.declared.record.Question.{Question}
use Rattle.rrset.proofs.Sizes.{size_of-cons, size_of-only}
use Rattle.dsotlv.specs.Messages.{frame, tlv_octets, dso_flags}
use Rattle.dsotlv.specs.TlvKinds.{push_tlv}
use Rattle.dsotlv.specs.Notices.{push_record, notice_octets}
use Rattle.dsotlv.specs.declared.message.Notice.{Notice}
use Rattle.dsotlv.specs.declared.message.Notice.TheVariants.{Add}
use Rattle.coalesce.specs.Net.{additions, push_frame}
use Rattle.history.specs.States.{State, records}
use Rattle.dsotlv.specs.Answers.{answer_to}
use Rattle.replay.proofs.serving.Answering.{notices_for}
use Rattle.replay.proofs.serving.LastAnswering.{with_push}
use Rattle.replay.proofs.turns.ZoneSizes.{IsBounded, records-size}

push_record-size : (owner : Labels) (kind class ttl : ℕ) (rdata : List ℕ) → length (push_record owner kind class ttl rdata) ≡ length (octets owner) + 10 + length rdata
push_record-size owner kind class ttl rdata = simp length-append (omega arith)

addition-size : (key : Key) (shown : Shown) → length (notice_octets (Add (rr_of key shown))) ≡ rr_size (rr_of key shown)
addition-size key shown = push_record-size shown.owner key.kind key.class shown.ttl shown.rdata

-- the octets of a set's additions are its size
pub additions-size : (set : RecordSet) → length (flat_map notice_octets (additions set)) ≡ size_of set
additions-size [] = omega arith
additions-size (e ∷ es) =
    let one = addition-size e.0 e.1 in
    let rest = additions-size es in
    let whole = size_of-cons e es in
    let joined = length-append (notice_octets (Add (rr_of e.0 e.1))) (flat_map notice_octets (additions es)) in
    omega (arith, one, rest, whole, joined)

-- a PUSH of the notices
push-size : (notices : List Notice) (n : ℕ) → length (flat_map notice_octets notices) ≤ n → length (push_frame notices) ≤ 18 + n
push-size [] n few = omega arith
push-size (m ∷ ms) n few = by (flat_map notice_octets (m ∷ ms)) few
  where
    by : (o : List ℕ) → length o ≤ n → length (frame (answer_octets 0 (dso_flags false 0) ++ tlv_octets (record { kind = push_tlv; octets = o }))) ≤ 18 + n
    by o few = omega arith

notices-size : (state : State) (question : Question) → IsBounded state → length (push_frame (notices_for state question)) ≤ 18 + 1920000
notices-size state question b =
    let there = at_name question.name (records state) in
    push-size (notices_for state question) 1920000
    (subst (λ n. n ≤ 1920000) (sym (additions-size (matching question there))) (le_trans (size_of-only (matches question) there) (records-size state question.name b)))

pub accepted-size : (state : State) (id : ℕ) (question : Question) → IsBounded state → length (with_push id (notices_for state question)) ≤ 2000000
accepted-size state id question b =
    subst (λ n. n ≤ 2000000) (sym (length-append (frame (answer_to id noerror)) (push_frame (notices_for state question))))
    (sum (length (push_frame (notices_for state question))) (notices-size state question b))
  where
    sum : (n : ℕ) → n ≤ 18 + 1920000 → 14 + n ≤ 2000000
    sum n h = omega arith
