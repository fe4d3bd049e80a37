-- The fault that is read is that of the text, and it is read.
use Rattle.std.proofs.Common.{◌≡◌, ℕ, zero, suc, ◌+◌, ◌<◌, ◌≤◌, Bool, true, false, ltb, eqb, Option, Some, None, inl, inr, List, [], ◌∷◌, ◌++◌, length, drop, Result, Ok, Err, refl, sym, ap, subst, ◌∙◌, append_assoc, arith}
use Rattle.std.specs.Prelude.{◌≢◌, flat_map}
use Rattle.std.specs.List.{All}
use Rattle.std.proofs.lemmas.Bool.{cases_lt, le-ltb, lt-ltb, ltb-true, ltb-false, eq-eqb, ne_eqb, eqb-false, eqb-true}
use Rattle.std.proofs.lemmas.List.{length-append, length-drop}
use Rattle.std.proofs.lemmas.List.Elements.{All-nil, All-cons, All-head, All-tail}
use Rattle.rrset.specs.Header.{id_of, flags_of, opcode_of}
use Rattle.dsotlv.specs.declared.message.Tlv.{Tlv}
use Rattle.dsotlv.specs.declared.message.DsoMessage.{DsoMessage}
use Rattle.dsotlv.specs.declared.message.DsoFault.{DsoFault}
use Rattle.dsotlv.specs.declared.message.DsoFault.TheVariants.{Short, Opcode, Counts, Tlv as TlvAt, NoMemory}
use Rattle.dsotlv.specs.Messages.{tlv_octets, tlvs_from, tlvs_of, dso_opcode, has_zero_counts, dso_of, tlv_end}
use Rattle.dsotlv.specs.Laws.{AreOctets, HasSize}
use Rattle.dsotlv.specs.Faults.{HasDsoOpcode, HasDsoHeader, IsCutFrom, IsDsoFault}
use Rattle.dsotlv.proofs.Results.{not_done}
use Rattle.dsotlv.proofs.Numbers.{room}
use Rattle.dsotlv.proofs.Sizes.{length-tlv}
use Rattle.dsotlv.proofs.Walks.{IsWhole, tlv_at, behind, whole-end, end-whole, tlvs-end, tlvs-more, tlvs-fault}
use Rattle.dsotlv.proofs.TlvLaws.{tlv_stands, tlv_found}
use Rattle.dsotlv.proofs.DsoLaws.{by_tests, same_tests}

abbrev failed : {A : Type 0} → DsoFault → Result A DsoFault
failed fault = Err fault

same_failed : {A : Type 0} (f g : DsoFault) → failed {A = A} f ≡ failed g → f ≡ g
same_failed f g e = cc

-- ---- a TLV that isn't whole

not_whole : (text : List ℕ) (at end : ℕ) → tlv_end text at ≡ None → IsWhole text at end → ⊥
not_whole text at end none whole = absurd (nothing_is (sym (end-whole text at end whole) ∙ none))
  where
    nothing_is : (Some end ≡ None) → ⊥
    nothing_is e = cc

none_begins : (text : List ℕ) (at : ℕ) → at ≤ length text → tlv_end text at ≡ None → (tlv : Tlv) (rest : List ℕ) → HasSize tlv → drop at text ≢ tlv_octets tlv ++ rest
none_begins text at within none tlv rest sized e = not_whole text at (at + 4 + length tlv.octets) none (tlv_stands text at tlv rest sized within e).whole

none_ends : (text : List ℕ) (at : ℕ) → AreOctets text → ((tlv : Tlv) (rest : List ℕ) → HasSize tlv → drop at text ≢ tlv_octets tlv ++ rest) → tlv_end text at ≡ None
none_ends text at below none = by_end (tlv_end text at) refl
  where
    by_end : (end : Option ℕ) → tlv_end text at ≡ end → tlv_end text at ≡ None
    by_end None e = e
    by_end (Some end) e = let found = tlv_found text at end below (whole-end text at end e) in absurd (none (tlv_at text at end) (drop end text) found.1 found.0)

-- ---- what is read is the fault of the text

-- where the TLVs from a place are cut off
record CutThere (text : List ℕ) (at : ℕ) (fault : DsoFault) : Type 0 where
  pub place : ℕ
  pub fault_is : TlvAt place ≡ fault
  pub cut : IsCutFrom text at place

cut_here : (text : List ℕ) (at : ℕ) → at < length text → tlv_end text at ≡ None → IsCutFrom text at at
cut_here text at before none = record {
  tlvs = [];
  sized = All-nil HasSize;
  whole = refl;
  place_is = omega arith;
  before = before;
  none = none_begins text at (omega (arith, before)) none;
}

cut_behind : (text : List ℕ) (at end place : ℕ) → AreOctets text → IsWhole text at end → IsCutFrom text end place → IsCutFrom text at place
cut_behind text at end place below whole cut =
    let first = tlv_found text at end below whole in
    let size = room text at (tlv_octets (tlv_at text at end)) (drop end text) first.0 in
    record {
      tlvs = tlv_at text at end ∷ cut.tlvs;
      sized = All-cons HasSize (tlv_at text at end) cut.tlvs first.1 cut.sized;
      whole = first.0 ∙ ap (λ (xs : List ℕ). tlv_octets (tlv_at text at end) ++ xs) cut.whole ∙ sym (append_assoc (tlv_octets (tlv_at text at end)) (flat_map tlv_octets cut.tlvs) (drop place text));
      place_is = omega (arith, cut.place_is, size, whole.end_is, whole.fits, length-drop end text, length-append (tlv_octets (tlv_at text at end)) (flat_map tlv_octets cut.tlvs));
      before = cut.before;
      none = cut.none;
    }

behind_failed : (tlv : Tlv) (r : Result (List Tlv) DsoFault) (fault : DsoFault) → behind (tlv ∷ []) r ≡ failed fault → r ≡ failed fault
behind_failed tlv (Ok others) fault e = absurd (not_done fault (tlv ∷ others) (sym e))
behind_failed tlv (Err f) fault e = ap (λ (g : DsoFault). failed g) (same_failed {A = List Tlv} f fault e)

abbrev FindsCuts : List ℕ → ℕ → Type 0
FindsCuts text more = (at : ℕ) (fault : DsoFault) → at ≤ length text → length text ≤ at + more → tlvs_from more text at ≡ failed fault → CutThere text at fault

no_fault_at_end : (more : ℕ) (text : List ℕ) (at : ℕ) (fault : DsoFault) → at ≡ length text → tlvs_from more text at ≡ failed fault → ⊥
no_fault_at_end more text at fault ends e = let none : List Tlv = [] in not_done fault none (sym e ∙ tlvs-end more text at ends)

one_cut : (more : ℕ) (text : List ℕ) (at : ℕ) (fault : DsoFault) → FindsCuts text more → AreOctets text → at < length text → length text ≤ at + suc more → tlvs_from (suc more) text at ≡ failed fault
    → (end : Option ℕ) → tlv_end text at ≡ end → CutThere text at fault
one_cut more text at fault finds below before enough e None none = record {
  place = at;
  fault_is = same_failed {A = List Tlv} (TlvAt at) fault (sym (tlvs-fault (suc more) text at before none) ∙ e);
  cut = cut_here text at before none;
}
one_cut more text at fault finds below before enough e (Some end) some =
    let whole = whole-end text at end some in
    let others = behind_failed (tlv_at text at end) (tlvs_from more text end) fault (sym (tlvs-more more text at end whole) ∙ e) in
    let there = finds end fault whole.fits (omega (arith, enough, whole.end_is)) others in
    record { place = there.place; fault_is = there.fault_is; cut = cut_behind text at end there.place below whole there.cut }

cut_found : (more : ℕ) (text : List ℕ) → AreOctets text → FindsCuts text more
cut_found zero text below at fault within enough e = absurd (no_fault_at_end zero text at fault (omega (arith, within, enough)) e)
cut_found (suc more) text below at fault within enough e = elim (cases_lt at (length text)) [
  | inl before ↦ one_cut more text at fault (cut_found more text below) below before enough e (tlv_end text at) refl
  | inr past ↦ absurd (no_fault_at_end (suc more) text at fault (omega (arith, within, past)) e)
]

pub fault_found : (text : List ℕ) (fault : DsoFault) → AreOctets text → dso_of text ≡ Err fault → IsDsoFault text fault
fault_found text fault below e = on_tests (ltb (length text) 12) (eqb (opcode_of (flags_of text)) dso_opcode) (has_zero_counts text) (tlvs_of text) refl refl refl refl (sym (same_tests text) ∙ e)
  where
    on_tests : (short dso counts : Bool) (read : Result (List Tlv) DsoFault) → ltb (length text) 12 ≡ short → eqb (opcode_of (flags_of text)) dso_opcode ≡ dso → has_zero_counts text ≡ counts → tlvs_of text ≡ read
        → by_tests short dso counts read (id_of text) (flags_of text) ≡ failed fault → IsDsoFault text fault
    on_tests true dso counts read s d c r e = subst (IsDsoFault text) (same_failed {A = DsoMessage} Short fault e) (ltb-true (length text) 12 s)
    on_tests false false counts read s d c r e = subst (IsDsoFault text) (same_failed {A = DsoMessage} Opcode fault e) (ltb-false (length text) 12 s, eqb-false (opcode_of (flags_of text)) dso_opcode d)
    on_tests false true false read s d c r e =
        let first : HasDsoOpcode text = record { long = ltb-false (length text) 12 s; opcode = eqb-true (opcode_of (flags_of text)) dso_opcode d } in
        subst (IsDsoFault text) (same_failed {A = DsoMessage} Counts fault e) (first, c)
    on_tests false true true (Ok tlvs) s d c r e = absurd cc
    on_tests false true true (Err f) s d c r e =
        let long = ltb-false (length text) 12 s in
        let first : HasDsoOpcode text = record { long = long; opcode = eqb-true (opcode_of (flags_of text)) dso_opcode d } in
        let header : HasDsoHeader text = record { first = first; counts = c } in
        let there = cut_found (length text) text below 12 f long (omega arith) r in
        subst (IsDsoFault text) (there.fault_is ∙ same_failed {A = DsoMessage} f fault e) (header, there.cut)

-- ---- the fault of a text is read

cut_read : (more : ℕ) (text : List ℕ) (tlvs : List Tlv) (at place : ℕ) → All HasSize tlvs → at ≤ length text → length text ≤ at + more → drop at text ≡ flat_map tlv_octets tlvs ++ drop place text
    → place ≡ at + length (flat_map tlv_octets tlvs) → place < length text → tlv_end text place ≡ None → tlvs_from more text at ≡ Err (TlvAt place)
cut_read more text [] at place sized within enough e is before none =
    let here : place ≡ at = omega (arith, is) in
    subst (λ (n : ℕ). tlvs_from more text n ≡ Err (TlvAt place)) here (tlvs-fault more text place before none)
cut_read zero text (tlv ∷ tlvs) at place sized within enough e is before none = absurd (omega (arith, enough, is, before))
cut_read (suc more) text (tlv ∷ tlvs) at place sized within enough e is before none =
    let others = flat_map tlv_octets tlvs in
    let end = at + 4 + length tlv.octets in
    let stands = tlv_stands text at tlv (others ++ drop place text) (All-head HasSize tlv tlvs sized) within (e ∙ append_assoc (tlv_octets tlv) others (drop place text)) in
    let rest = cut_read more text tlvs end place (All-tail HasSize tlv tlvs sized) stands.whole.fits (omega (arith, enough)) stands.next
    (omega (arith, is, length-append (tlv_octets tlv) others, length-tlv tlv)) before none in
    tlvs-more more text at end stands.whole ∙ ap (behind (tlv_at text at end ∷ [])) rest

pub fault_read : (text : List ℕ) (fault : DsoFault) → AreOctets text → IsDsoFault text fault → dso_of text ≡ Err fault
fault_read text Short below short = same_tests text ∙ (rw (lt-ltb (length text) 12 short) refl)
fault_read text Opcode below (long, other) = same_tests text ∙ (rw (le-ltb (length text) 12 long, ne_eqb (opcode_of (flags_of text)) dso_opcode other) refl)
fault_read text Counts below (first, counts) = same_tests text ∙ (rw (le-ltb (length text) 12 first.long, eq-eqb (opcode_of (flags_of text)) dso_opcode first.opcode, counts) refl)
fault_read text (TlvAt place) below (header, cut) =
    let first = header.first in
    let read : tlvs_of text ≡ Err (TlvAt place) = cut_read (length text) text cut.tlvs 12 place cut.sized first.long (omega arith) cut.whole cut.place_is cut.before (none_ends text place below cut.none) in
    same_tests text ∙ (rw (le-ltb (length text) 12 first.long, eq-eqb (opcode_of (flags_of text)) dso_opcode first.opcode, header.counts, read) refl)
fault_read text NoMemory below never = absurd never
