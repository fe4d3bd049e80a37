-- TLVs that stand in a text are what is read, and what is read stands there.
use Rattle.std.proofs.Common.{◌≡◌, ℕ, zero, suc, ◌+◌, ◌<◌, ◌≤◌, ◌^◌, Option, Some, None, inl, inr, List, [], ◌∷◌, ◌++◌, length, drop, Result, Ok, Err, refl, sym, ap, subst, ◌∙◌, arith}
use Rattle.std.specs.Prelude.{flat_map, slice_range}
use Rattle.std.specs.Int.{w16, to_be_bytes}
use Rattle.std.specs.List.{All}
use Rattle.std.proofs.lemmas.Bool.{cases_lt}
use Rattle.std.proofs.lemmas.List.{length-drop}
use Rattle.std.proofs.lemmas.List.Elements.{All-nil, All-cons, All-head, All-tail}
use Rattle.std.proofs.lemmas.List.Folds.{drop_split}
use Rattle.rrset.specs.Header.{two_octets}
use Rattle.dsotlv.specs.declared.message.Tlv.{Tlv}
use Rattle.dsotlv.specs.declared.message.DsoFault.{DsoFault}
use Rattle.dsotlv.specs.declared.message.DsoFault.TheVariants.{Tlv as TlvAt}
use Rattle.dsotlv.specs.Messages.{tlv_octets, tlvs_from, tlv_end}
use Rattle.dsotlv.specs.Laws.{AreOctets, HasSize}
use Rattle.dsotlv.proofs.Results.{done, same_done, not_done}
use Rattle.dsotlv.proofs.Numbers.{drop_next, nothing, range_at, room, length-range, two_read, two_there, two_below}
use Rattle.dsotlv.proofs.Sizes.{length-tlv}
use Rattle.dsotlv.proofs.Walks.{IsWhole, tlv_at, behind, whole-end, tlvs-end, tlvs-more, tlvs-fault}

-- ---- what stands there is read

-- the parts of a TLV that stands at a place
pub record TlvStands (text : List ℕ) (at : ℕ) (tlv : Tlv) (rest : List ℕ) : Type 0 where
  pub whole : IsWhole text at (at + 4 + length tlv.octets)
  pub same : tlv_at text at (at + 4 + length tlv.octets) ≡ tlv
  pub next : drop (at + 4 + length tlv.octets) text ≡ rest

pub tlv_stands : (text : List ℕ) (at : ℕ) (tlv : Tlv) (rest : List ℕ) → HasSize tlv → at ≤ length text → drop at text ≡ tlv_octets tlv ++ rest → TlvStands text at tlv rest
tlv_stands text at tlv rest sized within e =
    let size = to_be_bytes w16 (length tlv.octets) in
    let first : drop at text ≡ to_be_bytes w16 tlv.kind ++ (size ++ (tlv.octets ++ rest)) = e in
    let second : drop (at + 2) text ≡ size ++ (tlv.octets ++ rest) = drop_next text at (at + 2) (to_be_bytes w16 tlv.kind) (size ++ (tlv.octets ++ rest)) first refl in
    let third : drop (at + 4) text ≡ tlv.octets ++ rest = drop_next text (at + 2) (at + 4) size (tlv.octets ++ rest) second (omega arith) in
    let kind-is : two_octets text at ≡ tlv.kind = two_read tlv.kind text at (size ++ (tlv.octets ++ rest)) sized.0 first in
    let size-is : two_octets text (at + 2) ≡ length tlv.octets = two_read (length tlv.octets) text (at + 2) (tlv.octets ++ rest) sized.1 second in
    let octets-are : slice_range text (at + 4) (at + 4 + length tlv.octets) ≡ tlv.octets = range_at text (at + 4) (at + 4 + length tlv.octets) tlv.octets rest third refl in
    let left = room text at (tlv_octets tlv) rest e in
    let long = length-tlv tlv in
    record {
      whole = record { head = omega (arith, left, long, within); end_is = ap (λ n. at + 4 + n) (sym size-is); fits = omega (arith, left, long, within) };
      same = λ i. record { kind = kind-is i; octets = octets-are i };
      next = drop_next text (at + 4) (at + 4 + length tlv.octets) tlv.octets rest third refl;
    }

pub tlvs_there : (more : ℕ) (text : List ℕ) (at : ℕ) (tlvs : List Tlv) → All HasSize tlvs → at ≤ length text → length text ≤ at + more → drop at text ≡ flat_map tlv_octets tlvs → tlvs_from more text at ≡ Ok tlvs
tlvs_there more text at [] sized within enough e = tlvs-end more text at (let none : length (drop at text) ≡ 0 = ap length e in omega (arith, none, length-drop at text, within))
tlvs_there zero text at (tlv ∷ tlvs) sized within enough e = absurd (omega (arith, within, enough, room text at (tlv_octets tlv) (flat_map tlv_octets tlvs) e, length-tlv tlv))
tlvs_there (suc more) text at (tlv ∷ tlvs) sized within enough e =
    let stands = tlv_stands text at tlv (flat_map tlv_octets tlvs) (All-head HasSize tlv tlvs sized) within e in
    let others = tlvs_there more text (at + 4 + length tlv.octets) tlvs (All-tail HasSize tlv tlvs sized) stands.whole.fits (omega (arith, enough)) stands.next in
    tlvs-more more text at (at + 4 + length tlv.octets) stands.whole ∙ ap (behind (tlv_at text at (at + 4 + length tlv.octets) ∷ [])) others ∙ ap (λ (t : Tlv). Ok (t ∷ tlvs)) stands.same

-- ---- what is read stands there

pub tlv_found : (text : List ℕ) (at end : ℕ) → AreOctets text → IsWhole text at end → (drop at text ≡ tlv_octets (tlv_at text at end) ++ drop end text) × HasSize (tlv_at text at end)
tlv_found text at end below whole =
    let tlv = tlv_at text at end in
    let low : at + 4 ≤ end = omega (arith, whole.end_is) in
    let size : length tlv.octets ≡ two_octets text (at + 2) = omega (arith, length-range text (at + 4) end low whole.fits, whole.end_is) in
    let third : drop (at + 4) text ≡ tlv.octets ++ drop end text = drop_split text (at + 4) end low in
    let second : drop (at + 2) text ≡ to_be_bytes w16 (two_octets text (at + 2)) ++ drop (at + 4) text = two_there text (at + 2) (at + 4) below (omega (arith, whole.head)) (omega arith) in
    let first : drop at text ≡ to_be_bytes w16 tlv.kind ++ drop (at + 2) text = two_there text at (at + 2) below (omega (arith, whole.head)) refl in
    let sized : drop (at + 2) text ≡ to_be_bytes w16 (length tlv.octets) ++ (tlv.octets ++ drop end text) = second ∙ ap (λ (xs : List ℕ). to_be_bytes w16 (two_octets text (at + 2)) ++ xs) third ∙ ap (λ (n : ℕ). to_be_bytes w16 n ++ (tlv.octets ++ drop end text)) (sym size) in
    (first ∙ ap (λ (xs : List ℕ). to_be_bytes w16 tlv.kind ++ xs) sized, (two_below text at below, subst (λ (n : ℕ). n < 2 ^ 16) (sym size) (two_below text (at + 2) below)))

behind_done : (tlv : Tlv) (r : Result (List Tlv) DsoFault) (tlvs : List Tlv) → behind (tlv ∷ []) r ≡ done tlvs → (others : List Tlv) × (r ≡ done others) × (tlv ∷ others ≡ tlvs)
behind_done tlv (Ok others) tlvs e = (others, refl, same_done (tlv ∷ others) tlvs e)
behind_done tlv (Err fault) tlvs e = absurd (not_done fault tlvs e)

-- TLVs that stand from a place to the end
pub record TlvsStand (text : List ℕ) (at : ℕ) (tlvs : List Tlv) : Type 0 where
  pub whole : drop at text ≡ flat_map tlv_octets tlvs
  pub sized : All HasSize tlvs

at_end : (more : ℕ) (text : List ℕ) (at : ℕ) (tlvs : List Tlv) → at ≡ length text → tlvs_from more text at ≡ done tlvs → TlvsStand text at tlvs
at_end more text at tlvs ends e =
    let none : List Tlv = [] in
    let is : none ≡ tlvs = same_done none tlvs (sym (tlvs-end more text at ends) ∙ e) in
    let empty : TlvsStand text at none = record { whole = nothing (drop at text) (omega (arith, ends, length-drop at text)); sized = All-nil HasSize } in
    subst (TlvsStand text at) is empty

abbrev FindsTlvs : List ℕ → ℕ → Type 0
FindsTlvs text more = (at : ℕ) (tlvs : List Tlv) → at ≤ length text → length text ≤ at + more → tlvs_from more text at ≡ done tlvs → TlvsStand text at tlvs

one_found : (more : ℕ) (text : List ℕ) (at : ℕ) (tlvs : List Tlv) → FindsTlvs text more → AreOctets text → at < length text → length text ≤ at + suc more → tlvs_from (suc more) text at ≡ done tlvs
    → (end : Option ℕ) → tlv_end text at ≡ end → TlvsStand text at tlvs
one_found more text at tlvs finds below before enough e None none = absurd (not_done (TlvAt at) tlvs (sym (tlvs-fault (suc more) text at before none) ∙ e))
one_found more text at tlvs finds below before enough e (Some end) some =
    let whole = whole-end text at end some in
    let tlv = tlv_at text at end in
    let others = behind_done tlv (tlvs_from more text end) tlvs (sym (tlvs-more more text at end whole) ∙ e) in
    let first = tlv_found text at end below whole in
    let rest = finds end others.0 whole.fits (omega (arith, enough, whole.end_is)) others.1 in
    let is : TlvsStand text at (tlv ∷ others.0) = record { whole = first.0 ∙ ap (λ (xs : List ℕ). tlv_octets tlv ++ xs) rest.whole; sized = All-cons HasSize tlv others.0 first.1 rest.sized } in
    subst (TlvsStand text at) others.2 is

pub tlvs_found : (more : ℕ) (text : List ℕ) → AreOctets text → FindsTlvs text more
tlvs_found zero text below at tlvs within enough e = at_end zero text at tlvs (omega (arith, within, enough)) e
tlvs_found (suc more) text below at tlvs within enough e = elim (cases_lt at (length text)) [
  | inl before ↦ one_found more text at tlvs (tlvs_found more text below) below before enough e (tlv_end text at) refl
  | inr past ↦ at_end (suc more) text at tlvs (omega (arith, within, past)) e
]
