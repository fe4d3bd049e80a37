-- The walk over the TLVs of a message.
use Rattle.std.proofs.Common.{◌≡◌, ℕ, zero, suc, ◌+◌, ◌<◌, ◌≤◌, Bool, true, false, cond, ltb, Option, Some, None, List, [], ◌∷◌, ◌++◌, length, Result, Ok, Err, refl, sym, ap, subst, ◌∙◌, append_assoc, arith}
use Rattle.std.specs.Prelude.{slice_range}
use Rattle.std.proofs.lemmas.Bool.{le-ltb, ne_eqb, eq-eqb}
use Rattle.std.proofs.lemmas.Bool.Decides.{nat_tests}
use Rattle.std.proofs.lemmas.List.{append-nil}
use Rattle.push_base.specs.Cases.{◌>>=◌}
use Rattle.rrset.specs.Header.{two_octets}
use Rattle.dsotlv.specs.declared.message.Tlv.{Tlv}
use Rattle.dsotlv.specs.declared.message.DsoFault.{DsoFault}
use Rattle.dsotlv.specs.declared.message.DsoFault.TheVariants.{Tlv as TlvAt}
use Rattle.dsotlv.specs.Messages.{tlvs_from, tlvs_of, tlv_end}

abbrev pub tlv_at : List ℕ → ℕ → ℕ → Tlv
tlv_at message place end = record { kind = two_octets message place; octets = slice_range message (place + 4) end }

-- what is read behind the TLVs that were read
abbrev pub behind : List Tlv → Result (List Tlv) DsoFault → Result (List Tlv) DsoFault
behind front (Ok others) = Ok (front ++ others)
behind front (Err fault) = Err fault

ltb_false : (a b : ℕ) → ltb a b ≡ false → b ≤ a
ltb_false a b h = grind (arith, nat_tests)

-- where a TLV is whole
pub record IsWhole (message : List ℕ) (place end : ℕ) : Type 0 where
  pub head : place + 4 ≤ length message
  pub end_is : end ≡ place + 4 + two_octets message (place + 2)
  pub fits : end ≤ length message

pub whole-end : (message : List ℕ) (place end : ℕ) → tlv_end message place ≡ Some end → IsWhole message place end
whole-end message place end e = by_tests (ltb (length message) (place + 4)) (ltb (length message) (place + 4 + two_octets message (place + 2))) refl refl e
  where
    by_tests : (no_head cut : Bool) → ltb (length message) (place + 4) ≡ no_head → ltb (length message) (place + 4 + two_octets message (place + 2)) ≡ cut
        → cond {A = Option ℕ} no_head None (cond cut None (Some (place + 4 + two_octets message (place + 2)))) ≡ Some end → IsWhole message place end
    by_tests true cut h c e = absurd cc
    by_tests false true h c e = absurd cc
    by_tests false false h c e =
        let end_is : place + 4 + two_octets message (place + 2) ≡ end = cc in
        record { head = ltb_false _ _ h; end_is = sym end_is; fits = subst (λ (n : ℕ). n ≤ length message) end_is (ltb_false _ _ c) }

-- at the end there are no more TLVs
pub tlvs-end : (more : ℕ) (message : List ℕ) (place : ℕ) → place ≡ length message → tlvs_from more message place ≡ Ok []
tlvs-end zero message place e = rw (eq-eqb place (length message) e, tlvs_from) refl
tlvs-end (suc more) message place e = rw (eq-eqb place (length message) e, tlvs_from) refl

with_others : (tlv : Tlv) (r : Result (List Tlv) DsoFault) → (r >>= λ others. Ok (tlv ∷ others)) ≡ behind (tlv ∷ []) r
with_others tlv (Ok others) = refl
with_others tlv (Err fault) = refl

-- the place after a whole TLV
pub end-whole : (message : List ℕ) (place end : ℕ) → IsWhole message place end → tlv_end message place ≡ Some end
end-whole message place end whole =
    let fits : place + 4 + two_octets message (place + 2) ≤ length message = subst (λ (n : ℕ). n ≤ length message) whole.end_is whole.fits in
    rw (le-ltb (length message) (place + 4) whole.head)
    (rw (le-ltb (length message) (place + 4 + two_octets message (place + 2)) fits)
    (ap (λ (n : ℕ). Some n) (sym whole.end_is)))

-- what is read behind the TLV before a place
abbrev read_behind : ℕ → List ℕ → ℕ → Option ℕ → Result (List Tlv) DsoFault
read_behind more message place end = elim end as (λ _. Result (List Tlv) DsoFault) [
  | None ↦ Err (TlvAt place)
  | Some next ↦ tlvs_from more message next >>= λ others. Ok (tlv_at message place next ∷ others)
]

-- a whole TLV stands before the others
pub tlvs-more : (more : ℕ) (message : List ℕ) (place end : ℕ) → IsWhole message place end → tlvs_from (suc more) message place ≡ behind (tlv_at message place end ∷ []) (tlvs_from more message end)
tlvs-more more message place end whole =
    rw (ne_eqb place (length message) (λ e. omega (arith, e, whole.head)), tlvs_from)
    (ap (read_behind more message place) (end-whole message place end whole) ∙ with_others (tlv_at message place end) (tlvs_from more message end))

-- a TLV that isn't whole is the fault
pub tlvs-fault : (more : ℕ) (message : List ℕ) (place : ℕ) → place < length message → tlv_end message place ≡ None → tlvs_from more message place ≡ Err (TlvAt place)
tlvs-fault zero message place before none = rw (ne_eqb place (length message) (λ e. omega (arith, e, before)), tlvs_from) refl
tlvs-fault (suc more) message place before none = rw (ne_eqb place (length message) (λ e. omega (arith, e, before)), tlvs_from) (ap (read_behind more message place) none)

-- ---- as far as a loop has come

-- the TLVs that were read so far stand before what is read on
pub record ReadSoFar (message : List ℕ) (place : ℕ) (read : List Tlv) : Type 0 where
  pub more : ℕ
  pub within : place ≤ length message
  pub enough : length message ≤ place + more
  pub same : tlvs_of message ≡ behind read (tlvs_from more message place)

pub begins : (message : List ℕ) → 12 ≤ length message → ReadSoFar message 12 []
begins message long = record { more = length message; within = long; enough = omega arith; same = nothing_before (tlvs_of message) }
  where
    nothing_before : (r : Result (List Tlv) DsoFault) → r ≡ behind [] r
    nothing_before (Ok others) = refl
    nothing_before (Err fault) = refl

behind_both : (front : List Tlv) (tlv : Tlv) (r : Result (List Tlv) DsoFault) → behind front (behind (tlv ∷ []) r) ≡ behind (front ++ tlv ∷ []) r
behind_both front tlv (Ok others) = ap (λ (tlvs : List Tlv). Ok tlvs) (sym (append_assoc front (tlv ∷ []) others))
behind_both front tlv (Err fault) = refl

pub more : (message : List ℕ) (place end : ℕ) (read : List Tlv) → ReadSoFar message place read → place < length message → tlv_end message place ≡ Some end → ReadSoFar message end (read ++ tlv_at message place end ∷ [])
more message place end read so_far before e = by_bound so_far.more so_far.enough so_far.same
  where
    whole : IsWhole message place end
    whole = whole-end message place end e

    by_bound : (bound : ℕ) → length message ≤ place + bound → tlvs_of message ≡ behind read (tlvs_from bound message place) → ReadSoFar message end (read ++ tlv_at message place end ∷ [])
    by_bound zero enough same = absurd (omega (arith, before, enough))
    by_bound (suc bound) enough same = record {
      more = bound;
      within = whole.fits;
      enough = omega (arith, enough, whole.end_is);
      same = same ∙ ap (behind read) (tlvs-more bound message place end whole) ∙ behind_both read (tlv_at message place end) (tlvs_from bound message end);
    }

pub ends : (message : List ℕ) (place : ℕ) (read : List Tlv) → ReadSoFar message place read → length message ≤ place → tlvs_of message ≡ Ok read
ends message place read so_far past = so_far.same ∙ ap (behind read) (tlvs-end so_far.more message place (omega (arith, past, so_far.within))) ∙ ap (λ (tlvs : List Tlv). Ok tlvs) (append-nil read)

pub fault : (message : List ℕ) (place : ℕ) (read : List Tlv) → ReadSoFar message place read → place < length message → tlv_end message place ≡ None → tlvs_of message ≡ Err (TlvAt place)
fault message place read so_far before none = so_far.same ∙ ap (behind read) (tlvs-fault so_far.more message place before none)
