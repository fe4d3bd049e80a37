-- What is kept of one question changes, where it stands.
--     with-there, with-none      the list where a search found the question, and where it found none
--     with-sorted      its order stays
use Rattle.std.proofs.Common.{◌≡◌, ℕ, zero, suc, ◌+◌, ◌<◌, ◌≤◌, Bool, true, false, cond, ◌&&◌, T, List, [], ◌∷◌, length, get_or, set, map, refl, sym, ap, subst, ◌∙◌, arith}
use Rattle.std.specs.Prelude.{IsTrue}
use Rattle.std.specs.List.{AllWithin}
use Rattle.std.specs.Ordering.{is_lt, is_eq, ordering_reverse}
use Rattle.std.specs.FinMap.Entries.{below_all, is_sorted}
use Rattle.std.specs.declared.cmp.Ordering.{Ordering}
use Rattle.std.specs.declared.cmp.Ordering.TheVariants.{Less, Equal, Greater}
use Rattle.std.proofs.lemmas.Cmp.{alike_right, tied_back}
use Rattle.rrset.specs.declared.record.Question.{Question}
use Rattle.rrset.proofs.Places.{below_at}
use Rattle.linkask.specs.Asking.{asked_cmp, same_asked}
use Rattle.linkask.specs.Bounds.{Kept, IsAt, IsGapFor, are_kept, with_asks}
use Rattle.linkask.specs.declared.asks.KeptAsks.{KeptAsks}
use Rattle.linkask.proofs.Order.{asked_cmp_total, and-first, and-second}
use Rattle.linkask.proofs.KeptOrder.{as_T}

pub lesser : (r : Ordering) → T (is_lt r) → r ≡ Less
lesser Less h = refl
lesser Equal h = absurd h
lesser Greater h = absurd h

module _ (question : Question) (f : KeptAsks → KeptAsks) where
  abbrev changed : Question × KeptAsks → Question × KeptAsks
  changed e = (e.0, f e.1)

  -- none of those that are greater is the question
  pub others-stay : (x : Question) (es : Kept) → asked_cmp x question ≡ Equal → T (below_all asked_cmp x es) → with_asks question f es ≡ es
  others-stay x [] same below = refl
  others-stay x (e ∷ es) same below =
      let before : asked_cmp question e.0 ≡ Less = sym (asked_cmp_total.congr x question e.0 same) ∙ lesser _ (and-first _ _ below) in
      ap (λ r. cond (is_eq r) (changed e) e ∷ with_asks question f es) before ∙ ap (λ (l : Kept). e ∷ l) (others-stay x es same (and-second _ _ below))

  there : (kept : Kept) → T (is_sorted asked_cmp kept) → (index : ℕ) (d : Question × KeptAsks) → index < length kept → asked_cmp (get_or kept index d).0 question ≡ Equal
      → with_asks question f kept ≡ set kept index (changed (get_or kept index d))
  there [] sorted index d within same = absurd (omega arith)
  there (e ∷ es) sorted zero d within same =
      ap (λ r. cond (is_eq r) (changed e) e ∷ with_asks question f es) (tied_back asked_cmp_total e.0 question same)
      ∙ ap (λ (l : Kept). changed e ∷ l) (others-stay e.0 es same (and-first _ _ sorted))
  there (e ∷ es) sorted (suc index) d within same =
      let in_rest : index < length es = omega arith in
      let before : asked_cmp e.0 question ≡ Less = sym (alike_right asked_cmp_total (get_or es index d).0 question e.0 same) ∙ below_at asked_cmp e.0 es (and-first _ _ sorted) index d in_rest in
      let behind : asked_cmp question e.0 ≡ Greater = asked_cmp_total.antisymm question e.0 ∙ ap ordering_reverse before in
      ap (λ r. cond (is_eq r) (changed e) e ∷ with_asks question f es) behind ∙ ap (λ (l : Kept). e ∷ l) (there es (and-second _ _ sorted) index d in_rest same)

  -- however the question at a place is read
  pub with-there : (kept : Kept) (index : ℕ) (x y : Question × KeptAsks) (asks : KeptAsks) → IsTrue (are_kept kept) → IsAt question kept index → asks ≡ f (get_or kept index y).1
      → set kept index ((get_or kept index x).0, asks) ≡ with_asks question f kept
  with-there kept index x y asks sorted at asks-is =
      ap (λ a. set kept index ((get_or kept index x).0, a)) asks-is
      ∙ ap (λ (d : Question × KeptAsks). set kept index ((get_or kept index x).0, f d.1)) (one kept index y x at.within)
      ∙ sym (there kept (as_T sorted) index x at.within (at.equal x))
    where
      one : (kept : Kept) (index : ℕ) (d e : Question × KeptAsks) → index < length kept → get_or kept index d ≡ get_or kept index e
      one [] index d e within = absurd (omega arith)
      one (k ∷ ks) zero d e within = refl
      one (k ∷ ks) (suc index) d e within = one ks index d e (omega arith)

  none : (kept : Kept) (index : ℕ) → index ≤ length kept → AllWithin (λ e. asked_cmp e.0 question ≡ Less) kept 0 index → AllWithin (λ e. asked_cmp e.0 question ≡ Greater) kept index (length kept)
      → kept ≡ with_asks question f kept
  none [] index within front back = refl
  none (e ∷ es) zero within front back =
      let later = none es zero (omega arith) (λ j d low high. absurd (omega arith)) (λ j d low high. back (suc j) d (omega arith) (omega arith)) in
      let before : asked_cmp question e.0 ≡ Less = asked_cmp_total.antisymm question e.0 ∙ ap ordering_reverse (back zero e (omega arith) (omega arith)) in
      ap (λ (l : Kept). e ∷ l) later ∙ sym (ap (λ r. cond (is_eq r) (changed e) e ∷ with_asks question f es) before)
  none (e ∷ es) (suc index) within front back =
      let later = none es index (omega arith) (λ j d low high. front (suc j) d (omega arith) (omega arith)) (λ j d low high. back (suc j) d (omega arith) (omega arith)) in
      let behind : asked_cmp question e.0 ≡ Greater = asked_cmp_total.antisymm question e.0 ∙ ap ordering_reverse (front zero e (omega arith) (omega arith)) in
      ap (λ (l : Kept). e ∷ l) later ∙ sym (ap (λ r. cond (is_eq r) (changed e) e ∷ with_asks question f es) behind)

  pub with-none : (kept : Kept) (index : ℕ) → IsGapFor question kept index → kept ≡ with_asks question f kept
  with-none kept index gap = none kept index gap.within gap.between.0 gap.between.1

  -- ---- the order stays

  kept-question : (e : Question × KeptAsks) (b : Bool) → (cond b (changed e) e).0 ≡ e.0
  kept-question e true = refl
  kept-question e false = refl

  below-with : (x : Question) (kept : Kept) → below_all asked_cmp x (with_asks question f kept) ≡ below_all asked_cmp x kept
  below-with x [] = refl
  below-with x (e ∷ es) = λ i. is_lt (asked_cmp x (kept-question e (same_asked question e.0) i)) && below-with x es i

  sorted-with : (kept : Kept) → is_sorted asked_cmp (with_asks question f kept) ≡ is_sorted asked_cmp kept
  sorted-with [] = refl
  sorted-with (e ∷ es) =
      ap (λ x. below_all asked_cmp x (with_asks question f es) && is_sorted asked_cmp (with_asks question f es)) (kept-question e (same_asked question e.0))
      ∙ (λ i. below-with e.0 es i && sorted-with es i)

  pub length-with : (kept : Kept) → length (with_asks question f kept) ≡ length kept
  length-with [] = refl
  length-with (e ∷ es) = ap suc (length-with es)

  pub with-sorted : (kept : Kept) → IsTrue (are_kept kept) → IsTrue (are_kept (with_asks question f kept))
  with-sorted kept sorted = sorted-with kept ∙ sorted
