-- Questions in their order: what a search finds, and the list behind a change.
use Rattle.std.proofs.Common.{◌≡◌, ℕ, ◌-◌, ◌<◌, ◌≤◌, Bool, true, false, cond, not, T, length, get_or, set, Some, None, Option, Result, Ok, Err, Bor, refl, sym, ap, subst, ◌∙◌, arith}
use Rattle.std.specs.Prelude.{IsTrue, nat_lt, filter}
use Rattle.std.specs.Result.{IfOk, IfErr}
use Rattle.std.specs.Fn.{ComputesKey}
use denote.Param.Members.{Mut, Called}
use Rattle.std.specs.declared.cmp.Ordering.{Ordering}
use Rattle.std.proofs.lemmas.Fn.{always_returns_same}
use Rattle.std.specs.Ordering.{is_gt, ordering_index}
use Rattle.std.specs.List.{insert, remove}
use Rattle.std.specs.List.Sorted.{IsNonDecreasingBy, IsSearchInRange, IsBinarySearchResult}
use Rattle.std.specs.FinMap.Entries.{find, put, is_sorted-put, is_sorted-where_key}
use Rattle.std.proofs.lemmas.List.Sorted.{searchable_from_sorted}
use Rattle.push_base.specs.Causes.{next_count}
use Rattle.rrset.specs.declared.record.Question.{Question}
use Rattle.rrset.proofs.Places.{sorted_by, StandsAt, stands_at, GoesTo, goes_to}
use Rattle.linkask.specs.Asking.{asked_cmp, asked_for, same_asked}
use Rattle.linkask.specs.Bounds.{Kept, IsAt, IsGapFor, are_kept, one_reason, with_reason, without_reason}
use Rattle.linkask.specs.declared.asks.KeptAsks.{KeptAsks}
use Rattle.linkask.proofs.Order.{asked_cmp_total}

pub as_T : {b : Bool} → IsTrue b → T b
as_T e = subst T (sym e) tt

from_T : (b : Bool) → T b → IsTrue b
from_T true h = refl
from_T false h = absurd h

questions_rise_to : (question : Question) (kept : Kept) → IsTrue (are_kept kept) → IsNonDecreasingBy (λ e. ordering_index (asked_cmp e.0 question)) kept
questions_rise_to question kept sorted =
    searchable_from_sorted asked_cmp_total (λ (e : Question × KeptAsks). e.0) kept question
    (sorted_by asked_cmp_total asked_cmp asked_cmp_total (λ e. e.0) (λ a b e. ap is_gt e) kept (as_T sorted))

-- from the clause `position` of a search, where each call gives ord of the entry
pub position-from_clause : {F : Type 0} {g : Mut F (Bor (Question × KeptAsks) × Unit {0}) Ordering} {f : F} (ord : Question × KeptAsks → Ordering) (kept : Kept) (r : Result ℕ ℕ)
    → ((o : Question × KeptAsks → Ordering) → ComputesKey g o f → IsBinarySearchResult o kept r)
    → ((a : Bor (Question × KeptAsks) × Unit {0}) (b : Ordering) (f' : F) → Called g f a b f' → (b ≡ ord a.0.now) × (f' ≡ f)) → IsBinarySearchResult ord kept r
position-from_clause {g = g} {f = f} ord kept r clause h = clause ord (always_returns_same g (λ a b. b ≡ ord a.0.now) f h)

pub search_found : (question : Question) (kept : Kept) (r : Result ℕ ℕ) → IsSearchInRange r (length kept) → IsBinarySearchResult (λ e. asked_cmp e.0 question) kept r → IfOk r (IsAt question kept)
search_found question kept (Ok index) within is = record { within = within; equal = is }
search_found question kept (Err index) within is = tt

pub search_absent : (question : Question) (kept : Kept) (r : Result ℕ ℕ) → IsTrue (are_kept kept) → IsSearchInRange r (length kept) → IsBinarySearchResult (λ e. asked_cmp e.0 question) kept r
    → IfErr r (IsGapFor question kept)
search_absent question kept (Ok index) sorted within is = tt
search_absent question kept (Err index) sorted within is = record { within = within; between = is (questions_rise_to question kept sorted) }

-- a question stands where the one for its name and kind does
pub at-question : (question : Question) (kept : Kept) (index : ℕ) → IsAt (asked_for question.name question.kind) kept index → IsAt question kept index
at-question question kept index h = record { within = h.within; equal = h.equal }

pub gap-question : (question : Question) (kept : Kept) (index : ℕ) → IsGapFor (asked_for question.name question.kind) kept index → IsGapFor question kept index
gap-question question kept index h = record { within = h.within; between = h.between }

stands : (question : Question) (kept : Kept) (index : ℕ) (d : Question × KeptAsks) → IsTrue (are_kept kept) → IsAt question kept index → StandsAt asked_cmp question kept index d
stands question kept index d sorted at = stands_at asked_cmp_total question kept (as_T sorted) index d at.within (at.equal d)

goes : (question : Question) (kept : Kept) (index : ℕ) → IsGapFor question kept index → GoesTo asked_cmp question kept index
goes question kept index gap = goes_to asked_cmp_total question kept index gap.within gap.between.0 gap.between.1

kept-put : (question : Question) (asks : KeptAsks) (kept : Kept) → IsTrue (are_kept kept) → IsTrue (are_kept (put asked_cmp question asks kept))
kept-put question asks kept sorted = from_T _ (is_sorted-put asked_cmp asked_cmp_total question asks kept (as_T sorted))

-- ---- a reason more

abbrev pub one_more : Option KeptAsks → KeptAsks
one_more None = one_reason
one_more (Some asks) = record asks { reasons = next_count asks.reasons }

pub more-is : (question : Question) (kept : Kept) → with_reason question kept ≡ put asked_cmp question (one_more (find asked_cmp question kept)) kept
more-is question kept = by (find asked_cmp question kept)
  where
    by : (o : Option KeptAsks) → put asked_cmp question (elim o as (λ _. KeptAsks) [ None ↦ one_reason | Some asks ↦ record asks { reasons = next_count asks.reasons } ]) kept ≡ put asked_cmp question (one_more o) kept
    by None = refl
    by (Some asks) = refl

pub record Adds (question : Question) (kept later : Kept) : Type 0 where
  pub is : later ≡ with_reason question kept
  pub sorted : IsTrue (are_kept later)

adds : (question : Question) (kept later : Kept) → IsTrue (are_kept kept) → later ≡ put asked_cmp question (one_more (find asked_cmp question kept)) kept → Adds question kept later
adds question kept later sorted is = record { is = is ∙ sym (more-is question kept); sorted = subst (λ (l : Kept). IsTrue (are_kept l)) (sym is) (kept-put question _ kept sorted) }

pub adds-there : (question : Question) (kept : Kept) (index : ℕ) (e d : Question × KeptAsks) (reasons : ℕ) → IsTrue (are_kept kept) → IsAt question kept index → e ≡ get_or kept index e → d ≡ get_or kept index d
    → reasons ≡ next_count d.1.reasons → Adds question kept (set kept index (e.0, record d.1 { reasons = reasons }))
adds-there question kept index e d reasons sorted at e-is d-is more =
    let s = stands question kept index d sorted at in
    let t = stands question kept index e sorted at in
    adds question kept _ sorted
    (ap (λ n. set kept index (e.0, record d.1 { reasons = n })) more
    ∙ ap (λ (q : Question). set kept index (q, one_more (Some d.1))) (ap (λ (x : Question × KeptAsks). x.0) e-is)
    ∙ sym (t.puts (one_more (Some d.1)))
    ∙ ap (λ o. put asked_cmp question (one_more o) kept) (ap (λ (x : Question × KeptAsks). Some x.1) d-is ∙ sym s.found))

pub adds-new : (question : Question) (kept : Kept) (index : ℕ) → IsTrue (are_kept kept) → IsGapFor question kept index → Adds question kept (insert kept index (question, one_reason))
adds-new question kept index sorted gap =
    let g = goes question kept index gap in
    adds question kept _ sorted (sym (g.puts one_reason) ∙ ap (λ o. put asked_cmp question (one_more o) kept) (sym g.none))

-- ---- a reason less

abbrev pub one_less : Question → Kept → Option KeptAsks → Kept
one_less question kept None = kept
one_less question kept (Some asks) = cond (nat_lt 1 asks.reasons) (put asked_cmp question (record asks { reasons = asks.reasons - 1 }) kept) (filter (λ e. not (same_asked question e.0)) kept)

pub less-is : (question : Question) (kept : Kept) → without_reason question kept ≡ one_less question kept (find asked_cmp question kept)
less-is question kept = by (find asked_cmp question kept)
  where
    by : (o : Option KeptAsks)
        → elim o as (λ _. Kept) [ None ↦ kept | Some asks ↦ cond (nat_lt 1 asks.reasons) (put asked_cmp question (record asks { reasons = asks.reasons - 1 }) kept) (filter (λ e. not (same_asked question e.0)) kept) ] ≡ one_less question kept o
    by None = refl
    by (Some asks) = refl

pub record Drops (question : Question) (kept later : Kept) : Type 0 where
  pub is : later ≡ without_reason question kept
  pub sorted : IsTrue (are_kept later)

less-sorted : (question : Question) (kept : Kept) → IsTrue (are_kept kept) → (o : Option KeptAsks) → IsTrue (are_kept (one_less question kept o))
less-sorted question kept sorted None = sorted
less-sorted question kept sorted (Some asks) = by (nat_lt 1 asks.reasons)
  where
    by : (b : Bool) → IsTrue (are_kept (cond b (put asked_cmp question (record asks { reasons = asks.reasons - 1 }) kept) (filter (λ e. not (same_asked question e.0)) kept)))
    by true = kept-put question _ kept sorted
    by false = from_T _ (is_sorted-where_key asked_cmp (λ q. not (same_asked question q)) kept (as_T sorted))

drops : (question : Question) (kept later : Kept) (o : Option KeptAsks) → IsTrue (are_kept kept) → find asked_cmp question kept ≡ o → later ≡ one_less question kept o → Drops question kept later
drops question kept later o sorted found is = record {
  is = is ∙ ap (one_less question kept) (sym found) ∙ sym (less-is question kept);
  sorted = subst (λ (l : Kept). IsTrue (are_kept l)) (sym is) (less-sorted question kept sorted o);
}

pub drops-none : (question : Question) (kept : Kept) (index : ℕ) → IsTrue (are_kept kept) → IsGapFor question kept index → Drops question kept kept
drops-none question kept index sorted gap = drops question kept kept None sorted (goes question kept index gap).none refl

found-there : (question : Question) (kept : Kept) (index : ℕ) (d : Question × KeptAsks) → IsTrue (are_kept kept) → IsAt question kept index → d ≡ get_or kept index d → find asked_cmp question kept ≡ Some d.1
found-there question kept index d sorted at d-is = (stands question kept index d sorted at).found ∙ ap (λ (x : Question × KeptAsks). Some x.1) (sym d-is)

pub drops-one : (question : Question) (kept : Kept) (index : ℕ) (e d : Question × KeptAsks) → IsTrue (are_kept kept) → IsAt question kept index → e ≡ get_or kept index e → d ≡ get_or kept index d
    → nat_lt 1 d.1.reasons ≡ true → Drops question kept (set kept index (e.0, record d.1 { reasons = d.1.reasons - 1 }))
drops-one question kept index e d sorted at e-is d-is several =
    let less : KeptAsks = record d.1 { reasons = d.1.reasons - 1 } in
    drops question kept _ (Some d.1) sorted (found-there question kept index d sorted at d-is)
    (ap (λ (q : Question). set kept index (q, less)) (ap (λ (x : Question × KeptAsks). x.0) e-is)
    ∙ sym ((stands question kept index e sorted at).puts less)
    ∙ ap (λ b. cond b (put asked_cmp question less kept) (filter (λ e. not (same_asked question e.0)) kept)) (sym several))

pub drops-last : (question : Question) (kept later : Kept) (index : ℕ) (d : Question × KeptAsks) → IsTrue (are_kept kept) → IsAt question kept index → d ≡ get_or kept index d
    → nat_lt 1 d.1.reasons ≡ false → later ≡ remove kept index → Drops question kept later
drops-last question kept later index d sorted at d-is one is =
    let less : KeptAsks = record d.1 { reasons = d.1.reasons - 1 } in
    drops question kept later (Some d.1) sorted (found-there question kept index d sorted at d-is)
    (is ∙ sym ((stands question kept index d sorted at).left) ∙ ap (λ b. cond b (put asked_cmp question less kept) (filter (λ e. not (same_asked question e.0)) kept)) (sym one))

pub is-several : (n : ℕ) → 1 < n → nat_lt 1 n ≡ true
is-several n h = grind (arith, h)

pub is-last : (n : ℕ) → n ≤ 1 → nat_lt 1 n ≡ false
is-last n h = grind (arith, h)
