-- Questions at a name in the order of their QTYPEs and QCLASSes: one more, and a search.
use Rattle.std.proofs.Common.{◌≡◌, ℕ, zero, suc, ◌+◌, ◌<◌, ◌≤◌, Bool, true, false, cond, not, ◌||◌, ◌&&◌, List, [], ◌∷◌, length, get_or, Some, None, Result, Ok, Err, Bor, refl, sym, ap, ◌∙◌, arith}
use Rattle.std.specs.Prelude.{◌==◌, nat_lt}
use Rattle.std.specs.Result.{is_ok}
use Rattle.std.specs.Fn.{ComputesKey}
use denote.Param.Members.{Mut, Called}
use Rattle.std.proofs.lemmas.Fn.{always_returns_same}
use Rattle.std.specs.declared.cmp.Ordering.{Ordering}
use Rattle.std.specs.declared.cmp.Ordering.TheVariants.{Less, Equal, Greater}
use Rattle.std.specs.Cmp.{IsTotalOrder, nat_cmp_total, on_total, then_total, unsigned_tied}
use Rattle.std.specs.Ordering.{is_eq, is_gt, is_lt, nat_cmp, ordering_index, ordering_reverse, ordering_then}
use Rattle.std.specs.List.{list_any, position, position_or_len}
use Rattle.std.specs.List.Sorted.{IsBinarySearchResult, IsSearchInRange}
use Rattle.std.proofs.lemmas.List.Folds.{list_any_at}
use Rattle.std.proofs.lemmas.List.Sorted.{IsNonDecreasingBy-insert, searchable_from_sorted}
use Rattle.std.proofs.lemmas.List.Kept.{IsNonDecreasingBy-filter}
use Rattle.std.proofs.lemmas.List.Sums.{fails_before_first, passes_at_first, prefix_len-le-length}
use Rattle.std.proofs.lemmas.Bool.{ltb-false, ltb-true}
use Rattle.subscr.specs.Named.{AreOrdered, comes_behind, is_of, kinds_cmp, kinds_of, with_ask, without_ask, has_id}
use Rattle.subscr.specs.declared.named.Ask.{Ask}

kinds_cmp_total : IsTotalOrder kinds_cmp
kinds_cmp_total = then_total (on_total (λ (k : ℕ × ℕ). k.0) nat_cmp_total) (on_total (λ (k : ℕ × ℕ). k.1) nat_cmp_total)

-- ---- one more, and some left out

-- of two in order the first one doesn't come behind what the second one comes before
two_rise : (a b : Ask) (kinds : ℕ × ℕ) → is_lt (kinds_cmp (kinds_of b) (kinds_of a)) ≡ false → ordering_index (kinds_cmp (kinds_of a) kinds) ≤ ordering_index (kinds_cmp (kinds_of b) kinds)
two_rise a b kinds low = searchable_from_sorted kinds_cmp_total kinds_of (a ∷ b ∷ []) kinds (λ k d from within. by k d within) 0 1 a (omega arith) (omega arith)
  where
    by : (k : ℕ) (d : Ask) → k + 1 < 2 → is_lt (kinds_cmp (kinds_of (get_or (a ∷ b ∷ []) (k + 1) d)) (kinds_of (get_or (a ∷ b ∷ []) k d))) ≡ false
    by zero d within = low
    by (suc k) d within = absurd (omega (arith, within))

not_above : (r : Ordering) → is_gt r ≡ false → is_lt (ordering_reverse r) ≡ false
not_above Less e = refl
not_above Equal e = refl
not_above Greater e = absurd cc

above : (r : Ordering) → is_gt r ≡ true → (r ≡ Greater)
above Less e = absurd cc
above Equal e = absurd cc
above Greater e = refl

highest : (r : Ordering) → 2 ≤ ordering_index r → r ≡ Greater
highest Less e = absurd (omega (arith, e))
highest Equal e = absurd (omega (arith, e))
highest Greater e = refl

pub ordered-with : (ask : Ask) (asks : List Ask) → AreOrdered asks → AreOrdered (with_ask ask asks)
ordered-with ask asks are kinds =
    let place = position_or_len (comes_behind ask) asks in
    IsNonDecreasingBy-insert (λ a. ordering_index (kinds_cmp (kinds_of a) kinds)) asks place ask (are kinds) (prefix_len-le-length (λ a. not (comes_behind ask a)) asks)
    (λ k d low. two_rise (get_or asks k d) ask kinds
    (ap is_lt (kinds_cmp_total.antisymm (kinds_of ask) (kinds_of (get_or asks k d))) ∙ not_above _ (fails_before_first (comes_behind ask) asks k d low)))
    (λ k d from within.
    let first : kinds_cmp (kinds_of (get_or asks place d)) (kinds_of ask) ≡ Greater = above _ (passes_at_first (comes_behind ask) asks d (omega (arith, from, within))) in
    let rise = are (kinds_of ask) place k d from within in
    let two : ordering_index (kinds_cmp (kinds_of (get_or asks place d)) (kinds_of ask)) ≡ 2 = ap ordering_index first in
    let last = highest (kinds_cmp (kinds_of (get_or asks k d)) (kinds_of ask)) (omega (arith, rise, two)) in
    two_rise ask (get_or asks k d) kinds (ap is_lt last))

pub ordered-without : (id : ℕ) (asks : List Ask) → AreOrdered asks → AreOrdered (without_ask id asks)
ordered-without id asks are kinds = IsNonDecreasingBy-filter (λ a. ordering_index (kinds_cmp (kinds_of a) kinds)) (λ a. not (has_id id a)) asks (are kinds)

pub ordered-none : AreOrdered []
ordered-none kinds i j d from within = absurd (omega (arith, within))

pub ordered-one : (ask : Ask) → AreOrdered (ask ∷ [])
ordered-one ask = ordered-with ask [] ordered-none

-- ---- a search

tied : (kind class : ℕ) (a : Ask) → is_of kind class a ≡ is_eq (kinds_cmp (kinds_of a) (kind, class))
tied kind class a =
    ap (λ (b : Bool). b && (a.class == class)) (sym (unsigned_tied a.kind kind))
    ∙ ap (λ (b : Bool). is_eq (nat_cmp a.kind kind) && b) (sym (unsigned_tied a.class class))
    ∙ by (nat_cmp a.kind kind) (nat_cmp a.class class)
  where
    by : (r s : Ordering) → (is_eq r && is_eq s) ≡ is_eq (ordering_then r s)
    by Less s = refl
    by Equal s = refl
    by Greater s = refl

none_from : {X : Type 0} (p : X → Bool) (xs : List X) → ((k : ℕ) (d : X) → k < length xs → p (get_or xs k d) ≡ false) → list_any p xs ≡ false
none_from p [] none = refl
none_from p (x ∷ xs) none = ap (λ (b : Bool). b || list_any p xs) (none 0 x (omega arith)) ∙ none_from p xs (λ k d within. none (suc k) d (omega (arith, within)))

pub found_by : (kind class : ℕ) (asks : List Ask) (r : Result ℕ ℕ) → AreOrdered asks → IsSearchInRange r (length asks) → IsBinarySearchResult (λ a. kinds_cmp (kinds_of a) (kind, class)) asks r
    → is_ok r ≡ list_any (is_of kind class) asks
found_by kind class asks (Ok place) are within is =
    sym (list_any_at (is_of kind class) asks place (record { kind = kind; class = class; id = 0 }) within (tied kind class (get_or asks place (record { kind = kind; class = class; id = 0 })) ∙ ap is_eq (is (record { kind = kind; class = class; id = 0 }))))
found_by kind class asks (Err place) are within is =
    sym (none_from (is_of kind class) asks (λ k d low. by k d low (nat_lt k place) refl))
  where
    by : (k : ℕ) (d : Ask) → k < length asks → (b : Bool) → nat_lt k place ≡ b → is_of kind class (get_or asks k d) ≡ false
    by k d inside true low = tied kind class (get_or asks k d) ∙ ap is_eq ((is (are (kind, class))).0 k d (omega arith) (ltb-true k place low))
    by k d inside false high = tied kind class (get_or asks k d) ∙ ap is_eq ((is (are (kind, class))).1 k d (ltb-false k place high) inside)

-- from the clause `position` of a search, where each call gives ord of the question
pub position-from_clause : {F : Type 0} {g : Mut F (Bor Ask × Unit {0}) Ordering} {f : F} (ord : Ask → Ordering) (asks : List Ask) (r : Result ℕ ℕ)
    → ((o : Ask → Ordering) → ComputesKey g o f → IsBinarySearchResult o asks r)
    → ((a : Bor Ask × Unit {0}) (b : Ordering) (f' : F) → Called g f a b f' → (b ≡ ord a.0.now) × (f' ≡ f)) → IsBinarySearchResult ord asks r
position-from_clause {g = g} {f = f} ord asks r clause h = clause ord (always_returns_same g (λ a b. b ≡ ord a.0.now) f h)

-- ---- a place

pub place-within : (ask : Ask) (asks : List Ask) → position_or_len (comes_behind ask) asks ≤ length asks
place-within ask asks = prefix_len-le-length (λ a. not (comes_behind ask a)) asks

pub behind-none : (ask : Ask) (asks : List Ask) → None ≡ position (comes_behind ask) asks → length asks ≡ position_or_len (comes_behind ask) asks
behind-none ask asks is = by (nat_lt (position_or_len (comes_behind ask) asks) (length asks)) refl is
  where
    by : (b : Bool) → nat_lt (position_or_len (comes_behind ask) asks) (length asks) ≡ b → None ≡ cond b (Some (position_or_len (comes_behind ask) asks)) None
        → length asks ≡ position_or_len (comes_behind ask) asks
    by true at e = absurd cc
    by false at e = omega (arith, ltb-false (position_or_len (comes_behind ask) asks) (length asks) at, place-within ask asks)
