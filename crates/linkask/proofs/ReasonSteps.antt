-- Reasons come and go: what is wanted then, and that bounds stay bounds.
--     wanting_wants, unwanting_drops, beginning_anew
--     reasons_keep, going_keeps
use Rattle.std.proofs.Common.{◌≡◌, ℕ, ◌+◌, ◌-◌, ◌≤◌, Bool, true, false, cond, not, T, List, [], ◌∷◌, map, Option, Some, None, is_some, refl, sym, ap, subst, ◌∙◌, arith}
use Rattle.std.specs.Prelude.{IsTrue, filter, fold, flat_map, min, nat_lt, option_map, ◌==◌}
use Rattle.std.specs.List.{AllByRecursion}
use Rattle.std.specs.Ordering.{is_lt, is_eq}
use Rattle.std.specs.FinMap.Entries.{by_order, below_all, find, is_sorted, put}
use Rattle.std.specs.declared.cmp.Ordering.{Ordering}
use Rattle.std.specs.declared.cmp.Ordering.TheVariants.{Less, Equal, Greater}
use Rattle.std.proofs.lemmas.Cmp.{tied_back}
use Rattle.push_base.specs.Causes.{next_count}
use Rattle.rrset.specs.declared.record.Key.{Key}
use Rattle.rrset.specs.declared.record.Question.{Question}
use Rattle.rrset.proofs.Places.{all_filter}
use Rattle.linkcache.specs.Rows.{LinkRows}
use Rattle.linkcache.specs.declared.row.HeardRow.{HeardRow}
use Rattle.linkask.specs.Asking.{Asks, Wanted, anew, asked_cmp, asks_of, never_asked, pause_after, refreshes, rows_for, same_asked, unwanted, wanted}
use Rattle.linkask.specs.Bounds.{Kept, AreBounds, IsBound, are_kept, asks_in, begun_anew, due_of, one_reason, reasons_for, reasons_of, wanted_in, with_asks, with_reason, without_reason}
use Rattle.linkask.specs.Laws.{BeginningAnew, GoingKeepsBounds, ReasonsKeepBounds, UnwantingDrops, WantingWants}
use Rattle.linkask.specs.declared.asks.KeptAsks.{KeptAsks}
use Rattle.linkask.proofs.AtOne.{lesser, others-stay}
use Rattle.linkask.proofs.FirstDue.{fold-below}
use Rattle.linkask.proofs.KeptOrder.{as_T, less-is, more-is, one_less, one_more}
use Rattle.linkask.proofs.Order.{asked_cmp_total, and-first, and-second}

-- ---- a question that is there

-- what is less than all isn't there
none-below : (question : Question) (x : Question) (es : Kept) → asked_cmp question x ≡ Less → T (below_all asked_cmp x es) → find asked_cmp question es ≡ None
none-below question x [] p below = refl
none-below question x (e ∷ es) p below =
    ap (λ r. cond (is_eq r) (Some e.1) (find asked_cmp question es)) (asked_cmp_total.trans question x e.0 p (lesser _ (and-first _ _ below)))
    ∙ none-below question x es p (and-second _ _ below)

-- what is put for it in its place
put-found : (question : Question) (f : KeptAsks → KeptAsks) (kept : Kept) (asks : KeptAsks) → T (is_sorted asked_cmp kept) → find asked_cmp question kept ≡ Some asks
    → put asked_cmp question (f asks) kept ≡ with_asks question f kept
put-found question f [] asks sorted found = absurd cc
put-found question f (e ∷ es) asks sorted found = by (asked_cmp question e.0) refl found (put-found question f es asks (and-second _ _ sorted))
  where
    by : (r : Ordering) → asked_cmp question e.0 ≡ r → cond (is_eq r) (Some e.1) (find asked_cmp question es) ≡ Some asks
        → (find asked_cmp question es ≡ Some asks → put asked_cmp question (f asks) es ≡ with_asks question f es)
        → by_order r ((question, f asks) ∷ e ∷ es) ((e.0, f asks) ∷ es) (e ∷ put asked_cmp question (f asks) es) ≡ cond (is_eq r) (e.0, f e.1) e ∷ with_asks question f es
    by Less is h rest = let none = none-below question e.0 es is (and-first _ _ sorted) in absurd cc
    by Equal is h rest =
        let same : e.1 ≡ asks = cc in
        (λ i. (e.0, f (sym same i)) ∷ sym (others-stay question f e.0 es (tied_back asked_cmp_total question e.0 is) (and-first _ _ sorted)) i)
    by Greater is h rest = ap (λ (l : Kept). e ∷ l) (rest h)

-- ---- what is wanted

found-wanted : (question : Question) (kept : Kept) → asks_of question (wanted_in kept) ≡ option_map asks_in (find asked_cmp question kept)
found-wanted question [] = refl
found-wanted question (e ∷ es) = by (found-wanted question es) (same_asked question e.0)
  where
    by : asks_of question (wanted_in es) ≡ option_map asks_in (find asked_cmp question es)
        → (b : Bool) → cond b (Some (asks_in e.1)) (asks_of question (wanted_in es)) ≡ option_map asks_in (cond b (Some e.1) (find asked_cmp question es))
    by rest true = refl
    by rest false = rest

wanted-put : (question : Question) (asks : KeptAsks) (kept : Kept) → wanted_in (put asked_cmp question asks kept) ≡ put asked_cmp question (asks_in asks) (wanted_in kept)
wanted-put question asks [] = refl
wanted-put question asks (e ∷ es) = by (asked_cmp question e.0) (wanted-put question asks es)
  where
    by : (r : Ordering) → wanted_in (put asked_cmp question asks es) ≡ put asked_cmp question (asks_in asks) (wanted_in es)
        → wanted_in (by_order r ((question, asks) ∷ e ∷ es) ((e.0, asks) ∷ es) (e ∷ put asked_cmp question asks es))
        ≡ by_order r ((question, asks_in asks) ∷ (e.0, asks_in e.1) ∷ wanted_in es) ((e.0, asks_in asks) ∷ wanted_in es) ((e.0, asks_in e.1) ∷ put asked_cmp question (asks_in asks) (wanted_in es))
    by Less rest = refl
    by Equal rest = refl
    by Greater rest = ap (λ (l : Wanted). (e.0, asks_in e.1) ∷ l) rest

-- reasons alone
wanted-with : (question : Question) (f : KeptAsks → KeptAsks) → ((asks : KeptAsks) → asks_in (f asks) ≡ asks_in asks) → (kept : Kept) → wanted_in (with_asks question f kept) ≡ wanted_in kept
wanted-with question f same [] = refl
wanted-with question f same (e ∷ es) = λ i. by (same_asked question e.0) i ∷ wanted-with question f same es i
  where
    at : Question × KeptAsks → Question × Asks
    at d = (d.0, asks_in d.1)

    by : (b : Bool) → at (cond b (e.0, f e.1) e) ≡ at e
    by true = ap (λ asks. (e.0, asks)) (same e.1)
    by false = refl

wanted-others : (question : Question) (kept : Kept) → wanted_in (filter (λ e. not (same_asked question e.0)) kept) ≡ unwanted question (wanted_in kept)
wanted-others question [] = refl
wanted-others question (e ∷ es) = by (same_asked question e.0) (wanted-others question es)
  where
    left : Kept
    left = filter (λ e. not (same_asked question e.0)) es

    by : (b : Bool) → wanted_in left ≡ unwanted question (wanted_in es) → wanted_in (cond (not b) (e ∷ left) left) ≡ cond (not b) ((e.0, asks_in e.1) ∷ unwanted question (wanted_in es)) (unwanted question (wanted_in es))
    by true rest = rest
    by false rest = ap (λ (l : Wanted). (e.0, asks_in e.1) ∷ l) rest

none-others : (question : Question) (kept : Kept) → find asked_cmp question kept ≡ None → filter (λ e. not (same_asked question e.0)) kept ≡ kept
none-others question [] none = refl
none-others question (e ∷ es) none = by (same_asked question e.0) none (none-others question es)
  where
    left : Kept
    left = filter (λ e. not (same_asked question e.0)) es

    by : (b : Bool) → cond b (Some e.1) (find asked_cmp question es) ≡ None → (find asked_cmp question es ≡ None → left ≡ es) → cond (not b) (e ∷ left) left ≡ e ∷ es
    by true h rest = absurd cc
    by false h rest = ap (λ (l : Kept). e ∷ l) (rest h)

pub wanting_wants : WantingWants
wanting_wants question kept sorted = ap wanted_in (more-is question kept) ∙ by (find asked_cmp question kept) refl
  where
    by : (o : Option KeptAsks) → find asked_cmp question kept ≡ o → wanted_in (put asked_cmp question (one_more o) kept) ≡ wanted question (wanted_in kept)
    by None is =
        wanted-put question one_reason kept
        ∙ sym (ap (λ (o : Option Asks). cond (is_some o) (wanted_in kept) (put asked_cmp question never_asked (wanted_in kept))) (found-wanted question kept ∙ ap (option_map asks_in) is))
    by (Some asks) is =
        ap wanted_in (put-found question (λ asks. record asks { reasons = next_count asks.reasons }) kept asks (as_T sorted) is)
        ∙ wanted-with question (λ asks. record asks { reasons = next_count asks.reasons }) (λ asks. refl) kept
        ∙ sym (ap (λ (o : Option Asks). cond (is_some o) (wanted_in kept) (put asked_cmp question never_asked (wanted_in kept))) (found-wanted question kept ∙ ap (option_map asks_in) is))

pub unwanting_drops : UnwantingDrops
unwanting_drops question kept sorted = ap wanted_in (less-is question kept) ∙ by (find asked_cmp question kept) refl
  where
    several : (asks : KeptAsks) → find asked_cmp question kept ≡ Some asks → (b : Bool)
        → wanted_in (cond b (put asked_cmp question (record asks { reasons = asks.reasons - 1 }) kept) (filter (λ e. not (same_asked question e.0)) kept)) ≡ cond b (wanted_in kept) (unwanted question (wanted_in kept))
    several asks is true =
        ap wanted_in (put-found question (λ asks. record asks { reasons = asks.reasons - 1 }) kept asks (as_T sorted) is)
        ∙ wanted-with question (λ asks. record asks { reasons = asks.reasons - 1 }) (λ asks. refl) kept
    several asks is false = wanted-others question kept

    by : (o : Option KeptAsks) → find asked_cmp question kept ≡ o → wanted_in (one_less question kept o) ≡ cond (nat_lt 1 (reasons_for question kept)) (wanted_in kept) (unwanted question (wanted_in kept))
    by None is =
        sym (ap wanted_in (none-others question kept is)) ∙ wanted-others question kept
        ∙ sym (ap (λ (o : Option KeptAsks). cond (nat_lt 1 (reasons_of o)) (wanted_in kept) (unwanted question (wanted_in kept))) is)
    by (Some asks) is =
        several asks is (nat_lt 1 asks.reasons)
        ∙ sym (ap (λ (o : Option KeptAsks). cond (nat_lt 1 (reasons_of o)) (wanted_in kept) (unwanted question (wanted_in kept))) is)

pub beginning_anew : BeginningAnew
beginning_anew question [] = refl
beginning_anew question (e ∷ es) = λ i. by (same_asked question e.0) i ∷ beginning_anew question es i
  where
    at : Question × KeptAsks → Question × Asks
    at d = (d.0, asks_in d.1)

    by : (b : Bool) → at (cond b (e.0, record e.1 { count = 0; last = 0; due = 0 }) e) ≡ cond b (e.0, never_asked) (at e)
    by true = refl
    by false = refl

-- ---- bounds

bounds-with : (rows : LinkRows) (question : Question) (f : KeptAsks → KeptAsks) → ((x : Question) (asks : KeptAsks) → IsBound rows (x, asks) → IsBound rows (x, f asks)) → (kept : Kept) → AreBounds rows kept → AreBounds rows (with_asks question f kept)
bounds-with rows question f keeps [] bounds = tt
bounds-with rows question f keeps (e ∷ es) bounds = (by (same_asked question e.0), bounds-with rows question f keeps es bounds.1)
  where
    by : (b : Bool) → IsBound rows (cond b (e.0, f e.1) e)
    by true = keeps e.0 e.1 bounds.0
    by false = bounds.0

bounds-put : (rows : LinkRows) (question : Question) (kept : Kept) → AreBounds rows kept → AreBounds rows (put asked_cmp question one_reason kept)
bounds-put rows question [] bounds = (omega arith, tt)
bounds-put rows question (e ∷ es) bounds = by (asked_cmp question e.0) (bounds-put rows question es bounds.1)
  where
    by : (r : Ordering) → AreBounds rows (put asked_cmp question one_reason es) → AreBounds rows (by_order r ((question, one_reason) ∷ e ∷ es) ((e.0, one_reason) ∷ es) (e ∷ put asked_cmp question one_reason es))
    by Less rest = (omega arith, bounds)
    by Equal rest = (omega arith, bounds.1)
    by Greater rest = (bounds.0, rest)

reason-more : (rows : LinkRows) (question : Question) (kept : Kept) → IsTrue (are_kept kept) → AreBounds rows kept → (o : Option KeptAsks) → find asked_cmp question kept ≡ o → AreBounds rows (put asked_cmp question (one_more o) kept)
reason-more rows question kept sorted bounds None is = bounds-put rows question kept bounds
reason-more rows question kept sorted bounds (Some asks) is =
    let f : KeptAsks → KeptAsks = λ asks. record asks { reasons = next_count asks.reasons } in
    subst (AreBounds rows) (sym (put-found question f kept asks (as_T sorted) is)) (bounds-with rows question f (λ x asks h. h) kept bounds)

reason-less : (rows : LinkRows) (question : Question) (kept : Kept) → IsTrue (are_kept kept) → AreBounds rows kept → (o : Option KeptAsks) → find asked_cmp question kept ≡ o → AreBounds rows (one_less question kept o)
reason-less rows question kept sorted bounds None is = bounds
reason-less rows question kept sorted bounds (Some asks) is = by (nat_lt 1 asks.reasons)
  where
    f : KeptAsks → KeptAsks
    f asks = record asks { reasons = asks.reasons - 1 }

    by : (b : Bool) → AreBounds rows (cond b (put asked_cmp question (record asks { reasons = asks.reasons - 1 }) kept) (filter (λ e. not (same_asked question e.0)) kept))
    by true = subst (AreBounds rows) (sym (put-found question f kept asks (as_T sorted) is)) (bounds-with rows question f (λ x asks h. h) kept bounds)
    by false = all_filter (IsBound rows) (λ e. not (same_asked question e.0)) kept bounds

pub reasons_keep : ReasonsKeepBounds
reasons_keep rows question kept sorted bounds = (
  subst (AreBounds rows) (sym (more-is question kept)) (reason-more rows question kept sorted bounds (find asked_cmp question kept) refl),
  subst (AreBounds rows) (sym (less-is question kept)) (reason-less rows question kept sorted bounds (find asked_cmp question kept) refl),
  bounds-with rows question (λ asks. record asks { count = 0; last = 0; due = 0 }) (λ x asks h. omega arith) kept bounds,
)

-- without rows a question is due no sooner
pub going_keeps : GoingKeepsBounds
going_keeps rows [] bounds = tt
going_keeps rows (e ∷ es) bounds = (by (e.1.count == 0) bounds.0, going_keeps rows es bounds.1)
  where
    pause : ℕ
    pause = e.1.last + pause_after e.1.count

    later : List ℕ
    later = filter (nat_lt e.1.last) (flat_map (λ (row : Key × HeardRow). refreshes row.1) (rows_for e.0 rows))

    by : (b : Bool) → e.1.due ≤ cond b 0 (fold min pause later) → e.1.due ≤ cond b 0 pause
    by true h = h
    by false h = let less = fold-below pause later in omega (arith, h, less)
