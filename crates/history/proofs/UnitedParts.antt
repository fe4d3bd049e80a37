-- A part of the union of several record sets.
--     Clear p sets      no key of the sets passes
use Rattle.std.proofs.Common.{◌≡◌, Bool, true, false, cond, ◌&&◌, List, [], ◌∷◌, ◌++◌, map, fold, Option, Some, None, T, Ordering, Less, Equal, Greater, refl, sym, ap, ◌∙◌}
use Rattle.std.specs.List.{AllByRecursion}
use Rattle.std.specs.Ordering.{is_lt, is_eq}
use Rattle.std.specs.FinMap.Entries.{below_all}
use Rattle.rrset.specs.RecordSet.{RecordSet, only, put, union, shown_at, changes}
use Rattle.rrset.specs.Records.{key_cmp, same_key}
use Rattle.rrset.specs.declared.record.Key.{Key}
use Rattle.rrset.specs.declared.record.Shown.{Shown}
use Rattle.rrset.proofs.Apart.{AgreeApart, changes-apart}
use Rattle.rrset.proofs.InOrder.{InOrder, in_order-union, same_sets}
use Rattle.rrset.proofs.SameRows.{same_key-same}
use Rattle.rrset.proofs.Selected.{only-union, fails}
use Rattle.rrset.proofs.Sets.{shown_at-put}

abbrev pub united : RecordSet → List RecordSet → RecordSet
united first sets = fold union first sets

pub in_order-united : (first : RecordSet) (sets : List RecordSet) → InOrder first → InOrder (united first sets)
in_order-united first [] h = h
in_order-united first (s ∷ sets) h = in_order-united (union first s) sets (in_order-union first s h)

pub only-united : (p : Key → Bool) (first : RecordSet) (sets : List RecordSet) → InOrder first → only p (united first sets) ≡ united (only p first) (map (only p) sets)
only-united p first [] h = refl
only-united p first (s ∷ sets) h = only-united p (union first s) sets (in_order-union first s h) ∙ ap (λ f. united f (map (only p) sets)) (only-union p first s h)

-- ---- the union of nothing with a set in order is the set

both_of : (a b : Bool) → T (a && b) → T a × T b
both_of true b h = (tt, h)
both_of false b h = absurd h

less_apart : (o : Ordering) → T (is_lt o) → is_eq o ≡ false
less_apart Less h = refl
less_apart Equal h = absurd h
less_apart Greater h = absurd h

pub shown_at-below : (k : Key) (es : RecordSet) → T (below_all key_cmp k es) → shown_at k es ≡ None
shown_at-below k [] h = refl
shown_at-below k (e ∷ es) h =
    let both = both_of (is_lt (key_cmp k e.0)) (below_all key_cmp k es) h in
    ap (λ b. cond b (Some e.1) (shown_at k es)) (less_apart (key_cmp k e.0) both.0) ∙ shown_at-below k es both.1

abbrev pub over : {X : Type 0} → Option X → Option X → Option X
over None below = below
over (Some above) below = Some above

pub shown_at-union : (q : Key) (first es : RecordSet) → InOrder es → shown_at q (union first es) ≡ over (shown_at q es) (shown_at q first)
shown_at-union q first [] h = refl
shown_at-union q first (e ∷ es) h =
    shown_at-union q (put e.0 e.1 first) es both.1
    ∙ ap (over (shown_at q es)) (shown_at-put q e.0 e.1 first)
    ∙ by (same_key q e.0) refl
  where
    both : T (below_all key_cmp e.0 es) × InOrder es
    both = both_of (below_all key_cmp e.0 es) _ h

    by : (b : Bool) → same_key q e.0 ≡ b → over (shown_at q es) (cond b (Some e.1) (shown_at q first)) ≡ over (cond b (Some e.1) (shown_at q es)) (shown_at q first)
    by true is = ap (λ o. over o (Some e.1)) (ap (λ k. shown_at k es) (same_key-same q e.0 is) ∙ shown_at-below e.0 es both.0)
    by false is = refl

pub union-nothing : (set : RecordSet) → InOrder set → union [] set ≡ set
union-nothing set h = same_sets (union [] set) set (in_order-union [] set tt) h (λ q. shown_at-union q [] set h ∙ by (shown_at q set))
  where
    by : (o : Option Shown) → over o None ≡ o
    by None = refl
    by (Some s) = refl

-- ---- the part that is of one set alone

abbrev pub Clear : (Key → Bool) → List RecordSet → Type 0
Clear p sets = AllByRecursion (λ s. only p s ≡ []) sets

pub united-clear : (p : Key → Bool) (first : RecordSet) (sets : List RecordSet) → Clear p sets → united first (map (only p) sets) ≡ first
united-clear p first [] clear = refl
united-clear p first (s ∷ sets) clear = ap (λ e. united (union first e) (map (only p) sets)) clear.0 ∙ united-clear p first sets clear.1

pub united-one : (p : Key → Bool) (first : RecordSet) (before : List RecordSet) (set : RecordSet) (behind : List RecordSet) → Clear p before → Clear p behind
    → united first (map (only p) (before ++ set ∷ behind)) ≡ union first (only p set)
united-one p first [] set behind none rest = united-clear p (union first (only p set)) behind rest
united-one p first (s ∷ before) set behind none rest = ap (λ e. united (union first e) (map (only p) (before ++ set ∷ behind))) none.0 ∙ united-one p first before set behind none.1 rest

pub only-one : (p : Key → Bool) (before : List RecordSet) (set : RecordSet) (behind : List RecordSet) → Clear p before → Clear p behind → InOrder (only p set)
    → only p (united [] (before ++ set ∷ behind)) ≡ only p set
only-one p before set behind none rest h = only-united p [] (before ++ set ∷ behind) tt ∙ united-one p [] before set behind none rest ∙ union-nothing (only p set) h

pub only-clear : (p : Key → Bool) (sets : List RecordSet) → Clear p sets → only p (united [] sets) ≡ []
only-clear p sets clear = only-united p [] sets tt ∙ united-clear p [] sets clear

-- ---- one set in the place of another

pub united-apart : (p : Key → Bool) (first : RecordSet) (before : List RecordSet) (old new : RecordSet) (behind : List RecordSet) → AgreeApart p old new
    → united first (map (only (fails p)) (before ++ old ∷ behind)) ≡ united first (map (only (fails p)) (before ++ new ∷ behind))
united-apart p first [] old new behind agree = ap (λ s. united (union first s) (map (only (fails p)) behind)) agree
united-apart p first (s ∷ before) old new behind agree = united-apart p (union first (only (fails p) s)) before old new behind agree

pub changes-one : (p : Key → Bool) (before : List RecordSet) (old new : RecordSet) (behind : List RecordSet) → Clear p before → Clear p behind → AgreeApart p old new
    → InOrder (only p old) → InOrder (only p new) → changes (united [] (before ++ old ∷ behind)) (united [] (before ++ new ∷ behind)) ≡ changes (only p old) (only p new)
changes-one p before old new behind none rest agree h g =
    changes-apart p (all old) (all new) (in_order-united [] (before ++ old ∷ behind) tt)
    (only-united (fails p) [] (before ++ old ∷ behind) tt ∙ united-apart p [] before old new behind agree ∙ sym (only-united (fails p) [] (before ++ new ∷ behind) tt))
    ∙ (λ i. changes (only-one p before old behind none rest h i) (only-one p before new behind none rest g i))
  where
    all : RecordSet → RecordSet
    all set = united [] (before ++ set ∷ behind)
