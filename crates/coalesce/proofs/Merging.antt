-- Old values put in the place of what rows show, one after the other in key order.
use Rattle.std.proofs.Common.{◌≡◌, Bool, true, false, cond, not, T, [], ◌∷◌, ◌++◌, Option, Some, None, refl, sym, ap, subst, ◌∙◌}
use Rattle.std.specs.Prelude.{filter, is_some, Result, Ok, Err, OnOk, OnErr, ◌&&◌}
use Rattle.std.specs.Ordering.{is_eq, is_lt, ordering_reverse}
use Rattle.std.specs.FinMap.Entries.{by_order, below_all, is_sorted-put}
use Rattle.std.specs.declared.cmp.Ordering.{Ordering}
use Rattle.std.specs.declared.cmp.Ordering.TheVariants.{Less, Equal, Greater}
use Rattle.rrset.specs.Records.{key_cmp, same_key}
use Rattle.rrset.specs.KeyedRows.{Rows, is_rising, put_row, row_at}
use Rattle.rrset.specs.RecordSet.{RecordSet, with_value, with_values, is_in_order, without, put}
use Rattle.rrset.specs.declared.record.Key.{Key}
use Rattle.rrset.specs.declared.record.Shown.{Shown}
use Rattle.rrset.proofs.InOrder.{InOrder}
use Rattle.rrset.proofs.KeyOrder.{key_cmp_total, key_cmp-IsAntisymmetric}
use Rattle.rrset.proofs.OldValues.{Values}
use Rattle.rrset.proofs.Places.{and_left, and_right, and_both}
use Rattle.coalesce.specs.Merging.{comes_first, behind_key}
use Rattle.coalesce.specs.Waiting.{OldValue, values_of, and_value}
use Rattle.coalesce.proofs.Filters.{truth, holds}

abbrev pub Rising : {X : Type 0} → Rows X → Type 0
Rising rows = T (is_rising rows)

-- the record that a key shows, if any
abbrev pub own : Key × Option Shown → RecordSet
own (key, None) = []
own (key, Some shown) = (key, shown) ∷ []

pub less : (r : Ordering) → T (is_lt r) → r ≡ Less
less Less h = refl
less Equal h = absurd h
less Greater h = absurd h

-- ---- what comes before all others stays

below-less : {X : Type 0} (x y : Key) (es : Rows X) → key_cmp x y ≡ Less → T (below_all key_cmp y es) → T (below_all key_cmp x es)
below-less x y [] p h = tt
below-less x y (e ∷ es) p h =
    and_both (is_lt (key_cmp x e.0)) (below_all key_cmp x es)
    (subst (λ r. T (is_lt r)) (sym (key_cmp_total.trans x y e.0 p (less (key_cmp y e.0) (and_left _ _ h)))) tt)
    (below-less x y es p (and_right _ _ h))

-- a row whose key comes before another key
one-stays : (r : Key × Shown) (rs : RecordSet) (v : Key × Option Shown) → key_cmp r.0 v.0 ≡ Less → with_value (r ∷ rs) v ≡ r ∷ with_value rs v
one-stays r rs (key, shown) before = by shown (key_cmp_total.antisymm key r.0 ∙ ap ordering_reverse before)
  where
    by : (shown : Option Shown) → key_cmp key r.0 ≡ Greater → with_value (r ∷ rs) (key, shown) ≡ r ∷ with_value rs (key, shown)
    by None behind = ap (λ (o : Ordering). cond (not (is_eq o)) (r ∷ without (same_key key) rs) (without (same_key key) rs)) behind
    by (Some s) behind = ap (λ (o : Ordering). by_order o ((key, s) ∷ r ∷ rs) ((r.0, s) ∷ rs) (r ∷ put key s rs)) behind

pub first-stays : (values : Values) (r : Key × Shown) (rs : RecordSet) → T (below_all key_cmp r.0 values) → with_values values (r ∷ rs) ≡ r ∷ with_values values rs
first-stays [] r rs h = refl
first-stays (v ∷ vs) r rs h =
    ap (with_values vs) (one-stays r rs v (less (key_cmp r.0 v.0) (and_left _ _ h)))
    ∙ first-stays vs r (with_value rs v) (and_right _ _ h)

-- ---- the first old value

-- no row has a key that comes before all
none-out : (key : Key) (rows : RecordSet) → T (below_all key_cmp key rows) → without (same_key key) rows ≡ rows
none-out key [] h = refl
none-out key (e ∷ es) h =
    ap (λ (o : Ordering). cond (not (is_eq o)) (e ∷ without (same_key key) es) (without (same_key key) es)) (less (key_cmp key e.0) (and_left _ _ h))
    ∙ ap (λ l. e ∷ l) (none-out key es (and_right _ _ h))

-- the old value of a key that no row comes before stands first
first-put : (v : Key × Option Shown) (rows : RecordSet) → InOrder rows → comes_first v.0 rows ≡ false → with_value rows v ≡ own v ++ behind_key v.0 rows
first-put (key, None) [] h none = refl
first-put (key, Some s) [] h none = refl
first-put (key, shown) (e ∷ es) h none = by shown (key_cmp key e.0) refl
  where
    behind : Bool → RecordSet
    behind b = cond b es (e ∷ es)

    not-greater : key_cmp key e.0 ≡ Greater → true ≡ false
    not-greater o = sym (ap is_lt (key_cmp_total.antisymm e.0 key ∙ ap ordering_reverse o)) ∙ none

    out : RecordSet
    out = without (same_key key) es

    by : (shown : Option Shown) (o : Ordering) → key_cmp key e.0 ≡ o → with_value (e ∷ es) (key, shown) ≡ own (key, shown) ++ cond (is_eq (key_cmp key e.0)) es (e ∷ es)
    by None Less is =
        ap (λ (o : Ordering). cond (not (is_eq o)) (e ∷ out) out) is
        ∙ ap (λ l. e ∷ l) (none-out key es (below-less key e.0 es is (and_left _ _ h)))
        ∙ sym (ap (λ (o : Ordering). cond (is_eq o) es (e ∷ es)) is)
    by None Equal is =
        ap (λ (o : Ordering). cond (not (is_eq o)) (e ∷ out) out) is
        ∙ none-out key es (subst (λ k. T (below_all key_cmp k es)) (sym (key_cmp-IsAntisymmetric key e.0 is)) (and_left _ _ h))
        ∙ sym (ap (λ (o : Ordering). cond (is_eq o) es (e ∷ es)) is)
    by None Greater is = let wrong : true ≡ false = not-greater is in absurd cc
    by (Some s) Less is =
        ap (λ (o : Ordering). by_order o ((key, s) ∷ e ∷ es) ((e.0, s) ∷ es) (e ∷ put key s es)) is
        ∙ sym (ap (λ (o : Ordering). (key, s) ∷ cond (is_eq o) es (e ∷ es)) is)
    by (Some s) Equal is =
        ap (λ (o : Ordering). by_order o ((key, s) ∷ e ∷ es) ((e.0, s) ∷ es) (e ∷ put key s es)) is
        ∙ ap (λ k. (k, s) ∷ es) (sym (key_cmp-IsAntisymmetric key e.0 is))
        ∙ sym (ap (λ (o : Ordering). (key, s) ∷ cond (is_eq o) es (e ∷ es)) is)
    by (Some s) Greater is = let wrong : true ≡ false = not-greater is in absurd cc

pub value-first : (v : Key × Option Shown) (vs : Values) (rows : RecordSet) → Rising (v ∷ vs) → InOrder rows → comes_first v.0 rows ≡ false
    → with_values (v ∷ vs) rows ≡ own v ++ with_values vs (behind_key v.0 rows)
value-first (key, None) vs rows rising h none = ap (with_values vs) (first-put (key, None) rows h none)
value-first (key, Some s) vs rows rising h none =
    ap (with_values vs) (first-put (key, Some s) rows h none)
    ∙ first-stays vs (key, s) (behind_key key rows) (and_left _ _ rising)

pub row-first : (v : Key × Option Shown) (vs : Values) (r : Key × Shown) (rs : RecordSet) → Rising (v ∷ vs) → comes_first v.0 (r ∷ rs) ≡ true
    → with_values (v ∷ vs) (r ∷ rs) ≡ r ∷ with_values (v ∷ vs) rs
row-first v vs r rs rising first =
    let before : key_cmp r.0 v.0 ≡ Less = less (key_cmp r.0 v.0) (subst T (sym first) tt) in
    first-stays (v ∷ vs) r rs (and_both (is_lt (key_cmp r.0 v.0)) (below_all key_cmp r.0 vs) (subst T (sym first) tt) (below-less r.0 v.0 vs before (and_left _ _ rising)))

pub order-behind : (key : Key) (rows : RecordSet) → InOrder rows → InOrder (behind_key key rows)
order-behind key [] h = tt
order-behind key (e ∷ es) h = by (same_key key e.0)
  where
    by : (b : Bool) → InOrder (cond b es (e ∷ es))
    by true = and_right _ _ h
    by false = h

-- ---- old values with their points

below-values : (key : Key) (old : Rows OldValue) → below_all key_cmp key (values_of old) ≡ below_all key_cmp key old
below-values key [] = refl
below-values key (e ∷ es) = ap (λ (b : Bool). is_lt (key_cmp key e.0) && b) (below-values key es)

pub rising-values : (old : Rows OldValue) → is_rising (values_of old) ≡ is_rising old
rising-values [] = refl
rising-values (e ∷ es) = λ i. below-values e.0 es i && rising-values es i

-- ---- a turn

-- what both sides are merged to
pub record IsMerged (old : Rows OldValue) (rows all : RecordSet) : Type 0 where
  pub is : with_values (values_of old) rows ≡ all
  pub rising : is_rising old ≡ true
  pub order : is_in_order rows ≡ true

-- both sides behind what was taken off
pub record Leaves (old : Rows OldValue) (rows : RecordSet) (entry : Key × Shown) (all : RecordSet) : Type 0 where
  pub is : all ≡ entry ∷ with_values (values_of old) rows
  pub rising : is_rising old ≡ true
  pub order : is_in_order rows ≡ true

rises : (old : Rows OldValue) → is_rising old ≡ true → Rising (values_of old)
rises old h = subst T (sym (rising-values old ∙ h)) tt

pub takes-row : (old : Rows OldValue) (rows all : RecordSet) (v : Key × OldValue) (vs : Rows OldValue) (r : Key × Shown) (rs : RecordSet) → IsMerged old rows all → old ≡ v ∷ vs → rows ≡ r ∷ rs → comes_first v.0 rows ≡ true
    → Leaves old rs r all
takes-row old rows all v vs r rs merged old-is rows-is first =
    let rising : is_rising (v ∷ vs) ≡ true = sym (ap (λ (l : Rows OldValue). is_rising l) old-is) ∙ merged.rising in
    let whole : with_values (values_of (v ∷ vs)) (r ∷ rs) ≡ all = sym (λ i. with_values (values_of (old-is i)) (rows-is i)) ∙ merged.is in
    record {
      is = sym whole ∙ row-first (v.0, v.1.before) (values_of vs) r rs (rises (v ∷ vs) rising) (sym (ap (comes_first v.0) rows-is) ∙ first)
          ∙ sym (ap (λ (l : Rows OldValue). r ∷ with_values (values_of l) rs) old-is);
      rising = merged.rising;
      order = truth (is_in_order rs) (and_right (below_all key_cmp r.0 rs) (is_in_order rs) (subst T (sym (sym (ap is_in_order rows-is) ∙ merged.order)) tt));
    }

value-goes : (old : Rows OldValue) (rows all : RecordSet) (v : Key × OldValue) (vs : Rows OldValue) → IsMerged old rows all → old ≡ v ∷ vs → comes_first v.0 rows ≡ false
    → all ≡ own (v.0, v.1.before) ++ with_values (values_of vs) (behind_key v.0 rows)
value-goes old rows all v vs merged old-is none =
    sym (sym (ap (λ (l : Rows OldValue). with_values (values_of l) rows) old-is) ∙ merged.is)
    ∙ value-first (v.0, v.1.before) (values_of vs) rows (rises (v ∷ vs) (sym (ap (λ (l : Rows OldValue). is_rising l) old-is) ∙ merged.rising)) (holds _ merged.order) none

rising-behind : (old : Rows OldValue) (v : Key × OldValue) (vs : Rows OldValue) → is_rising old ≡ true → old ≡ v ∷ vs → is_rising vs ≡ true
rising-behind old v vs h is = truth (is_rising vs) (and_right (below_all key_cmp v.0 vs) (is_rising vs) (subst T (sym (sym (ap (λ (l : Rows OldValue). is_rising l) is) ∙ h)) tt))

pub takes-value : (old : Rows OldValue) (rows all left : RecordSet) (v : Key × OldValue) (vs : Rows OldValue) (e : Key × Shown) → IsMerged old rows all → old ≡ v ∷ vs → comes_first v.0 rows ≡ false → left ≡ behind_key v.0 rows
    → e.0 ≡ v.0 → v.1.before ≡ Some e.1 → Leaves vs left e all
takes-value old rows all left v vs e merged old-is none left-is key before = record {
  is = value-goes old rows all v vs merged old-is none
      ∙ ap (λ (o : Option Shown). own (v.0, o) ++ with_values (values_of vs) (behind_key v.0 rows)) before
      ∙ (λ i. (sym key i, e.1) ∷ with_values (values_of vs) (sym left-is i));
  rising = rising-behind old v vs merged.rising old-is;
  order = ap is_in_order left-is ∙ truth (is_in_order (behind_key v.0 rows)) (order-behind v.0 rows (holds _ merged.order));
}

pub passes-value : (old : Rows OldValue) (rows all left : RecordSet) (v : Key × OldValue) (vs : Rows OldValue) → IsMerged old rows all → old ≡ v ∷ vs → comes_first v.0 rows ≡ false → left ≡ behind_key v.0 rows → v.1.before ≡ None
    → IsMerged vs left all
passes-value old rows all left v vs merged old-is none left-is before = record {
  is = ap (with_values (values_of vs)) left-is
      ∙ sym (value-goes old rows all v vs merged old-is none ∙ ap (λ (o : Option Shown). own (v.0, o) ++ with_values (values_of vs) (behind_key v.0 rows)) before);
  rising = rising-behind old v vs merged.rising old-is;
  order = ap is_in_order left-is ∙ truth (is_in_order (behind_key v.0 rows)) (order-behind v.0 rows (holds _ merged.order));
}

pub last-row : (old : Rows OldValue) (rows all : RecordSet) (r : Key × Shown) (rs : RecordSet) → IsMerged old rows all → old ≡ [] → rows ≡ r ∷ rs → Leaves old rs r all
last-row old rows all r rs merged old-is rows-is = record {
  is = sym merged.is ∙ (λ i. with_values (values_of (old-is i)) (rows-is i)) ∙ sym (ap (λ (l : Rows OldValue). r ∷ with_values (values_of l) rs) old-is);
  rising = merged.rising;
  order = truth (is_in_order rs) (and_right (below_all key_cmp r.0 rs) (is_in_order rs) (subst T (sym (sym (ap is_in_order rows-is) ∙ merged.order)) tt));
}

pub nothing-left : (old : Rows OldValue) (rows all : RecordSet) → IsMerged old rows all → old ≡ [] → rows ≡ [] → all ≡ []
nothing-left old rows all merged old-is rows-is = sym merged.is ∙ (λ i. with_values (values_of (old-is i)) (rows-is i))

-- ---- old values that are kept, and those that go

below-filter : {X : Type 0} (key : Key) (p : Key × X → Bool) (rows : Rows X) → T (below_all key_cmp key rows) → T (below_all key_cmp key (filter p rows))
below-filter key p [] h = tt
below-filter key p (e ∷ es) h = by (p e) (below-filter key p es (and_right _ _ h))
  where
    by : (b : Bool) → T (below_all key_cmp key (filter p es)) → T (below_all key_cmp key (cond b (e ∷ filter p es) (filter p es)))
    by true rest = and_both (is_lt (key_cmp key e.0)) (below_all key_cmp key (filter p es)) (and_left _ _ h) rest
    by false rest = rest

rising-filter-T : {X : Type 0} (p : Key × X → Bool) (rows : Rows X) → Rising rows → Rising (filter p rows)
rising-filter-T p [] h = tt
rising-filter-T p (e ∷ es) h = by (p e) (rising-filter-T p es (and_right _ _ h))
  where
    by : (b : Bool) → Rising (filter p es) → Rising (cond b (e ∷ filter p es) (filter p es))
    by true rest = and_both (below_all key_cmp e.0 (filter p es)) (is_rising (filter p es)) (below-filter e.0 p es (and_left _ _ h)) rest
    by false rest = rest

pub rising-filter : {X : Type 0} (p : Key × X → Bool) (rows : Rows X) → is_rising rows ≡ true → is_rising (filter p rows) ≡ true
rising-filter p rows h = truth (is_rising (filter p rows)) (rising-filter-T p rows (holds _ h))

pub rising-and : (old : Key × OldValue) (values : Rows OldValue) → is_rising values ≡ true → is_rising (and_value old values) ≡ true
rising-and old values h = by (is_some (row_at old.0 values))
  where
    by : (b : Bool) → is_rising (cond b values (put_row old.0 old.1 values)) ≡ true
    by true = h
    by false = truth (is_rising (put_row old.0 old.1 values)) (is_sorted-put key_cmp key_cmp_total old.0 old.1 values (holds _ h))

-- an old value is kept, or memory ran out
pub rising-kept : {A E : Type 0} (old : Key × OldValue) (values now : Rows OldValue) (r : Result A E) → is_rising values ≡ true → OnOk r (now ≡ and_value old values) → OnErr r (now ≡ values) → is_rising now ≡ true
rising-kept old values now (Ok x) h ok err = ap (λ (l : Rows OldValue). is_rising l) ok ∙ rising-and old values h
rising-kept old values now (Err e) h ok err = ap (λ (l : Rows OldValue). is_rising l) err ∙ h
