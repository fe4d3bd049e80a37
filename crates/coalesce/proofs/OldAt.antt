-- What is shown of a key among rows with old values in their place.
use Rattle.std.proofs.Common.{◌≡◌, Bool, true, false, cond, T, [], ◌∷◌, Option, Some, None, refl, sym, ap, subst, ◌∙◌}
use Rattle.std.specs.Prelude.{option_map}
use Rattle.std.specs.Ordering.{is_eq}
use Rattle.std.specs.FinMap.Entries.{below_all}
use Rattle.std.specs.declared.cmp.Ordering.{Ordering}
use Rattle.rrset.specs.Records.{key_cmp, same_key}
use Rattle.rrset.specs.KeyedRows.{Rows, is_rising, row_at}
use Rattle.rrset.specs.RecordSet.{RecordSet, with_value, with_values, shown_at}
use Rattle.rrset.specs.declared.record.Key.{Key}
use Rattle.rrset.specs.declared.record.Shown.{Shown}
use Rattle.rrset.proofs.OldValues.{Values, shown_at-with_value}
use Rattle.rrset.proofs.SameRows.{same_key-same}
use Rattle.rrset.proofs.Places.{and_left, and_right}
use Rattle.coalesce.specs.Waiting.{OldValue, values_of}
use Rattle.coalesce.proofs.Merging.{Rising, less, rising-values}

-- what an old value leaves to be shown
abbrev pub shown_by : Option (Option Shown) → Option Shown → Option Shown
shown_by None now = now
shown_by (Some before) now = before

-- values of other keys show what was there
others-show : (q : Key) (values : Values) (set : RecordSet) → T (below_all key_cmp q values) → shown_at q (with_values values set) ≡ shown_at q set
others-show q [] set h = refl
others-show q (v ∷ vs) set h =
    others-show q vs (with_value set v) (and_right _ _ h)
    ∙ shown_at-with_value q set v.0 v.1
    ∙ ap (λ (o : Ordering). cond (is_eq o) v.1 (shown_at q set)) (less (key_cmp q v.0) (and_left _ _ h))

pub shown_at-old : (q : Key) (values : Values) (set : RecordSet) → Rising values → shown_at q (with_values values set) ≡ shown_by (row_at q values) (shown_at q set)
shown_at-old q [] set h = refl
shown_at-old q (v ∷ vs) set h = by (same_key q v.0) refl (shown_at-old q vs (with_value set v) (and_right _ _ h))
  where
    by : (b : Bool) → same_key q v.0 ≡ b → shown_at q (with_values vs (with_value set v)) ≡ shown_by (row_at q vs) (shown_at q (with_value set v))
        → shown_at q (with_values vs (with_value set v)) ≡ shown_by (cond (same_key q v.0) (Some v.1) (row_at q vs)) (shown_at q set)
    by true same rest =
        others-show q vs (with_value set v) (subst (λ k. T (below_all key_cmp k vs)) (sym (same_key-same q v.0 same)) (and_left _ _ h))
        ∙ shown_at-with_value q set v.0 v.1
        ∙ ap (λ (b : Bool). cond b v.1 (shown_at q set)) same
        ∙ sym (ap (λ (b : Bool). shown_by (cond b (Some v.1) (row_at q vs)) (shown_at q set)) same)
    by false other rest =
        rest
        ∙ ap (shown_by (row_at q vs)) (shown_at-with_value q set v.0 v.1 ∙ ap (λ (b : Bool). cond b v.1 (shown_at q set)) other)
        ∙ sym (ap (λ (b : Bool). shown_by (cond b (Some v.1) (row_at q vs)) (shown_at q set)) other)

-- of old values with their points
row_at-values : (q : Key) (old : Rows OldValue) → row_at q (values_of old) ≡ option_map (λ (v : OldValue). v.before) (row_at q old)
row_at-values q [] = refl
row_at-values q (e ∷ es) = by (same_key q e.0) (row_at-values q es)
  where
    by : (b : Bool) → row_at q (values_of es) ≡ option_map (λ (v : OldValue). v.before) (row_at q es)
        → cond b (Some e.1.before) (row_at q (values_of es)) ≡ option_map (λ (v : OldValue). v.before) (cond b (Some e.1) (row_at q es))
    by true rest = refl
    by false rest = rest

pub shown_before-is : (q : Key) (old : Rows OldValue) (set : RecordSet) → is_rising old ≡ true
    → shown_at q (with_values (values_of old) set) ≡ shown_by (option_map (λ (v : OldValue). v.before) (row_at q old)) (shown_at q set)
shown_before-is q old set h =
    shown_at-old q (values_of old) set (subst T (sym (rising-values old ∙ h)) tt)
    ∙ ap (λ (o : Option (Option Shown)). shown_by o (shown_at q set)) (row_at-values q old)
