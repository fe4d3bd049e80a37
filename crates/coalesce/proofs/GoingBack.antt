-- What is kept at a point goes when the names keep what was kept before it, and all that was older stays.
use Rattle.std.proofs.Common.{◌≡◌, ◌∙◌, ℕ, ◌<◌, Bool, true, false, cond, List, [], ◌∷◌, map, Some, is_some, refl, ap, arith}
use Rattle.std.specs.Prelude.{nat_lt, filter, fold, if◌then◌else◌}
use Rattle.std.specs.List.{AllByRecursion}
use Rattle.std.proofs.lemmas.Bool.{lt-ltb, le-ltb}
use Rattle.std.specs.declared.cmp.Ordering.{Ordering}
use Rattle.std.specs.declared.cmp.Ordering.TheVariants.{Less, Equal, Greater}
use Rattle.std.specs.Ordering.{is_eq}
use Rattle.std.specs.FinMap.Entries.{by_order}
use Rattle.rrset.specs.KeyedRows.{Rows, row_at, put_row}
use Rattle.rrset.specs.Records.{key_cmp}
use Rattle.rrset.specs.declared.record.Key.{Key}
use Rattle.rrset.specs.declared.record.Changed.{Changed}
use Rattle.coalesce.specs.Waiting.{WaitingName, OldValue, IsOlder, old_value, with_old, is_named, before_point, old_before}

not_before : (point : ℕ) → nat_lt point point ≡ false
not_before point = le-ltb point point (omega arith)

-- a value that is kept at a point, of a key that had none, goes
value_goes : (key : Key) (v : OldValue) (values : Rows OldValue) → is_some (row_at key values) ≡ false → filter (λ e. nat_lt e.1.point v.point) (put_row key v values) ≡ filter (λ e. nat_lt e.1.point v.point) values
value_goes key v [] none = ap (λ (b : Bool). cond b ((key, v) ∷ []) []) (not_before v.point)
value_goes key v (e ∷ es) none = by (key_cmp key e.0) none (value_goes key v es)
  where
    by : (order : Ordering) → is_some (cond (is_eq order) (Some e.1) (row_at key es)) ≡ false → (is_some (row_at key es) ≡ false → filter (λ d. nat_lt d.1.point v.point) (put_row key v es) ≡ filter (λ d. nat_lt d.1.point v.point) es)
        → filter (λ d. nat_lt d.1.point v.point) (by_order order ((key, v) ∷ e ∷ es) ((e.0, v) ∷ es) (e ∷ put_row key v es)) ≡ filter (λ d. nat_lt d.1.point v.point) (e ∷ es)
    by Less none rest = ap (λ (b : Bool). cond b ((key, v) ∷ filter (λ d. nat_lt d.1.point v.point) (e ∷ es)) (filter (λ d. nat_lt d.1.point v.point) (e ∷ es))) (not_before v.point)
    by Equal none rest = absurd cc
    by Greater none rest = ap (λ (l : Rows OldValue). cond (nat_lt e.1.point v.point) (e ∷ l) l) (rest none)

values_go : (point : ℕ) (c : Changed) (values : Rows OldValue) → filter (λ e. nat_lt e.1.point point) (if is_some (row_at c.key values) then values else put_row c.key (old_value point c) values) ≡ filter (λ e. nat_lt e.1.point point) values
values_go point c values = by (is_some (row_at c.key values)) refl
  where
    by : (b : Bool) → is_some (row_at c.key values) ≡ b → filter (λ e. nat_lt e.1.point point) (cond b values (put_row c.key (old_value point c) values)) ≡ filter (λ e. nat_lt e.1.point point) values
    by true is = refl
    by false is = value_goes c.key (old_value point c) values is

pub change_goes : (point : ℕ) (queue : List WaitingName) (c : Changed) → before_point point (with_old point queue c) ≡ before_point point queue
change_goes point [] c = ap (λ (b : Bool). map (old_before point) (cond b ((record { name = c.key.owner; point = point; values = (c.key, old_value point c) ∷ [] }) ∷ []) [])) (not_before point)
change_goes point (w ∷ ws) c = by (is_named c.key.owner w) (change_goes point ws c)
  where
    kept : WaitingName
    kept = record w { values = if is_some (row_at c.key w.values) then w.values else put_row c.key (old_value point c) w.values }

    here : (b : Bool) → map (old_before point) (cond b (kept ∷ filter (λ v. nat_lt v.point point) ws) (filter (λ v. nat_lt v.point point) ws)) ≡ map (old_before point) (cond b (w ∷ filter (λ v. nat_lt v.point point) ws) (filter (λ v. nat_lt v.point point) ws))
    here true = ap (λ (values : Rows OldValue). (record w { values = values }) ∷ before_point point ws) (values_go point c w.values)
    here false = refl

    there : (b : Bool) → before_point point (with_old point ws c) ≡ before_point point ws
        → map (old_before point) (cond b (w ∷ filter (λ v. nat_lt v.point point) (with_old point ws c)) (filter (λ v. nat_lt v.point point) (with_old point ws c))) ≡ map (old_before point) (cond b (w ∷ filter (λ v. nat_lt v.point point) ws) (filter (λ v. nat_lt v.point point) ws))
    there true rest = ap (λ (l : List WaitingName). old_before point w ∷ l) rest
    there false rest = rest

    by : (b : Bool) → before_point point (with_old point ws c) ≡ before_point point ws → before_point point (cond b (kept ∷ ws) (w ∷ with_old point ws c)) ≡ before_point point (w ∷ ws)
    by true rest = here (nat_lt w.point point)
    by false rest = there (nat_lt w.point point) rest

pub changes_go : (point : ℕ) (changed : List Changed) (queue : List WaitingName) → before_point point (fold (with_old point) queue changed) ≡ before_point point queue
changes_go point [] queue = refl
changes_go point (c ∷ changed) queue = changes_go point changed (with_old point queue c) ∙ change_goes point queue c

older_values : (point : ℕ) (values : Rows OldValue) → AllByRecursion (λ e. e.1.point < point) values → filter (λ e. nat_lt e.1.point point) values ≡ values
older_values point [] older = refl
older_values point (e ∷ es) older =
    ap (λ (b : Bool). cond b (e ∷ filter (λ d. nat_lt d.1.point point) es) (filter (λ d. nat_lt d.1.point point) es)) (lt-ltb e.1.point point older.0) ∙ ap (λ (l : Rows OldValue). e ∷ l) (older_values point es older.1)

pub older_stay : (point : ℕ) (queue : List WaitingName) → AllByRecursion (IsOlder point) queue → before_point point queue ≡ queue
older_stay point [] older = refl
older_stay point (w ∷ ws) older =
    ap (λ (b : Bool). map (old_before point) (cond b (w ∷ filter (λ v. nat_lt v.point point) ws) (filter (λ v. nat_lt v.point point) ws))) (lt-ltb w.point point older.0.0)
    ∙ (λ i. (record w { values = older_values point w.values older.0.1 i }) ∷ older_stay point ws older.1 i)
