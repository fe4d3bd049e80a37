-- Old values: each key keeps what it showed before its first change, so that an entry leaves what a set was, as a test of keys sees it.
--     told q values o      what is told of a key by old values, where it is shown so now
--     keep, keep_all      a key keeps its value; the keys of changes do
--     entered_keeps      behind an entry the old values, with those of its changes, lead from the new set to what the others led to from the old one
use Rattle.std.proofs.Common.{◌≡◌, Bool, true, false, cond, not, List, [], ◌∷◌, map, filter, fold, Option, Some, None, is_some, refl, sym, ap, ◌∙◌, subst, T}
use Rattle.std.specs.declared.cmp.Ordering.{Ordering}
use Rattle.std.specs.declared.cmp.Ordering.TheVariants.{Less, Equal, Greater}
use Rattle.std.specs.Ordering.{is_eq}
use Rattle.std.specs.FinMap.Entries.{by_order}
use Rattle.rrset.specs.KeyedRows.{Rows, row_at, put_row}
use Rattle.rrset.specs.RecordSet.{RecordSet, only, without, put, union, shown_at, shown_the_same, changes, with_value, with_values}
use Rattle.rrset.specs.Records.{key_cmp, same_key}
use Rattle.rrset.specs.declared.record.Key.{Key}
use Rattle.rrset.specs.declared.record.Shown.{Shown}
use Rattle.rrset.specs.declared.record.Changed.{Changed}
use Rattle.rrset.proofs.Sets.{shown_at-put, only_same, among_keys, unchanged}
use Rattle.rrset.proofs.InOrder.{InOrder, in_order-put, in_order-without}
use Rattle.rrset.proofs.SameRows.{same_key-self, same_key-same}
use Rattle.rrset.proofs.WithChanges.{shown_at-without, change_at}

abbrev pub Values : Type 0
Values = Rows (Option Shown)

abbrev pub told : Key → Values → Option Shown → Option Shown
told q [] o = o
told q (e ∷ es) o = told q es (cond (same_key q e.0) e.1 o)

-- ---- a set with old values

pub shown_at-with_value : (q : Key) (set : RecordSet) (key : Key) (value : Option Shown) → shown_at q (with_value set (key, value)) ≡ cond (same_key q key) value (shown_at q set)
shown_at-with_value q set key None = shown_at-without q key set
shown_at-with_value q set key (Some shown) = shown_at-put q key shown set

pub shown_at-with_values : (q : Key) (values : Values) (set : RecordSet) → shown_at q (with_values values set) ≡ told q values (shown_at q set)
shown_at-with_values q [] set = refl
shown_at-with_values q (e ∷ es) set = shown_at-with_values q es (with_value set e) ∙ ap (told q es) (shown_at-with_value q set e.0 e.1)

in_order-with_value : (set : RecordSet) (key : Key) (value : Option Shown) → InOrder set → InOrder (with_value set (key, value))
in_order-with_value set key None h = in_order-without (same_key key) set h
in_order-with_value set key (Some shown) h = in_order-put key shown set h

pub in_order-with_values : (values : Values) (set : RecordSet) → InOrder set → InOrder (with_values values set)
in_order-with_values [] set h = h
in_order-with_values (e ∷ es) set h = in_order-with_values es (with_value set e) (in_order-with_value set e.0 e.1 h)

-- ---- what is told of a key with an old value doesn't depend on what is shown now

told-some : (q : Key) (values : Values) (a b : Option Shown) → is_some (row_at q values) ≡ true → told q values a ≡ told q values b
told-some q [] a b some = absurd cc
told-some q (e ∷ es) a b some = by (same_key q e.0) (told-some q es a b) some
  where
    by : (t : Bool) → (is_some (row_at q es) ≡ true → told q es a ≡ told q es b) → is_some (cond t (Some e.1) (row_at q es)) ≡ true → told q es (cond t e.1 a) ≡ told q es (cond t e.1 b)
    by true rest some = refl
    by false rest some = rest some

-- ---- a key keeps its value

abbrev pub keep : Key → Option Shown → Values → Values
keep key value values = cond (is_some (row_at key values)) values (put_row key value values)

not-both : (q k x : Key) → same_key q k ≡ true → same_key q x ≡ true → key_cmp k x ≡ Greater → false ≡ true
not-both q k x a b greater =
    let one : k ≡ x = sym (same_key-same q k a) ∙ same_key-same q x b in
    let ties : same_key k x ≡ true = ap (λ y. same_key y x) one ∙ same_key-self x in
    sym (ap is_eq greater) ∙ ties

told-put : (q k : Key) (v : Option Shown) (values : Values) (o : Option Shown) → is_some (row_at k values) ≡ false → told q (put_row k v values) o ≡ told q values (cond (same_key q k) v o)
told-put q k v [] o none = refl
told-put q k v (e ∷ es) o none = by (key_cmp k e.0) refl none (told-put q k v es (cond (same_key q e.0) e.1 o))
  where
    swaps : (a b : Bool) → same_key q k ≡ a → same_key q e.0 ≡ b → key_cmp k e.0 ≡ Greater → cond a v (cond b e.1 o) ≡ cond b e.1 (cond a v o)
    swaps true true a b greater = let wrong : false ≡ true = not-both q k e.0 a b greater in absurd cc
    swaps true false a b greater = refl
    swaps false true a b greater = refl
    swaps false false a b greater = refl

    by : (order : Ordering) → key_cmp k e.0 ≡ order → is_some (cond (is_eq order) (Some e.1) (row_at k es)) ≡ false
        → (is_some (row_at k es) ≡ false → told q (put_row k v es) (cond (same_key q e.0) e.1 o) ≡ told q es (cond (same_key q k) v (cond (same_key q e.0) e.1 o)))
        → told q (by_order order ((k, v) ∷ e ∷ es) ((e.0, v) ∷ es) (e ∷ put_row k v es)) o ≡ told q es (cond (same_key q e.0) e.1 (cond (same_key q k) v o))
    by Less is none rest = refl
    by Equal is none rest = absurd cc
    by Greater is none rest = rest none ∙ ap (told q es) (swaps (same_key q k) (same_key q e.0) refl refl is)

pub keep-told : (q k : Key) (v : Option Shown) (values : Values) (o : Option Shown) → told q (keep k v values) o ≡ told q values (cond (same_key q k) v o)
keep-told q k v values o = by (is_some (row_at k values)) refl
  where
    there : (t : Bool) → same_key q k ≡ t → is_some (row_at k values) ≡ true → told q values o ≡ told q values (cond t v o)
    there true same some = told-some q values o v (ap (λ x. is_some (row_at x values)) (same_key-same q k same) ∙ some)
    there false same some = refl

    by : (b : Bool) → is_some (row_at k values) ≡ b → told q (cond b values (put_row k v values)) o ≡ told q values (cond (same_key q k) v o)
    by true some = there (same_key q k) refl some
    by false none = told-put q k v values o none

abbrev pub keep_all : List Changed → Values → Values
keep_all cs values = fold (λ vs c. keep c.key c.before vs) values cs

-- the first of several changes of a key tells what it showed before
abbrev pub first_before : Key → List Changed → Option Shown → Option Shown
first_before q [] o = o
first_before q (c ∷ cs) o = cond (same_key q c.key) c.before (first_before q cs o)

pub keep_all-told : (q : Key) (cs : List Changed) (values : Values) (o : Option Shown) → told q (keep_all cs values) o ≡ told q values (first_before q cs o)
keep_all-told q [] values o = refl
keep_all-told q (c ∷ cs) values o = keep_all-told q cs (keep c.key c.before values) o ∙ keep-told q c.key c.before values (first_before q cs o)

-- ---- an entry

first-in : (q : Key) (old new es : RecordSet) (o : Option Shown) → first_before q (map (change_at old new) es) o ≡ cond (is_some (shown_at q es)) (shown_at q old) o
first-in q old new [] o = refl
first-in q old new (e ∷ es) o = ap (λ x. cond (same_key q e.0) (shown_at e.0 old) x) (first-in q old new es o) ∙ by (same_key q e.0) refl
  where
    by : (t : Bool) → same_key q e.0 ≡ t → cond t (shown_at e.0 old) (cond (is_some (shown_at q es)) (shown_at q old) o) ≡ cond (is_some (cond t (Some e.1) (shown_at q es))) (shown_at q old) o
    by true is = ap (λ k. shown_at k old) (sym (same_key-same q e.0 is))
    by false is = refl

pub first-changes : (q : Key) (old new : RecordSet) → first_before q (changes old new) (shown_at q new) ≡ shown_at q old
first-changes q old new = first-in q old new listed (shown_at q new) ∙ by (is_some (shown_at q listed)) refl
  where
    listed : RecordSet
    listed = only (λ key. not (shown_the_same (shown_at key old) (shown_at key new))) (union old new)

    by : (b : Bool) → is_some (shown_at q listed) ≡ b → cond b (shown_at q old) (shown_at q new) ≡ shown_at q old
    by true e = refl
    by false e = sym (unchanged q old new (among_keys q (change_at old new) (λ x. refl) listed ∙ e))

-- changes of keys that the test lets through, for a key that it lets through
pub first-filter : (p : Key → Bool) (q : Key) → p q ≡ true → (cs : List Changed) (o : Option Shown) → first_before q (filter (λ c. p c.key) cs) o ≡ first_before q cs o
first-filter p q pass [] o = refl
first-filter p q pass (c ∷ cs) o = by (p c.key) refl (first-filter p q pass cs o)
  where
    missed : (t : Bool) → same_key q c.key ≡ t → p c.key ≡ false → first_before q cs o ≡ cond t c.before (first_before q cs o)
    missed true same fails = let wrong : true ≡ false = sym pass ∙ ap p (same_key-same q c.key same) ∙ fails in absurd cc
    missed false same fails = refl

    by : (b : Bool) → p c.key ≡ b → first_before q (filter (λ c. p c.key) cs) o ≡ first_before q cs o
        → first_before q (cond b (c ∷ filter (λ c. p c.key) cs) (filter (λ c. p c.key) cs)) o ≡ cond (same_key q c.key) c.before (first_before q cs o)
    by true is rest = ap (λ x. cond (same_key q c.key) c.before x) rest
    by false is rest = rest ∙ missed (same_key q c.key) refl is

-- The invariant of old values goes through an entry: `p` is what the session's questions ask for; changes of other keys needn't be kept.
pub entered_keeps : (p : Key → Bool) (values : Values) (old new : RecordSet) → InOrder old → InOrder new
    → only p (with_values (keep_all (filter (λ c. p c.key) (changes old new)) values) new) ≡ only p (with_values values old)
entered_keeps p values old new h g =
    only_same p (with_values kept new) (with_values values old) (in_order-with_values kept new g) (in_order-with_values values old h) (λ q pass.
    shown_at-with_values q kept new
    ∙ keep_all-told q (filter (λ c. p c.key) (changes old new)) values (shown_at q new)
    ∙ ap (told q values) (first-filter p q pass (changes old new) (shown_at q new) ∙ first-changes q old new)
    ∙ sym (shown_at-with_values q values old))
  where
    kept : Values
    kept = keep_all (filter (λ c. p c.key) (changes old new)) values
