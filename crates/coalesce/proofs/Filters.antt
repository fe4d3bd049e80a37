-- The records of a set that pass a test of keys and what is shown: they are in order, and what is shown of them.
use Rattle.std.proofs.Common.{◌≡◌, Bool, true, false, cond, not, List, [], ◌∷◌, Option, Some, None, is_some, T, sym, ◌∙◌, ap, subst, refl}
use Rattle.std.specs.Prelude.{filter}
use Rattle.std.specs.List.{list_all, list_any}
use Rattle.std.specs.Ordering.{is_eq, is_lt}
use Rattle.std.specs.FinMap.Entries.{below_all}
use Rattle.std.specs.declared.cmp.Ordering.{Ordering}
use Rattle.std.specs.declared.cmp.Ordering.TheVariants.{Less, Equal, Greater}
use Rattle.std.proofs.lemmas.Bool.{and_from, and_parts, or_left, or_right}
use Rattle.rrset.specs.Records.{key_cmp, same_key}
use Rattle.rrset.specs.RecordSet.{RecordSet, only, without, shown_at, shows_its_key}
use Rattle.rrset.specs.declared.record.Key.{Key}
use Rattle.rrset.specs.declared.record.Shown.{Shown}
use Rattle.rrset.proofs.Sets.{shown_at-only}
use Rattle.rrset.proofs.InOrder.{InOrder}
use Rattle.rrset.proofs.SameRows.{same_key-same}

pub truth : (b : Bool) → T b → b ≡ true
truth true h = refl
truth false h = absurd h

pub holds : (b : Bool) → b ≡ true → T b
holds b e = subst T (sym e) tt

-- ---- lists

-- what holds of each record holds of each that stays
pub all-filter : {X : Type 0} (p test : X → Bool) (xs : List X) → list_all p xs ≡ true → list_all p (filter test xs) ≡ true
all-filter p test [] h = refl
all-filter p test (x ∷ xs) h = by (all-filter p test xs (and_parts (p x) (list_all p xs) h).1) (test x)
  where
    by : list_all p (filter test xs) ≡ true → (b : Bool) → list_all p (cond b (x ∷ filter test xs) (filter test xs)) ≡ true
    by rest true = and_from (p x) (list_all p (filter test xs)) (and_parts (p x) (list_all p xs) h).0 rest
    by rest false = rest

-- what follows from a test of each record
pub all_weaker : {X : Type 0} (p r : X → Bool) → ((x : X) → p x ≡ true → r x ≡ true) → (xs : List X) → list_all p xs ≡ true → list_all r xs ≡ true
all_weaker p r weaker [] h = refl
all_weaker p r weaker (x ∷ xs) h =
    let parts = and_parts (p x) (list_all p xs) h in
    and_from (r x) (list_all r xs) (weaker x parts.0) (all_weaker p r weaker xs parts.1)

pub own-only : (p : Key → Bool) (set : RecordSet) → list_all shows_its_key set ≡ true → list_all shows_its_key (only p set) ≡ true
own-only p set h = all-filter shows_its_key (λ e. p e.0) set h

-- ---- order

below-filter : (q : Key) (test : Key × Shown → Bool) (set : RecordSet) → T (below_all key_cmp q set) → T (below_all key_cmp q (filter test set))
below-filter q test [] h = tt
below-filter q test (e ∷ es) h = by (below-filter q test es (holds _ (and_parts _ _ (truth _ h)).1)) (test e)
  where
    by : T (below_all key_cmp q (filter test es)) → (b : Bool) → T (below_all key_cmp q (cond b (e ∷ filter test es) (filter test es)))
    by rest true = holds _ (and_from _ _ (and_parts _ _ (truth _ h)).0 (truth _ rest))
    by rest false = rest

pub in_order-filter : (test : Key × Shown → Bool) (set : RecordSet) → InOrder set → InOrder (filter test set)
in_order-filter test [] h = tt
in_order-filter test (e ∷ es) h = by (in_order-filter test es (holds _ (and_parts _ _ (truth _ h)).1)) (test e)
  where
    by : InOrder (filter test es) → (b : Bool) → InOrder (cond b (e ∷ filter test es) (filter test es))
    by rest true = holds _ (and_from _ _ (truth _ (below-filter e.0 test es (holds _ (and_parts _ _ (truth _ h)).0))) (truth _ rest))
    by rest false = rest

-- ---- what is shown

pub shown_at-without : (p : Key → Bool) (q : Key) (set : RecordSet) → shown_at q (without p set) ≡ cond (p q) None (shown_at q set)
shown_at-without p q set = shown_at-only (λ key. not (p key)) q set ∙ by (p q)
  where
    by : (b : Bool) → cond (not b) (shown_at q set) None ≡ cond b None (shown_at q set)
    by true = refl
    by false = refl

-- a key below all keys of a set is not shown
pub shown_at-below : (q : Key) (set : RecordSet) → T (below_all key_cmp q set) → shown_at q set ≡ None
shown_at-below q [] h = refl
shown_at-below q (e ∷ es) h = by (shown_at-below q es (holds _ (and_parts _ _ (truth _ h)).1)) (key_cmp q e.0) (and_parts _ _ (truth _ h)).0
  where
    by : shown_at q es ≡ None → (o : Ordering) → is_lt o ≡ true → cond (is_eq o) (Some e.1) (shown_at q es) ≡ None
    by rest Less t = rest
    by rest Equal t = cc
    by rest Greater t = cc

-- what is kept of a record that a test is asked of
abbrev pub kept : (Key × Shown → Bool) → Key → Option Shown → Option Shown
kept test q None = None
kept test q (Some s) = cond (test (q, s)) (Some s) None

pub shown_at-filter : (test : Key × Shown → Bool) (q : Key) (set : RecordSet) → InOrder set → shown_at q (filter test set) ≡ kept test q (shown_at q set)
shown_at-filter test q [] h = refl
shown_at-filter test q (e ∷ es) h = by (shown_at-filter test q es (holds _ (and_parts _ _ (truth _ h)).1)) (same_key q e.0) refl (test e) refl
  where
    below : T (below_all key_cmp e.0 es)
    below = holds _ (and_parts _ _ (truth _ h)).0

    by : shown_at q (filter test es) ≡ kept test q (shown_at q es) → (b : Bool) → same_key q e.0 ≡ b → (c : Bool) → test e ≡ c → shown_at q (cond c (e ∷ filter test es) (filter test es)) ≡ kept test q (cond b (Some e.1) (shown_at q es))
    by rest true s true t = ap (λ b. cond b (Some e.1) (shown_at q (filter test es))) s ∙ sym (ap (λ b. cond b (Some e.1) None) (ap (λ k. test (k, e.1)) (same_key-same q e.0 s) ∙ t))
    by rest true s false t =
        rest ∙ ap (kept test q) (ap (λ k. shown_at k es) (same_key-same q e.0 s) ∙ shown_at-below e.0 es below)
        ∙ sym (ap (λ b. cond b (Some e.1) None) (ap (λ k. test (k, e.1)) (same_key-same q e.0 s) ∙ t))
    by rest false s true t = ap (λ b. cond b (Some e.1) (shown_at q (filter test es))) s ∙ rest
    by rest false s false t = rest

-- what holds of each record holds of what is shown of a key
pub all_shown : (p : Key × Shown → Bool) (k : Key) (x : Shown) (set : RecordSet) → list_all p set ≡ true → shown_at k set ≡ Some x → p (k, x) ≡ true
all_shown p k x [] h e = cc
all_shown p k x (f ∷ fs) h e = by (all_shown p k x fs parts.1) (same_key k f.0) refl e
  where
    parts : (p f ≡ true) × (list_all p fs ≡ true)
    parts = and_parts (p f) (list_all p fs) h

    value : (y : Shown) → Some y ≡ Some x → y ≡ x
    value y e = cc

    by : (shown_at k fs ≡ Some x → p (k, x) ≡ true) → (b : Bool) → same_key k f.0 ≡ b → cond b (Some f.1) (shown_at k fs) ≡ Some x → p (k, x) ≡ true
    by later true s e = ap (λ key. p (key, x)) (same_key-same k f.0 s) ∙ ap (λ y. p (f.0, y)) (sym (value f.1 e)) ∙ parts.0
    by later false s e = later e

-- a test that holds of a key that is shown, whatever is shown of it, holds of some record
pub any_shown : (p : Key × Shown → Bool) (k : Key) (set : RecordSet) → ((x : Shown) → p (k, x) ≡ true) → is_some (shown_at k set) ≡ true → list_any p set ≡ true
any_shown p k [] h e = cc
any_shown p k (f ∷ fs) h e = by (any_shown p k fs h) (same_key k f.0) refl e
  where
    by : (is_some (shown_at k fs) ≡ true → list_any p fs ≡ true) → (b : Bool) → same_key k f.0 ≡ b → is_some (cond b (Some f.1) (shown_at k fs)) ≡ true → list_any p (f ∷ fs) ≡ true
    by later true s e = or_left (p f) (list_any p fs) (sym (ap (λ key. p (key, f.1)) (same_key-same k f.0 s)) ∙ h f.1)
    by later false s e = or_right (p f) (list_any p fs) (later e)
