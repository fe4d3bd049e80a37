-- The union of two parts of a record set.
use Rattle.std.proofs.Common.{◌≡◌, Bool, true, false, cond, ◌||◌, [], ◌∷◌, Option, Some, None, Ordering, Less, Equal, Greater, refl, sym, ap, ◌∙◌}
use Rattle.std.specs.Ordering.{is_eq, is_lt}
use Rattle.std.specs.FinMap.Entries.{below_all}
use Rattle.rrset.specs.Records.{key_cmp, same_key}
use Rattle.rrset.specs.RecordSet.{RecordSet, is_in_order, only, put, union, shown_at}
use Rattle.rrset.specs.declared.record.Key.{Key}
use Rattle.rrset.specs.declared.record.Shown.{Shown}
use Rattle.rrset.proofs.Sets.{shown_at-only, shown_at-put}
use Rattle.rrset.proofs.SameRows.{same_key-same}
use Rattle.rrset.proofs.InOrder.{InOrder, in_order-only, in_order-union, same_sets}
use Rattle.zoneupdate.proofs.Filters.{and-left, and-right, is_true, holds}

less : (o : Ordering) → is_lt o ≡ true → is_eq o ≡ false
less Less e = refl
less Equal e = absurd cc
less Greater e = absurd cc

-- a key before all others isn't among them
shown_at-below : (q : Key) (set : RecordSet) → below_all key_cmp q set ≡ true → shown_at q set ≡ None
shown_at-below q [] h = refl
shown_at-below q (e ∷ es) h =
    ap (λ b. cond b (Some e.1) (shown_at q es)) (less (key_cmp q e.0) (and-left (is_lt (key_cmp q e.0)) (below_all key_cmp q es) h))
    ∙ shown_at-below q es (and-right (is_lt (key_cmp q e.0)) (below_all key_cmp q es) h)

abbrev pub or_else : Option Shown → Option Shown → Option Shown
or_else None other = other
or_else (Some shown) other = Some shown

pub shown_at-union : (q : Key) (first second : RecordSet) → InOrder second → shown_at q (union first second) ≡ or_else (shown_at q second) (shown_at q first)
shown_at-union q first [] h = refl
shown_at-union q first (e ∷ es) h =
    shown_at-union q (put e.0 e.1 first) es (holds _ (and-right (below_all key_cmp e.0 es) (is_in_order es) (is_true _ h)))
    ∙ ap (or_else (shown_at q es)) (shown_at-put q e.0 e.1 first)
    ∙ by (same_key q e.0) refl
  where
    by : (b : Bool) → same_key q e.0 ≡ b → or_else (shown_at q es) (cond b (Some e.1) (shown_at q first)) ≡ or_else (cond b (Some e.1) (shown_at q es)) (shown_at q first)
    by true same =
        ap (λ o. or_else o (Some e.1))
        (ap (λ k. shown_at k es) (same_key-same q e.0 same) ∙ shown_at-below e.0 es (and-left (below_all key_cmp e.0 es) (is_in_order es) (is_true _ h)))
    by false same = refl

pub union-parts : (p q : Key → Bool) (rows : RecordSet) → InOrder rows → union (only p rows) (only q rows) ≡ only (λ key. p key || q key) rows
union-parts p q rows h =
    same_sets (union (only p rows) (only q rows)) (only (λ key. p key || q key) rows)
    (in_order-union (only p rows) (only q rows) (in_order-only p rows h)) (in_order-only (λ key. p key || q key) rows h)
    (λ k. shown_at-union k (only p rows) (only q rows) (in_order-only q rows h)
    ∙ ap (λ o. or_else o (shown_at k (only p rows))) (shown_at-only q k rows)
    ∙ ap (or_else (cond (q k) (shown_at k rows) None)) (shown_at-only p k rows)
    ∙ by (p k) (q k) (shown_at k rows)
    ∙ sym (shown_at-only (λ key. p key || q key) k rows))
  where
    by : (a b : Bool) (o : Option Shown) → or_else (cond b o None) (cond a o None) ≡ cond (a || b) o None
    by true true None = refl
    by true true (Some s) = refl
    by true false o = refl
    by false true None = refl
    by false true (Some s) = refl
    by false false o = refl
