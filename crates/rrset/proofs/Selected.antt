-- The part of a record set whose keys pass a test, where the set was put together from records or from two sets.
use Rattle.std.proofs.Common.{◌≡◌, ◌+◌, Bool, true, false, cond, not, List, [], ◌∷◌, length, Option, Some, None, refl, sym, ap, ◌∙◌, true≢false, arith}
use Rattle.std.specs.Prelude.{fold, filter}
use Rattle.rrset.specs.RecordSet.{RecordSet, only, put, union, put_rr, set_of, shown_at}
use Rattle.rrset.specs.Records.{key_cmp, key_of, shown_of, same_key}
use Rattle.rrset.specs.declared.record.Rr.{Rr}
use Rattle.rrset.specs.declared.record.Key.{Key}
use Rattle.rrset.specs.declared.record.Shown.{Shown}
use Rattle.rrset.proofs.Sets.{alike, shown_at-only, shown_at-put, is_eq-Equal}
use Rattle.rrset.proofs.InOrder.{InOrder, in_order-put, in_order-only, same_sets}

-- keys that are one pass alike
pub pass_alike : (p : Key → Bool) (q k : Key) → same_key q k ≡ true → p q ≡ p k
pass_alike p q k e = sym (alike p q k (is_eq-Equal (key_cmp q k) e))

-- ---- one record

pub only-put-passed : (p : Key → Bool) (k : Key) (s : Shown) (set : RecordSet) → InOrder set → p k ≡ true → only p (put k s set) ≡ put k s (only p set)
only-put-passed p k s set h passes =
    same_sets (only p (put k s set)) (put k s (only p set)) (in_order-only p (put k s set) (in_order-put k s set h)) (in_order-put k s (only p set) (in_order-only p set h))
    (λ q. shown_at-only p q (put k s set) ∙ ap (λ o. cond (p q) o None) (shown_at-put q k s set)
    ∙ by (same_key q k) (p q) (λ e. pass_alike p q k e ∙ passes) (shown_at q set)
    ∙ sym (shown_at-put q k s (only p set) ∙ ap (λ o. cond (same_key q k) (Some s) o) (shown_at-only p q set)))
  where
    by : (t b : Bool) → (t ≡ true → b ≡ true) → (o : Option Shown) → cond b (cond t (Some s) o) None ≡ cond t (Some s) (cond b o None)
    by true true e o = refl
    by true false e o = absurd (true≢false (sym (e refl)))
    by false b e o = refl

pub only-put-failed : (p : Key → Bool) (k : Key) (s : Shown) (set : RecordSet) → InOrder set → p k ≡ false → only p (put k s set) ≡ only p set
only-put-failed p k s set h fails =
    same_sets (only p (put k s set)) (only p set) (in_order-only p (put k s set) (in_order-put k s set h)) (in_order-only p set h)
    (λ q. shown_at-only p q (put k s set) ∙ ap (λ o. cond (p q) o None) (shown_at-put q k s set)
    ∙ by (same_key q k) (p q) (λ e. pass_alike p q k e ∙ fails) (shown_at q set)
    ∙ sym (shown_at-only p q set))
  where
    by : (t b : Bool) → (t ≡ true → b ≡ false) → (o : Option Shown) → cond b (cond t (Some s) o) None ≡ cond b o None
    by true true e o = absurd (true≢false (e refl))
    by true false e o = refl
    by false b e o = refl

-- ---- many records

-- the second of the two may be in any order
pub only-union : (p : Key → Bool) (first second : RecordSet) → InOrder first → only p (union first second) ≡ union (only p first) (only p second)
only-union p first [] h = refl
only-union p first (e ∷ es) h = only-union p (put e.0 e.1 first) es (in_order-put e.0 e.1 first h) ∙ by (p e.0) refl
  where
    by : (b : Bool) → p e.0 ≡ b → union (only p (put e.0 e.1 first)) (only p es) ≡ union (only p first) (cond b (e ∷ only p es) (only p es))
    by true passes = ap (λ set. union set (only p es)) (only-put-passed p e.0 e.1 first h passes)
    by false fails = ap (λ set. union set (only p es)) (only-put-failed p e.0 e.1 first h fails)

abbrev pub rrs_of : (Key → Bool) → List Rr → List Rr
rrs_of p rrs = filter (λ rr. p (key_of rr)) rrs

pub only-put_rrs : (p : Key → Bool) (set : RecordSet) (rrs : List Rr) → InOrder set → only p (fold put_rr set rrs) ≡ fold put_rr (only p set) (rrs_of p rrs)
only-put_rrs p set [] h = refl
only-put_rrs p set (rr ∷ rrs) h = only-put_rrs p (put_rr set rr) rrs (in_order-put (key_of rr) (shown_of rr) set h) ∙ by (p (key_of rr)) refl
  where
    by : (b : Bool) → p (key_of rr) ≡ b → fold put_rr (only p (put_rr set rr)) (rrs_of p rrs) ≡ fold put_rr (only p set) (cond b (rr ∷ rrs_of p rrs) (rrs_of p rrs))
    by true passes = ap (λ x. fold put_rr x (rrs_of p rrs)) (only-put-passed p (key_of rr) (shown_of rr) set h passes)
    by false fails = ap (λ x. fold put_rr x (rrs_of p rrs)) (only-put-failed p (key_of rr) (shown_of rr) set h fails)

pub only-set_of : (p : Key → Bool) (rrs : List Rr) → only p (set_of rrs) ≡ set_of (rrs_of p rrs)
only-set_of p rrs = only-put_rrs p [] rrs tt

-- ---- the two parts of a set

abbrev pub fails : (Key → Bool) → Key → Bool
fails p key = not (p key)

pub length-parts : (p : Key → Bool) (set : RecordSet) → length (only p set) + length (only (fails p) set) ≡ length set
length-parts p [] = refl
length-parts p (e ∷ es) = by (p e.0) (length-parts p es)
  where
    by : (b : Bool) → length (only p es) + length (only (fails p) es) ≡ length es
        → length (cond b (e ∷ only p es) (only p es)) + length (cond (not b) (e ∷ only (fails p) es) (only (fails p) es)) ≡ length (e ∷ es)
    by true h = omega arith
    by false h = omega arith
