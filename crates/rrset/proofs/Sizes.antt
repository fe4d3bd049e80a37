-- How large sets become, and how many keys they have, whatever their order.
use Rattle.std.proofs.Common.{◌≡◌, ◌≤◌, ℕ, ◌+◌, Bool, true, false, cond, [], ◌∷◌, length, refl, ap, Ordering, Less, Equal, Greater, arith}
use Rattle.std.specs.FinMap.Entries.{by_order}
use Rattle.std.proofs.lemmas.List.Sums.{sum_by-cons}
use Rattle.rrset.specs.RecordSet.{RecordSet, only, put, union, size_of}
use Rattle.rrset.specs.Records.{key_cmp, rr_of, rr_size}
use Rattle.rrset.specs.declared.record.Key.{Key}
use Rattle.rrset.specs.declared.record.Shown.{Shown}
use Rattle.rrset.proofs.Sets.{alike}

-- the size of a record, where its key passes
abbrev pub size_if : (Key → Bool) → Key → Shown → ℕ
size_if p key shown = cond (p key) (rr_size (rr_of key shown)) 0

pub size_of-cons : (e : Key × Shown) (es : RecordSet) → size_of (e ∷ es) ≡ rr_size (rr_of e.0 e.1) + size_of es
size_of-cons e es = sum_by-cons (λ (x : Key × Shown). rr_size (rr_of x.0 x.1)) e es

pub size_of-only-cons : (p : Key → Bool) (e : Key × Shown) (es : RecordSet) → size_of (only p (e ∷ es)) ≡ size_if p e.0 e.1 + size_of (only p es)
size_of-only-cons p e es = by (p e.0)
  where
    by : (b : Bool) → size_of (cond b (e ∷ only p es) (only p es)) ≡ cond b (rr_size (rr_of e.0 e.1)) 0 + size_of (only p es)
    by true = size_of-cons e (only p es)
    by false = omega arith

pub size_of-only-put : (p : Key → Bool) (key : Key) (shown : Shown) (set : RecordSet) → size_of (only p (put key shown set)) ≤ size_of (only p set) + size_if p key shown
size_of-only-put p key shown [] = let first = size_of-only-cons p (key, shown) [] in omega arith
size_of-only-put p key shown (e ∷ es) = by (key_cmp key e.0) refl (size_of-only-put p key shown es)
  where
    by : (o : Ordering) → key_cmp key e.0 ≡ o → size_of (only p (put key shown es)) ≤ size_of (only p es) + size_if p key shown
        → size_of (only p (by_order o ((key, shown) ∷ e ∷ es) ((e.0, shown) ∷ es) (e ∷ put key shown es))) ≤ size_of (only p (e ∷ es)) + size_if p key shown
    by Less is h = let first = size_of-only-cons p (key, shown) (e ∷ es) in omega arith
    by Equal is h =
        let first = size_of-only-cons p (e.0, shown) es in
        let second = size_of-only-cons p e es in
        let same : size_if p e.0 shown ≡ size_if p key shown = ap (λ b. cond b (rr_size (rr_of key shown)) 0) (alike p key e.0 is) in
        omega arith
    by Greater is h =
        let first = size_of-only-cons p e (put key shown es) in
        let second = size_of-only-cons p e es in
        omega arith

pub size_of-only-union : (p : Key → Bool) (first second : RecordSet) → size_of (only p (union first second)) ≤ size_of (only p first) + size_of (only p second)
size_of-only-union p first [] = omega arith
size_of-only-union p first (e ∷ es) =
    let rest = size_of-only-union p (put e.0 e.1 first) es in
    let one = size_of-only-put p e.0 e.1 first in
    let second = size_of-only-cons p e es in
    omega arith

-- a part is no larger than the whole
pub size_of-only : (p : Key → Bool) (set : RecordSet) → size_of (only p set) ≤ size_of set
size_of-only p [] = omega arith
size_of-only p (e ∷ es) =
    let rest = size_of-only p es in
    let whole = size_of-cons e es in
    let part = size_of-only-cons p e es in
    let most = most_if (p e.0) (rr_size (rr_of e.0 e.1)) in
    omega arith
  where
    most_if : (b : Bool) (n : ℕ) → cond b n 0 ≤ n
    most_if true n = omega arith
    most_if false n = omega arith

-- ---- the number of keys

pub length-put-le : (key : Key) (shown : Shown) (set : RecordSet) → length (put key shown set) ≤ length set + 1
length-put-le key shown [] = omega arith
length-put-le key shown (e ∷ es) = by (key_cmp key e.0) (length-put-le key shown es)
  where
    by : (o : Ordering) → length (put key shown es) ≤ length es + 1
        → length (by_order o ((key, shown) ∷ e ∷ es) ((e.0, shown) ∷ es) (e ∷ put key shown es)) ≤ length (e ∷ es) + 1
    by Less h = omega arith
    by Equal h = omega arith
    by Greater h = omega arith
