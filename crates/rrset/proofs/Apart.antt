-- Two sets in order that are one in the part whose keys fail a test: they differ as their other parts do.
use Rattle.std.proofs.Common.{◌≡◌, ◌+◌, Bool, true, false, cond, not, [], ◌∷◌, ◌++◌, length, None, refl, sym, ap, ◌∙◌, arith}
use Rattle.rrset.specs.RecordSet.{RecordSet, only, union, shown_at, changes, same_rows}
use Rattle.rrset.specs.declared.record.Key.{Key}
use Rattle.rrset.proofs.Sets.{shown_at-only}
use Rattle.rrset.proofs.InOrder.{InOrder, same_sets}
use Rattle.rrset.proofs.Selected.{fails, only-union, length-parts}
use Rattle.rrset.proofs.SameRows.{same_rows-same, same_rows-self, noted-none}
use Rattle.rrset.proofs.Differences.{changed_in, changed_in-first, noted}
use Rattle.rrset.proofs.WithChanges.{both_ways}

-- the parts whose keys fail are one
abbrev pub AgreeApart : (Key → Bool) → RecordSet → RecordSet → Type 0
AgreeApart p old new = only (fails p) old ≡ only (fails p) new

pub shown_at-passed : (p : Key → Bool) (q : Key) (set : RecordSet) → p q ≡ true → shown_at q (only p set) ≡ shown_at q set
shown_at-passed p q set passes = shown_at-only p q set ∙ ap (λ b. cond b (shown_at q set) None) passes

pub shown_at-failed : (p : Key → Bool) (q : Key) (old new : RecordSet) → AgreeApart p old new → p q ≡ false → shown_at q old ≡ shown_at q new
shown_at-failed p q old new agree not_p = sym (kept old) ∙ ap (shown_at q) agree ∙ kept new
  where
    kept : (set : RecordSet) → shown_at q (only (fails p) set) ≡ shown_at q set
    kept set = shown_at-only (fails p) q set ∙ ap (λ b. cond (not b) (shown_at q set) None) not_p

-- sets that agree in both parts are one
pub same_both : (p : Key → Bool) (old new : RecordSet) → InOrder old → InOrder new → AgreeApart p old new → only p old ≡ only p new → old ≡ new
same_both p old new h g agree parts = same_sets old new h g (λ q. by q (p q) refl)
  where
    by : (q : Key) (b : Bool) → p q ≡ b → shown_at q old ≡ shown_at q new
    by q true e = sym (shown_at-passed p q old e) ∙ ap (shown_at q) parts ∙ shown_at-passed p q new e
    by q false e = shown_at-failed p q old new agree e

-- ---- changes

pub changed_in-apart : (p : Key → Bool) (old new : RecordSet) → AgreeApart p old new → (rows : RecordSet) → changed_in old new rows ≡ changed_in (only p old) (only p new) (only p rows)
changed_in-apart p old new agree [] = refl
changed_in-apart p old new agree (e ∷ rows) = changed_in-first old new e rows ∙ by (p e.0) refl (changed_in-apart p old new agree rows)
  where
    by : (b : Bool) → p e.0 ≡ b → changed_in old new rows ≡ changed_in (only p old) (only p new) (only p rows)
        → noted e.0 (shown_at e.0 old) (shown_at e.0 new) ++ changed_in old new rows ≡ changed_in (only p old) (only p new) (cond b (e ∷ only p rows) (only p rows))
    by true is rest =
        (λ i. noted e.0 (sym (shown_at-passed p e.0 old is) i) (sym (shown_at-passed p e.0 new is) i) ++ rest i)
        ∙ sym (changed_in-first (only p old) (only p new) e (only p rows))
    by false is rest = λ i. noted-none e.0 (shown_at e.0 old) (shown_at e.0 new) (shown_at-failed p e.0 old new agree is) i ++ rest i

pub changes-apart : (p : Key → Bool) (old new : RecordSet) → InOrder old → AgreeApart p old new → changes old new ≡ changes (only p old) (only p new)
changes-apart p old new h agree = changed_in-apart p old new agree (union old new) ∙ ap (changed_in (only p old) (only p new)) (only-union p old new h)

-- ---- whether they are one, and how many keys they have

pub same_rows-apart : (p : Key → Bool) (old new : RecordSet) → InOrder old → InOrder new → AgreeApart p old new → same_rows old new ≡ same_rows (only p old) (only p new)
same_rows-apart p old new h g agree = both_ways (same_rows old new) (same_rows (only p old) (only p new)) down up
  where
    down : same_rows old new ≡ true → same_rows (only p old) (only p new) ≡ true
    down e = ap (λ set. same_rows (only p old) (only p set)) (sym (same_rows-same old new e)) ∙ same_rows-self (only p old)

    up : same_rows (only p old) (only p new) ≡ true → same_rows old new ≡ true
    up e = ap (same_rows old) (sym (same_both p old new h g agree (same_rows-same (only p old) (only p new) e))) ∙ same_rows-self old

pub length-apart : (p : Key → Bool) (old new : RecordSet) → AgreeApart p old new → length new + length (only p old) ≡ length old + length (only p new)
length-apart p old new agree =
    let rest : length (only (fails p) old) ≡ length (only (fails p) new) = ap (λ (set : RecordSet). length set) agree in
    let first = length-parts p old in
    let second = length-parts p new in
    omega arith
