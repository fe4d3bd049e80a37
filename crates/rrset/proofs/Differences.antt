-- The changes among the first records of a list, as they are gone through.
use Rattle.std.proofs.Common.{◌≡◌, ℕ, ◌+◌, ◌<◌, ◌≤◌, Bool, true, false, cond, not, List, [], ◌∷◌, ◌++◌, length, get_or, drop, map, Option, refl, sym, ap, ◌∙◌, append_assoc}
use Rattle.std.proofs.lemmas.List.{at_drop_more, at_drop_all, append-nil}
use Rattle.rrset.specs.RecordSet.{RecordSet, only, shown_at, shown_the_same}
use Rattle.rrset.specs.declared.record.Key.{Key}
use Rattle.rrset.specs.declared.record.Shown.{Shown}
use Rattle.rrset.specs.declared.record.Changed.{Changed}

-- the changes at the keys of a list of records
abbrev pub changed_in : RecordSet → RecordSet → RecordSet → List Changed
changed_in old new rows = map (λ e. record { key = e.0; before = shown_at e.0 old; after = shown_at e.0 new })
    (only (λ key. not (shown_the_same (shown_at key old) (shown_at key new))) rows)

abbrev pub change : Key → Option Shown → Option Shown → Changed
change k b a = record { key = k; before = b; after = a }

-- what is noted of one record
abbrev pub noted : Key → Option Shown → Option Shown → List Changed
noted key before after = cond (not (shown_the_same before after)) (change key before after ∷ []) []

pub changed_in-first : (old new : RecordSet) (e : Key × Shown) (rows : RecordSet) → changed_in old new (e ∷ rows) ≡ noted e.0 (shown_at e.0 old) (shown_at e.0 new) ++ changed_in old new rows
changed_in-first old new e rows = by (not (shown_the_same (shown_at e.0 old) (shown_at e.0 new)))
  where
    by : (b : Bool) → map (λ e. change e.0 (shown_at e.0 old) (shown_at e.0 new)) (cond b (e ∷ only (λ key. not (shown_the_same (shown_at key old) (shown_at key new))) rows) (only (λ key. not (shown_the_same (shown_at key old) (shown_at key new))) rows))
        ≡ cond b (change e.0 (shown_at e.0 old) (shown_at e.0 new) ∷ []) [] ++ changed_in old new rows
    by true = refl
    by false = refl

pub changed_turn : (old new rows : RecordSet) (i : ℕ) (e : Key × Shown) (before after : Option Shown) (out now whole : List Changed) → i < length rows → e ≡ get_or rows i e
    → before ≡ shown_at e.0 old → after ≡ shown_at e.0 new
    → out ++ changed_in old new (drop i rows) ≡ whole → now ≡ out ++ noted e.0 before after → now ++ changed_in old new (drop (i + 1) rows) ≡ whole
changed_turn old new rows i e before after out now whole h is is_before is_after so_far is_now =
    let k = e.0 in
    let left = drop (i + 1) rows in
    let rest = changed_in old new left in
    let first = at_drop_more (changed_in old new) rows i e h ∙ ap (λ x. changed_in old new (x ∷ left)) (sym is) ∙ changed_in-first old new e left in
    ap (λ x. x ++ rest) is_now ∙ append_assoc out (noted k before after) rest
    ∙ ap (λ b. out ++ (noted k b after ++ rest)) is_before ∙ ap (λ a. out ++ (noted k (shown_at k old) a ++ rest)) is_after
    ∙ ap (λ x. out ++ x) (sym first)
    ∙ so_far

-- all have been gone through
pub changed_end : (old new rows : RecordSet) (i : ℕ) (out whole : List Changed) → length rows ≤ i → out ++ changed_in old new (drop i rows) ≡ whole → out ≡ whole
changed_end old new rows i out whole h so_far = sym (ap (λ x. out ++ x) (at_drop_all (changed_in old new) rows i h) ∙ append-nil out) ∙ so_far

-- one record has been looked at
pub noted-changed : (key copy : Key) (before after : Option Shown) (same : Bool) (out now : List Changed) → same ≡ shown_the_same before after → same ≡ false → copy ≡ key
    → now ≡ out ++ change copy before after ∷ [] → now ≡ out ++ noted key before after
noted-changed key copy before after same out now is e is_key h =
    h ∙ ap (λ k. out ++ change k before after ∷ []) is_key ∙ ap (λ b. out ++ cond (not b) (change key before after ∷ []) []) (sym e ∙ is)

pub noted-same : (key : Key) (before after : Option Shown) (same : Bool) (out now : List Changed) → same ≡ shown_the_same before after → same ≡ true
    → now ≡ out → now ≡ out ++ noted key before after
noted-same key before after same out now is e h =
    h ∙ sym (append-nil out) ∙ ap (λ b. out ++ cond (not b) (change key before after ∷ []) []) (sym e ∙ is)
