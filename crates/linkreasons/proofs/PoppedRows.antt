-- The last row of a link that was reconfirmed is taken out.
--     undoubts      it goes
--     settles-link      it stands for all of its key
--     has_same, kept-new, rows-new      where none of the others has that
use Rattle.std.proofs.Common.{◌≡◌, ℕ, Bool, true, false, cond, not, ◌&&◌, ◌||◌, [], ◌∷◌, ◌++◌, refl, sym, ap, ◌∙◌}
use Rattle.std.specs.Prelude.{filter, ◌==◌}
use Rattle.std.specs.List.{list_any}
use Rattle.rrset.specs.Records.{same_key}
use Rattle.rrset.specs.declared.record.Key.{Key}
use Rattle.linkask.specs.Bounds.{Kept, begun_anew, without_reason}
use Rattle.linkask.specs.Reasons.{Reconfirmed, is_doubted, question_for}
use Rattle.linkreasons.specs.AllReasons.{ReasonsOfLink, but_last}
use Rattle.linkreasons.specs.Changing.{begun_if_new, last_of, questions_of_rows, settled, settled_by, undoubted, unwanted_all}

pub undoubts : (l : ReasonsOfLink) (left : Reconfirmed) (row : Key × ℕ) (kept : Kept) → (left ≡ but_last l.reconfirmed) × (row ∷ [] ≡ last_of l.reconfirmed) → kept ≡ without_reason (question_for row.0) l.kept
    → record { kept = kept; reconfirmed = left } ≡ undoubted l
undoubts l left row kept popped is =
    let whole = is ∙ ap (λ (rs : Reconfirmed). unwanted_all (questions_of_rows rs) l.kept) popped.1 in
    λ i. record { kept = whole i; reconfirmed = popped.0 i }

abbrev behind : Key × ℕ → Kept → Reconfirmed → Kept
behind row kept others = begun_if_new row others (unwanted_all (questions_of_rows (filter (λ r. same_key row.0 r.0) others)) kept)

abbrev in_place : Key × ℕ → Reconfirmed → Reconfirmed
in_place row others = filter (λ r. not (same_key row.0 r.0)) others ++ row ∷ []

pub settles-link : (l : ReasonsOfLink) (left others : Reconfirmed) (row : Key × ℕ) (kept : Kept) (rows : Reconfirmed) → (left ≡ but_last l.reconfirmed) × (row ∷ [] ≡ last_of l.reconfirmed) → others ≡ left
    → kept ≡ begun_if_new row others (unwanted_all (questions_of_rows (filter (λ r. same_key row.0 r.0) others)) l.kept) → rows ≡ filter (λ r. not (same_key row.0 r.0)) left ++ row ∷ []
    → record { kept = kept; reconfirmed = rows } ≡ settled l
settles-link l left others row kept rows popped same is rows-is =
    let whole = is ∙ ap (behind row l.kept) (same ∙ popped.0) in
    let all = rows-is ∙ ap (in_place row) popped.0 in
    (λ i. record { kept = whole i; reconfirmed = all i }) ∙ ap (λ (rs : Reconfirmed). settled_by rs l) popped.1

-- ---- where none of the others has its key

abbrev pub has_same : Key × ℕ → Reconfirmed → Bool
has_same row others = list_any (λ r. same_key row.0 r.0) others

none-same : (row : Key × ℕ) (others : Reconfirmed) → has_same row others ≡ false → filter (λ r. same_key row.0 r.0) others ≡ []
none-same row [] none = refl
none-same row (r ∷ rs) none = by (same_key row.0 r.0) (none-same row rs) none
  where
    by : (b : Bool) → (has_same row rs ≡ false → filter (λ r. same_key row.0 r.0) rs ≡ []) → (b || has_same row rs) ≡ false → cond b (r ∷ filter (λ r. same_key row.0 r.0) rs) (filter (λ r. same_key row.0 r.0) rs) ≡ []
    by true rest e = absurd cc
    by false rest e = rest e

all-other : (row : Key × ℕ) (others : Reconfirmed) → has_same row others ≡ false → filter (λ r. not (same_key row.0 r.0)) others ≡ others
all-other row [] none = refl
all-other row (r ∷ rs) none = by (same_key row.0 r.0) (all-other row rs) none
  where
    by : (b : Bool) → (has_same row rs ≡ false → filter (λ r. not (same_key row.0 r.0)) rs ≡ rs) → (b || has_same row rs) ≡ false
        → cond (not b) (r ∷ filter (λ r. not (same_key row.0 r.0)) rs) (filter (λ r. not (same_key row.0 r.0)) rs) ≡ r ∷ rs
    by true rest e = absurd cc
    by false rest e = ap (λ (l : Reconfirmed). r ∷ l) (rest e)

none-doubted : (row : Key × ℕ) (others : Reconfirmed) → has_same row others ≡ false → is_doubted row.0 row.1 others ≡ false
none-doubted row [] none = refl
none-doubted row (r ∷ rs) none = by (same_key row.0 r.0) (none-doubted row rs) none
  where
    by : (b : Bool) → (has_same row rs ≡ false → is_doubted row.0 row.1 rs ≡ false) → (b || has_same row rs) ≡ false → ((b && (r.1 == row.1)) || is_doubted row.0 row.1 rs) ≡ false
    by true rest e = absurd cc
    by false rest e = rest e

pub kept-new : (row : Key × ℕ) (others : Reconfirmed) (kept : Kept) → has_same row others ≡ false → begun_anew (question_for row.0) kept ≡ begun_if_new row others (unwanted_all (questions_of_rows (filter (λ r. same_key row.0 r.0) others)) kept)
kept-new row others kept none =
    ap (λ (b : Bool). cond b kept (begun_anew (question_for row.0) kept)) (sym (none-doubted row others none))
    ∙ ap (λ (gone : Reconfirmed). begun_if_new row others (unwanted_all (questions_of_rows gone) kept)) (sym (none-same row others none))

pub rows-new : (row : Key × ℕ) (others : Reconfirmed) → has_same row others ≡ false → others ++ row ∷ [] ≡ filter (λ r. not (same_key row.0 r.0)) others ++ row ∷ []
rows-new row others none = ap (λ (d : Reconfirmed). d ++ row ∷ []) (sym (all-other row others none))
