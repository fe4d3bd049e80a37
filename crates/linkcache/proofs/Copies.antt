-- Rows that are copied key by key into a part are those whose keys pass a test.
use Rattle.std.proofs.Common.{◌≡◌, Bool, true, false, cond, ◌||◌, List, [], ◌∷◌, fold, Option, Some, None, is_some, refl, sym, ap, subst, ◌∙◌}
use Rattle.std.specs.List.{list_any}
use Rattle.rrset.specs.declared.record.Key.{Key}
use Rattle.rrset.specs.Records.{same_key}
use Rattle.rrset.specs.Tables.{HasLowerOwner, HaveLowerOwners}
use Rattle.rrset.specs.KeyedRows.{put_row, only_rows, row_at}
use Rattle.rrset.proofs.SameRows.{same_key-same}
use Rattle.linkcache.specs.declared.row.HeardRow.{HeardRow}
use Rattle.linkcache.specs.Rows.{LinkRows}
use Rattle.linkcache.specs.Parts.{copied}
use Rattle.linkcache.proofs.KeyedParts.{Rising, same_maps, row_at-only, row_at-put, rising-put, rising-only, only-same}

-- one key
pub copied-part : (p : Key → Bool) (rows part : LinkRows) (key : Key) → Rising rows → part ≡ only_rows p rows → copied rows part key ≡ only_rows (λ q. same_key q key || p q) rows
copied-part p rows part key h is = ap (λ x. copied rows x key) is ∙ by (row_at key rows) refl
  where
    with_key : Key → Bool
    with_key q = same_key q key || p q

    rest : (q : Key) → row_at q (only_rows with_key rows) ≡ cond (same_key q key || p q) (row_at q rows) None
    rest q = row_at-only with_key q rows

    absent_too : row_at key rows ≡ None → (q : Key) (t b : Bool) → same_key q key ≡ t → (o : Option HeardRow) → row_at q rows ≡ o → cond b o None ≡ cond (t || b) o None
    absent_too absent q true true is' o at = refl
    absent_too absent q true false is' o at = sym (sym at ∙ ap (λ k. row_at k rows) (same_key-same q key is') ∙ absent)
    absent_too absent q false b is' o at = refl

    there : (row : HeardRow) → row_at key rows ≡ Some row → (q : Key) (t b : Bool) → same_key q key ≡ t → (o : Option HeardRow) → row_at q rows ≡ o → cond t (Some row) (cond b o None) ≡ cond (t || b) o None
    there row found q true b is' o at = sym (sym at ∙ ap (λ k. row_at k rows) (same_key-same q key is') ∙ found)
    there row found q false b is' o at = refl

    by : (o : Option HeardRow) → row_at key rows ≡ o → elim o [ None ↦ only_rows p rows | Some row ↦ put_row key row (only_rows p rows) ] ≡ only_rows with_key rows
    by None absent = same_maps (only_rows p rows) (only_rows with_key rows) (rising-only p rows h) (rising-only with_key rows h)
        (λ q. row_at-only p q rows ∙ absent_too absent q (same_key q key) (p q) refl (row_at q rows) refl ∙ sym (rest q))
    by (Some row) found = same_maps (put_row key row (only_rows p rows)) (only_rows with_key rows) (rising-put key row (only_rows p rows) (rising-only p rows h)) (rising-only with_key rows h)
        (λ q. row_at-put q key row (only_rows p rows) ∙ ap (λ o. cond (same_key q key) (Some row) o) (row_at-only p q rows)
        ∙ there row found q (same_key q key) (p q) refl (row_at q rows) refl ∙ sym (rest q))

-- a list of keys
pub copied-all : {A : Type 0} (key : A → Key) (rows : LinkRows) → Rising rows → (xs : List A) (p : Key → Bool) (part : LinkRows) → part ≡ only_rows p rows
    → fold (λ part x. copied rows part (key x)) part xs ≡ only_rows (λ q. list_any (λ x. same_key q (key x)) xs || p q) rows
copied-all key rows h [] p part is = is
copied-all key rows h (x ∷ xs) p part is =
    copied-all key rows h xs (λ q. same_key q (key x) || p q) (copied rows part (key x)) (copied-part p rows part (key x) h is)
    ∙ only-same (λ q. list_any (λ x. same_key q (key x)) xs || (same_key q (key x) || p q)) (λ q. (same_key q (key x) || list_any (λ x. same_key q (key x)) xs) || p q)
    (λ q. turned (list_any (λ x. same_key q (key x)) xs) (same_key q (key x)) (p q)) rows
  where
    turned : (a b c : Bool) → (a || (b || c)) ≡ ((b || a) || c)
    turned true true c = refl
    turned true false c = refl
    turned false true c = refl
    turned false false c = refl

-- a key is among those of rows where it has a row
pub among : (q : Key) (rows : LinkRows) → list_any (λ e. same_key q e.0) rows ≡ is_some (row_at q rows)
among q [] = refl
among q (e ∷ es) = by (same_key q e.0) (among q es)
  where
    by : (b : Bool) → list_any (λ e. same_key q e.0) es ≡ is_some (row_at q es) → (b || list_any (λ e. same_key q e.0) es) ≡ is_some (cond b (Some e.1) (row_at q es))
    by true h = refl
    by false h = h

-- a key that has a row in a table is in lower case
pub found-lower : (key : Key) (row : HeardRow) (rows : LinkRows) → HaveLowerOwners rows → row_at key rows ≡ Some row → HasLowerOwner key
found-lower key row [] low found = absurd cc
found-lower key row (e ∷ es) low found = by (same_key key e.0) refl found (found-lower key row es low.1)
  where
    by : (b : Bool) → same_key key e.0 ≡ b → cond b (Some e.1) (row_at key es) ≡ Some row → (row_at key es ≡ Some row → HasLowerOwner key) → HasLowerOwner key
    by true is f rest = let k = same_key-same key e.0 is in subst HasLowerOwner (sym k) low.0
    by false is f rest = rest f
