-- One row that ends sooner, as a put of the row with the lesser end.
use Rattle.std.proofs.Common.{◌≡◌, ℕ, Bool, true, false, cond, T, [], ◌∷◌, map, min, Option, Some, None, option_map, refl, sym, ap, subst, ◌∙◌}
use Rattle.rrset.specs.declared.record.Key.{Key}
use Rattle.rrset.specs.Records.{same_key}
use Rattle.rrset.specs.KeyedRows.{is_rising, put_row, row_at}
use Rattle.rrset.proofs.SameRows.{same_key-same}
use Rattle.rrset.proofs.WithChanges.{same_key-turned}
use Rattle.linkcache.specs.declared.row.HeardRow.{HeardRow}
use Rattle.linkcache.specs.Rows.{LinkRows, ending_by}
use Rattle.linkcache.proofs.KeyedParts.{Rising, same_maps, row_at-put, rising-put, rising-map, KeepsKeys}

abbrev pub ended : ℕ → HeardRow → HeardRow
ended moment row = record row { ends = min row.ends moment }

abbrev pub end_of_key : Key → ℕ → LinkRows → LinkRows
end_of_key key moment rows = map (λ row. cond (same_key key row.0) (ending_by moment row) row) rows

keeps : (key : Key) (moment : ℕ) → KeepsKeys (λ (row : Key × HeardRow). cond (same_key key row.0) (ending_by moment row) row)
keeps key moment e = by (same_key key e.0)
  where
    by : (b : Bool) → (cond b (ending_by moment e) e).0 ≡ e.0
    by true = refl
    by false = refl

-- what a key has afterwards
row_at-ended : (q key : Key) (moment : ℕ) (rows : LinkRows) → row_at q (end_of_key key moment rows) ≡ option_map (λ (row : HeardRow). cond (same_key key q) (ended moment row) row) (row_at q rows)
row_at-ended q key moment [] = refl
row_at-ended q key moment (e ∷ es) =
    ap (λ k. cond (same_key q k) (Some (cond (same_key key e.0) (ending_by moment e) e).1) (row_at q (end_of_key key moment es))) (keeps key moment e)
    ∙ by (same_key q e.0) refl (row_at-ended q key moment es)
  where
    value : (b : Bool) → (cond b (ending_by moment e) e).1 ≡ cond b (ended moment e.1) e.1
    value true = refl
    value false = refl

    by : (b : Bool) → same_key q e.0 ≡ b → row_at q (end_of_key key moment es) ≡ option_map (λ (row : HeardRow). cond (same_key key q) (ended moment row) row) (row_at q es)
        → cond b (Some (cond (same_key key e.0) (ending_by moment e) e).1) (row_at q (end_of_key key moment es)) ≡ option_map (λ (row : HeardRow). cond (same_key key q) (ended moment row) row) (cond b (Some e.1) (row_at q es))
    by true is rest = ap (λ (v : HeardRow). Some v) (value (same_key key e.0) ∙ ap (λ k. cond (same_key key k) (ended moment e.1) e.1) (sym (same_key-same q e.0 is)))
    by false is rest = rest

-- the row of the key, if there is one, put with the lesser end
abbrev put_ended : Key → ℕ → LinkRows → Option HeardRow → LinkRows
put_ended key moment rows None = rows
put_ended key moment rows (Some row) = put_row key (ended moment row) rows

pub end_as_put : (key : Key) (moment : ℕ) (rows : LinkRows) → Rising rows → end_of_key key moment rows ≡ put_ended key moment rows (row_at key rows)
end_as_put key moment rows h = by (row_at key rows) refl
  where
    mapped : Rising (end_of_key key moment rows)
    mapped = rising-map (λ (row : Key × HeardRow). cond (same_key key row.0) (ending_by moment row) row) (keeps key moment) rows h

    none : row_at key rows ≡ None → (q : Key) (t : Bool) → same_key q key ≡ t → (o : Option HeardRow) → row_at q rows ≡ o → option_map (λ (row : HeardRow). cond t (ended moment row) row) o ≡ o
    none absent q true is None at = refl
    none absent q true is (Some row) at = let e : row_at q rows ≡ None = ap (λ k. row_at k rows) (same_key-same q key is) ∙ absent in absurd cc
    none absent q false is None at = refl
    none absent q false is (Some row) at = refl

    there : (row : HeardRow) → row_at key rows ≡ Some row → (q : Key) (t : Bool) → same_key q key ≡ t → (o : Option HeardRow) → row_at q rows ≡ o → option_map (λ (r : HeardRow). cond t (ended moment r) r) o ≡ cond t (Some (ended moment row)) o
    there row found q true is o at =
        let same : o ≡ Some row = sym at ∙ ap (λ k. row_at k rows) (same_key-same q key is) ∙ found in
        ap (λ (x : Option HeardRow). option_map (λ (r : HeardRow). ended moment r) x) same
    there row found q false is None at = refl
    there row found q false is (Some r) at = refl

    turned : (q : Key) → row_at q (end_of_key key moment rows) ≡ option_map (λ (row : HeardRow). cond (same_key q key) (ended moment row) row) (row_at q rows)
    turned q = row_at-ended q key moment rows ∙ ap (λ b. option_map (λ (row : HeardRow). cond b (ended moment row) row) (row_at q rows)) (same_key-turned key q)

    by : (o : Option HeardRow) → row_at key rows ≡ o → end_of_key key moment rows ≡ put_ended key moment rows o
    by None absent = same_maps (end_of_key key moment rows) rows mapped h (λ q. turned q ∙ none absent q (same_key q key) refl (row_at q rows) refl)
    by (Some row) found = same_maps (end_of_key key moment rows) (put_row key (ended moment row) rows) mapped (rising-put key (ended moment row) rows h)
        (λ q. turned q ∙ there row found q (same_key q key) refl (row_at q rows) refl ∙ sym (row_at-put q key (ended moment row) rows))

pub end_none : (key : Key) (moment : ℕ) (rows : LinkRows) → is_rising rows ≡ true → row_at key rows ≡ None → rows ≡ end_of_key key moment rows
end_none key moment rows order absent = sym (end_as_put key moment rows (subst T (sym order) tt) ∙ ap (put_ended key moment rows) absent)

pub end_some : (key stored : Key) (moment : ℕ) (rows later : LinkRows) (row copy put : HeardRow) → is_rising rows ≡ true → row_at key rows ≡ Some row → stored ≡ key → copy ≡ row → put ≡ record copy { ends = min copy.ends moment }
    → later ≡ put_row stored put rows → later ≡ end_of_key key moment rows
end_some key stored moment rows later row copy put order found same_stored same_copy put-is later-is =
    later-is
    ∙ (λ i. put_row (same_stored i) (put-is i) rows)
    ∙ ap (λ (r : HeardRow). put_row key (ended moment r) rows) same_copy
    ∙ sym (end_as_put key moment rows (subst T (sym order) tt) ∙ ap (put_ended key moment rows) found)
