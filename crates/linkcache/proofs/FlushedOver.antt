-- What a record's cache-flush bit does to rows laid over others, it does to all of them.
use Rattle.std.proofs.Common.{◌≡◌, ℕ, ◌+◌, Bool, true, false, cond, not, ◌&&◌, ◌||◌, T, [], ◌∷◌, fold, nat_lt, Option, Some, None, is_some, option_map, refl, sym, ap, ◌∙◌}
use Rattle.std.specs.List.{list_any}
use Rattle.dnsname.specs.Names.{same_name}
use Rattle.rrset.specs.declared.record.Key.{Key}
use Rattle.rrset.specs.declared.record.HeardRr.{HeardRr}
use Rattle.std.specs.Prelude.{◌==◌}
use Rattle.std.specs.FinMap.Entries.{below_all}
use Rattle.rrset.specs.Records.{key_cmp, same_key}
use Rattle.rrset.specs.KeyedRows.{put_row, row_at, rows_of}
use Rattle.rrset.proofs.Places.{and_left, and_right}
use Rattle.rrset.proofs.SameRows.{same_key-same}
use Rattle.linkcache.specs.declared.row.HeardRow.{HeardRow}
use Rattle.linkcache.specs.Rows.{LinkRows, second, ending_by, has_key, is_of_set, flushed_by}
use Rattle.linkcache.specs.Parts.{laid, with_flushed}
use Rattle.linkcache.proofs.KeyedParts.{Rising, KeepsKeys, same_maps, row_at-only, row_at-put, rising-map, rising-only}
use Rattle.linkcache.proofs.HeardSteps.{has-found}
use Rattle.linkcache.proofs.EndedRows.{ended}
use Rattle.linkcache.proofs.LaidRows.{either, row_at-laid, rising-laid}
use Rattle.linkcache.proofs.LaidSizes.{below-none}

module _ (now : ℕ) (h : HeardRr) where
  -- whether a row of a key goes
  abbrev goes : Key → HeardRow → Bool
  goes q row = is_of_set h.rr (q, row) && nat_lt (row.heard + second) now

  abbrev sooner : HeardRow → HeardRow
  sooner row = ended (now + second) row

  -- what a row becomes
  abbrev flushed : Key → HeardRow → HeardRow
  flushed q row = cond (goes q row) (sooner row) row

  -- a row that goes, as it becomes
  abbrev newly : Key → Option HeardRow → Option HeardRow
  newly q None = None
  newly q (Some row) = cond (goes q row) (Some (sooner row)) None

  abbrev flush-one : Key × HeardRow → Key × HeardRow
  flush-one e = cond (goes e.0 e.1) (ending_by (now + second) e) e

  keeps : KeepsKeys flush-one
  keeps e = by (goes e.0 e.1)
    where
      by : (b : Bool) → (cond b (ending_by (now + second) e) e).0 ≡ e.0
      by true = refl
      by false = refl

  row_at-flushed : (q : Key) (rows : LinkRows) → row_at q (flushed_by now rows h) ≡ option_map (flushed q) (row_at q rows)
  row_at-flushed q [] = refl
  row_at-flushed q (e ∷ es) =
      ap (λ k. cond (same_key q k) (Some (flush-one e).1) (row_at q (flushed_by now es h))) (keeps e) ∙ by (same_key q e.0) refl (row_at-flushed q es)
    where
      value : (b : Bool) → (cond b (ending_by (now + second) e) e).1 ≡ cond b (sooner e.1) e.1
      value true = refl
      value false = refl

      by : (b : Bool) → same_key q e.0 ≡ b → row_at q (flushed_by now es h) ≡ option_map (flushed q) (row_at q es)
          → cond b (Some (flush-one e).1) (row_at q (flushed_by now es h)) ≡ option_map (flushed q) (cond b (Some e.1) (row_at q es))
      by true is rest = ap (λ (v : HeardRow). Some v) (value (goes e.0 e.1) ∙ ap (λ k. flushed k e.1) (sym (same_key-same q e.0 is)))
      by false is rest = rest

  -- ---- where none goes

  pub none-flushed : (over : LinkRows) → list_any (λ row. is_of_set h.rr row && nat_lt (row.1.heard + second) now) (rows_of h.rr.owner over) ≡ false → flushed_by now over h ≡ over
  none-flushed [] e = refl
  none-flushed (x ∷ xs) e = by (same_name h.rr.owner x.0.owner) (goes x.0 x.1) refl refl e (none-flushed xs)
    where
      old : Key × HeardRow → Bool
      old row = is_of_set h.rr row && nat_lt (row.1.heard + second) now

      rest : LinkRows
      rest = rows_of h.rr.owner xs

      stays : (g : Bool) → goes x.0 x.1 ≡ g → g ≡ false → flushed_by now xs h ≡ xs → flushed_by now (x ∷ xs) h ≡ x ∷ xs
      stays g is none more = λ i. cond ((is ∙ none) i) (ending_by (now + second) x) x ∷ more i

      other : same_name h.rr.owner x.0.owner ≡ false → goes x.0 x.1 ≡ false
      other is = ap (λ b. ((b && (h.rr.class == x.0.class)) && (h.rr.kind == x.0.kind)) && nat_lt (x.1.heard + second) now) is

      by : (s g : Bool) → same_name h.rr.owner x.0.owner ≡ s → goes x.0 x.1 ≡ g → list_any old (cond s (x ∷ rest) rest) ≡ false → (list_any old rest ≡ false → flushed_by now xs h ≡ xs) → flushed_by now (x ∷ xs) h ≡ x ∷ xs
      by true true s-is g-is e more = let some : true ≡ false = ap (λ b. b || list_any old rest) (sym g-is) ∙ e in absurd cc
      by true false s-is g-is e more = stays false g-is refl (more (ap (λ b. b || list_any old rest) (sym g-is) ∙ e))
      by false g s-is g-is e more = stays (goes x.0 x.1) refl (other s-is) (more e)

  -- ---- rows of a link, one by one

  row_at-one : (q : Key) (over : LinkRows) (e : Key × HeardRow) (es : LinkRows) → T (below_all key_cmp e.0 es)
      → either (row_at q (with_flushed now h over e)) (newly q (row_at q es)) ≡ either (row_at q over) (newly q (row_at q (e ∷ es)))
  row_at-one q over e es below = by (goes e.0 e.1) (has_key e.0 over) refl refl
    where
      absent : same_key q e.0 ≡ true → row_at q es ≡ None
      absent is = ap (λ k. row_at k es) (same_key-same q e.0 is) ∙ below-none e.0 es below

      found-over : same_key q e.0 ≡ true → is_some (row_at q over) ≡ has_key e.0 over
      found-over is = ap (λ k. is_some (row_at k over)) (same_key-same q e.0 is) ∙ has-found e.0 over

      goes-as : same_key q e.0 ≡ true → goes q e.1 ≡ goes e.0 e.1
      goes-as is = ap (λ k. goes k e.1) (same_key-same q e.0 is)

      -- what stays over the others
      stays : (t : Bool) → same_key q e.0 ≡ t → (o : Option HeardRow) → row_at q over ≡ o → (g s : Bool) → goes e.0 e.1 ≡ g → has_key e.0 over ≡ s → (g && not s) ≡ false
          → either o (newly q (row_at q es)) ≡ either o (newly q (cond t (Some e.1) (row_at q es)))
      stays false is o at g s g-is s-is none = refl
      stays true is (Some row) at g s g-is s-is none = refl
      stays true is None at true true g-is s-is none = let some : false ≡ true = ap (λ (o : Option HeardRow). is_some o) (sym at) ∙ found-over is ∙ s-is in absurd cc
      stays true is None at true false g-is s-is none = absurd cc
      stays true is None at false s g-is s-is none = ap (newly q) (absent is) ∙ ap (λ b. cond b (Some (sooner e.1)) None) (sym (goes-as is ∙ g-is))

      -- what is put over them
      put : (t : Bool) → same_key q e.0 ≡ t → (o : Option HeardRow) → row_at q over ≡ o → goes e.0 e.1 ≡ true → has_key e.0 over ≡ false
          → either (cond t (Some (sooner e.1)) o) (newly q (row_at q es)) ≡ either o (newly q (cond t (Some e.1) (row_at q es)))
      put false is o at g-is s-is = refl
      put true is (Some row) at g-is s-is = let some : true ≡ false = ap (λ (o : Option HeardRow). is_some o) (sym at) ∙ found-over is ∙ s-is in absurd cc
      put true is None at g-is s-is = ap (λ b. cond b (Some (sooner e.1)) None) (sym (goes-as is ∙ g-is))

      by : (g s : Bool) → goes e.0 e.1 ≡ g → has_key e.0 over ≡ s
          → either (row_at q (cond (g && not s) (put_row e.0 (ending_by (now + second) e).1 over) over)) (newly q (row_at q es)) ≡ either (row_at q over) (newly q (row_at q (e ∷ es)))
      by true false g-is s-is =
          ap (λ (o : Option HeardRow). either o (newly q (row_at q es))) (row_at-put q e.0 (sooner e.1) over) ∙ put (same_key q e.0) refl (row_at q over) refl g-is s-is
      by true true g-is s-is = stays (same_key q e.0) refl (row_at q over) refl true true g-is s-is refl
      by false s g-is s-is = stays (same_key q e.0) refl (row_at q over) refl false s g-is s-is refl

  row_at-all : (q : Key) (over es : LinkRows) → Rising es → row_at q (fold (with_flushed now h) over es) ≡ either (row_at q over) (newly q (row_at q es))
  row_at-all q over [] g = none (row_at q over)
    where
      none : (o : Option HeardRow) → o ≡ either o None
      none None = refl
      none (Some row) = refl
  row_at-all q over (e ∷ es) g = row_at-all q (with_flushed now h over e) es (and_right _ _ g) ∙ row_at-one q over e es (and_left _ _ g)

  -- ---- all rows

  pub flushed-laid : (over rows : LinkRows) → Rising rows → laid (fold (with_flushed now h) (flushed_by now over h) (rows_of h.rr.owner rows)) rows ≡ flushed_by now (laid over rows) h
  flushed-laid over rows g =
      same_maps (laid later rows) (flushed_by now (laid over rows) h) (rising-laid later rows g) (rising-map flush-one keeps (laid over rows) (rising-laid over rows g))
      (λ q. row_at-laid q later rows
      ∙ ap (λ (o : Option HeardRow). either o (row_at q rows)) (row_at-all q (flushed_by now over h) (rows_of h.rr.owner rows) (rising-only of_owner rows g))
      ∙ (λ i. either (either (row_at-flushed q over i) (newly q (row_at-only of_owner q rows i))) (row_at q rows))
      ∙ one q (row_at q over) (row_at q rows)
      ∙ ap (option_map (flushed q)) (sym (row_at-laid q over rows))
      ∙ sym (row_at-flushed q (laid over rows)))
    where
      of_owner : Key → Bool
      of_owner key = same_name h.rr.owner key.owner

      later : LinkRows
      later = fold (with_flushed now h) (flushed_by now over h) (rows_of h.rr.owner rows)

      new : (row : HeardRow) (g : Bool) → either (cond g (Some (sooner row)) None) (Some row) ≡ Some (cond g (sooner row) row)
      new row true = refl
      new row false = refl

      -- a row of another owner stays
      other : (q : Key) (row : HeardRow) → of_owner q ≡ false → Some row ≡ Some (flushed q row)
      other q row is = ap (λ b. Some (cond (((b && (h.rr.class == q.class)) && (h.rr.kind == q.kind)) && nat_lt (row.heard + second) now) (sooner row) row)) (sym is)

      under : (q : Key) (row : HeardRow) (b : Bool) → of_owner q ≡ b → either (newly q (cond b (Some row) None)) (Some row) ≡ Some (flushed q row)
      under q row true is = new row (goes q row)
      under q row false is = other q row is

      none : (q : Key) (b : Bool) → either (newly q (cond b None None)) None ≡ None
      none q true = refl
      none q false = refl

      one : (q : Key) (a b : Option HeardRow) → either (either (option_map (flushed q) a) (newly q (cond (of_owner q) b None))) b ≡ option_map (flushed q) (either a b)
      one q (Some row) b = refl
      one q None None = none q (of_owner q)
      one q None (Some row) = under q row (of_owner q) refl
