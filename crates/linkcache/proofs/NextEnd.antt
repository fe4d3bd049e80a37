-- The least moment is the least end of a row.
use Rattle.std.proofs.Common.{◌≡◌, ℕ, ◌≤◌, Bool, true, false, cond, [], ◌∷◌, fold, min, Option, Some, None, option_map, refl, sym, ap, ◌∙◌, arith}
use Rattle.std.specs.Option.{IfSome}
use Rattle.std.specs.List.{find, AllByRecursion}
use Rattle.clockqueue.specs.Deadlines.{Deadlines, AreDeadlines, is_of, first_moment}
use Rattle.rrset.specs.declared.record.Key.{Key}
use Rattle.rrset.specs.Records.{key_cmp, same_key}
use Rattle.rrset.specs.KeyedRows.{row_at}
use Rattle.rrset.proofs.SameRows.{same_key-self}
use Rattle.linkcache.specs.declared.row.HeardRow.{HeardRow}
use Rattle.linkcache.specs.Rows.{LinkRows, earlier, next_end}
use Rattle.linkcache.specs.Ends.{AreEnds}
use Rattle.linkcache.proofs.KeyedParts.{Rising}
use Rattle.linkcache.proofs.RowEnds.{ends_of, some-same, least_bounds}

-- what no later row undercuts
least-kept : (least : ℕ) (rows : LinkRows) → AllByRecursion (λ (e : Key × HeardRow). least ≤ e.1.ends) rows → fold earlier (Some least) rows ≡ Some least
least-kept least [] bound = refl
least-kept least (e ∷ es) bound = let same : min least e.1.ends ≡ least = omega (arith, bound.0) in ap (λ n. fold earlier (Some n) es) same ∙ least-kept least es bound.1

-- a bound of all that one of them has
least-found : (least : ℕ) (rows : LinkRows) (before : Option ℕ) (q : Key) (row : HeardRow) → IfSome before (λ m. least ≤ m) → AllByRecursion (λ (e : Key × HeardRow). least ≤ e.1.ends) rows
    → row_at q rows ≡ Some row → row.ends ≡ least → fold earlier before rows ≡ Some least
least-found least [] before q row bound all is ends = absurd cc
least-found least (e ∷ es) before q row bound all is ends = by (same_key q e.0) is (λ o low f. least-found least es o q row low all.1 f ends)
  where
    same-row : Some e.1 ≡ Some row → e.1.ends ≡ least
    same-row f = some-same e.1.ends row.ends (ap ends_of f) ∙ ends

    here : (o : Option ℕ) → IfSome o (λ m. least ≤ m) → e.1.ends ≡ least → earlier o e ≡ Some least
    here None b f = ap (λ n. Some n) f
    here (Some m) b f = let same : min m e.1.ends ≡ least = omega (arith, b, f) in ap (λ n. Some n) same

    bounded : (o : Option ℕ) → IfSome o (λ m. least ≤ m) → IfSome (earlier o e) (λ m. least ≤ m)
    bounded None b = all.0
    bounded (Some m) b = let low = all.0 in let both : least ≤ min m e.1.ends = omega (arith, b, low) in both

    by : (t : Bool) → cond t (Some e.1) (row_at q es) ≡ Some row → ((o : Option ℕ) → IfSome o (λ m. least ≤ m) → row_at q es ≡ Some row → fold earlier o es ≡ Some least) → fold earlier (earlier before e) es ≡ Some least
    by true f rest = ap (λ o. fold earlier o es) (here before bound (same-row f)) ∙ least-kept least es all.1
    by false f rest = rest (earlier before e) (bounded before bound) f

-- the row of a key that has a moment
record RowOf (q : Key) (moment : ℕ) (rows : LinkRows) : Type 0 where
  row : HeardRow
  is : row_at q rows ≡ Some row
  ends : row.ends ≡ moment

row-of : (q : Key) (moment : ℕ) (rows : LinkRows) → Some moment ≡ ends_of (row_at q rows) → RowOf q moment rows
row-of q moment rows e = by (row_at q rows) refl e
  where
    by : (o : Option HeardRow) → row_at q rows ≡ o → Some moment ≡ ends_of o → RowOf q moment rows
    by None is f = absurd cc
    by (Some row) is f = record { row = row; is = is; ends = sym (some-same moment row.ends f) }

pub next_is : (ds : Deadlines Key) (rows : LinkRows) → AreDeadlines key_cmp ds → Rising rows → AreEnds ds rows → next_end rows ≡ first_moment ds
next_is [] [] are rising ends = refl
next_is [] (e ∷ es) are rising ends =
    let none : None ≡ Some e.1.ends = ends e.0 ∙ ap (λ b. ends_of (cond b (Some e.1) (row_at e.0 es))) (same_key-self e.0) in
    absurd cc
next_is (d ∷ ds) rows are rising ends =
    let found = row-of d.1 d.0 rows (sym (ap (λ b. option_map (λ (x : ℕ × Key). x.0) (cond b (Some d) (find (is_of key_cmp d.1) ds))) (same_key-self d.1)) ∙ ends d.1) in
    least-found d.0 rows None d.1 found.row tt (least_bounds (d ∷ ds) rows d.0 are rising ends refl) found.is found.ends
