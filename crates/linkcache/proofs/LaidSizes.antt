-- How many rows there are with others laid over them, and how many octets of an owner.
use Rattle.std.proofs.Common.{◌≡◌, ℕ, suc, ◌+◌, ◌<◌, Bool, true, false, cond, not, T, [], ◌∷◌, ◌++◌, drop, get_or, length, min, Option, Some, None, is_some, refl, sym, ap, ◌∙◌, arith}
use Rattle.std.specs.Prelude.{sum_by}
use Rattle.std.specs.Option.{MatchOption}
use Rattle.std.proofs.lemmas.List.{append_assoc, drop_more}
use Rattle.std.specs.Ordering.{is_eq, is_lt}
use Rattle.std.specs.FinMap.Entries.{below_all, by_order}
use Rattle.std.specs.declared.cmp.Ordering.{Ordering}
use Rattle.std.specs.declared.cmp.Ordering.TheVariants.{Less, Equal, Greater}
use Rattle.dnsname.specs.Names.{Labels, same_name}
use Rattle.rrset.specs.declared.record.Key.{Key}
use Rattle.rrset.specs.Records.{key_cmp, same_key}
use Rattle.rrset.specs.KeyedRows.{put_row, only_rows, row_at, rows_of}
use Rattle.rrset.specs.Tables.{counted}
use Rattle.rrset.proofs.Places.{and_left, and_right}
use Rattle.linkmap.proofs.OneSize.{size_as_one}
use Rattle.linkcache.specs.declared.row.HeardRow.{HeardRow}
use Rattle.linkcache.specs.declared.rules.LinkRules.{LinkRules}
use Rattle.linkcache.specs.Rows.{LinkRows, rr_of_row, size_under}
use Rattle.linkcache.specs.Parts.{laid}
use Rattle.linkcache.specs.Sound.{AreLinkRows}
use Rattle.linkcache.proofs.KeyedParts.{Rising}
use Rattle.linkcache.proofs.LaidRows.{either, row_at-laid, rising-laid}
use Rattle.linkcache.proofs.OwnerSizes.{row_size, size_if, size-cons, replaces, found-key}

-- a key before others is none of them
pub below-none : (x : Key) (es : LinkRows) → T (below_all key_cmp x es) → row_at x es ≡ None
below-none x [] below = refl
below-none x (e ∷ es) below = ap (λ b. cond b (Some e.1) (row_at x es)) (same_key-less x e.0 (and_left _ _ below)) ∙ below-none x es (and_right _ _ below)
  where
    same_key-less : (k l : Key) → T (is_lt (key_cmp k l)) → same_key k l ≡ false
    same_key-less k l less = by (key_cmp k l) less
      where
        by : (o : Ordering) → T (is_lt o) → is_eq o ≡ false
        by Less h = refl
        by Equal h = absurd h
        by Greater h = refl

-- a row put where its key has none
pub adds : (rules : LinkRules) (owner : Labels) (k : Key) (v : HeardRow) (rows : LinkRows) → row_at k rows ≡ None → size_under rules owner (put_row k v rows) ≡ size_under rules owner rows + size_if rules owner (k, v)
adds rules owner k v [] absent = let first = size-cons rules owner (k, v) [] in omega (arith, first)
adds rules owner k v (e ∷ es) absent = by (key_cmp k e.0) absent (λ none. adds rules owner k v es none)
  where
    by : (o : Ordering) → cond (is_eq o) (Some e.1) (row_at k es) ≡ None → (row_at k es ≡ None → size_under rules owner (put_row k v es) ≡ size_under rules owner es + size_if rules owner (k, v))
        → size_under rules owner (by_order o ((k, v) ∷ e ∷ es) ((e.0, v) ∷ es) (e ∷ put_row k v es)) ≡ size_under rules owner (e ∷ es) + size_if rules owner (k, v)
    by Less none rest = let first = size-cons rules owner (k, v) (e ∷ es) in omega (arith, first)
    by Equal none rest = absurd cc
    by Greater none rest =
        let behind = rest none in
        let first = size-cons rules owner e (put_row k v es) in
        let all = size-cons rules owner e es in
        omega (arith, behind, first, all)

-- the rows whose keys others don't have
abbrev pub new_in : LinkRows → LinkRows → LinkRows
new_in rows over = only_rows (λ key. not (is_some (row_at key rows))) over

-- the new ones among rows from a place on
module _ (rows es : LinkRows) (i : ℕ) (e : Key × HeardRow) (within : i < length es) (is : e ≡ get_or es i e) where
  from : new_in rows (drop i es) ≡ cond (not (is_some (row_at e.0 rows))) (e ∷ new_in rows (drop (i + 1) es)) (new_in rows (drop (i + 1) es))
  from = ap (new_in rows) (drop_more es i e within) ∙ ap (λ (x : Key × HeardRow). new_in rows (x ∷ drop (i + 1) es)) (sym is)

  pub new-more : (front now target : LinkRows) → row_at e.0 rows ≡ None → now ≡ front ++ e ∷ [] → front ++ new_in rows (drop i es) ≡ target → now ++ new_in rows (drop (i + 1) es) ≡ target
  new-more front now target none now-is so_far =
      ap (λ (l : LinkRows). l ++ new_in rows (drop (i + 1) es)) now-is
      ∙ append_assoc front (e ∷ []) (new_in rows (drop (i + 1) es))
      ∙ ap (λ (l : LinkRows). front ++ l) (sym (from ∙ ap (λ (o : Option HeardRow). cond (not (is_some o)) (e ∷ new_in rows (drop (i + 1) es)) (new_in rows (drop (i + 1) es))) none))
      ∙ so_far

  pub new-skip : (front now target : LinkRows) → is_some (row_at e.0 rows) ≡ true → now ≡ front → front ++ new_in rows (drop i es) ≡ target → now ++ new_in rows (drop (i + 1) es) ≡ target
  new-skip front now target some now-is so_far =
      ap (λ (l : LinkRows). l ++ new_in rows (drop (i + 1) es)) now-is
      ∙ ap (λ (l : LinkRows). front ++ l) (sym (from ∙ ap (λ b. cond (not b) (e ∷ new_in rows (drop (i + 1) es)) (new_in rows (drop (i + 1) es))) some))
      ∙ so_far

pub none-at : {A : Type 0} (now : A → HeardRow) (key : Key) (rows : LinkRows) (o : Option A) → MatchOption o (row_at key rows ≡ None) (λ a. row_at key rows ≡ Some (now a)) → is_some o ≡ false → row_at key rows ≡ None
none-at now key rows None h e = h
none-at now key rows (Some a) h e = absurd cc

pub some-at : {A : Type 0} (now : A → HeardRow) (key : Key) (rows : LinkRows) (o : Option A) → MatchOption o (row_at key rows ≡ None) (λ a. row_at key rows ≡ Some (now a)) → is_some o ≡ true → is_some (row_at key rows) ≡ true
some-at now key rows None h e = absurd cc
some-at now key rows (Some a) h e = ap (λ (o : Option HeardRow). is_some o) h

-- a key that is new stands where it stands over the others
here : (e : Key × HeardRow) (es rows : LinkRows) → Rising (e ∷ es) → row_at e.0 (laid es rows) ≡ row_at e.0 rows
here e es rows g = row_at-laid e.0 es rows ∙ ap (λ (o : Option HeardRow). either o (row_at e.0 rows)) (below-none e.0 es (and_left _ _ g))

pub length-absent : (k : Key) (v : HeardRow) (rows : LinkRows) → row_at k rows ≡ None → length (put_row k v rows) ≡ suc (length rows)
length-absent k v [] absent = refl
length-absent k v (e ∷ es) absent = by (key_cmp k e.0) absent (λ none. length-absent k v es none)
  where
    by : (o : Ordering) → cond (is_eq o) (Some e.1) (row_at k es) ≡ None → (row_at k es ≡ None → length (put_row k v es) ≡ suc (length es))
        → length (by_order o ((k, v) ∷ e ∷ es) ((e.0, v) ∷ es) (e ∷ put_row k v es)) ≡ suc (length (e ∷ es))
    by Less none rest = refl
    by Equal none rest = absurd cc
    by Greater none rest = ap (λ n. suc n) (rest none)

module _ (rules : LinkRules) (owner : Labels) (rows : LinkRows) (h : Rising rows) (sound : AreLinkRows rules rows) where
  pub laid-size : (over : LinkRows) → Rising over → AreLinkRows rules over → size_under rules owner (laid over rows) ≡ size_under rules owner rows + size_under rules owner (new_in rows over)
  laid-size [] g are = omega arith
  laid-size (e ∷ es) g are = by (row_at e.0 rows) refl (laid-size es (and_right _ _ g) are.1)
    where
      rest : LinkRows
      rest = new_in rows es

      as_one : (old : HeardRow) → row_at e.0 rows ≡ Some old → row_size rules e ≡ row_size rules (e.0, old)
      as_one old found = size_as_one rules.domain (rr_of_row e) (rr_of_row (e.0, old)) (are.0.key ∙ sym (found-key rules e.0 old rows sound found))

      by : (o : Option HeardRow) → row_at e.0 rows ≡ o → size_under rules owner (laid es rows) ≡ size_under rules owner rows + size_under rules owner rest
          → size_under rules owner (laid (e ∷ es) rows) ≡ size_under rules owner rows + size_under rules owner (new_in rows (e ∷ es))
      by None is behind =
          let one : size_under rules owner (laid (e ∷ es) rows) ≡ size_under rules owner (laid es rows) + size_if rules owner e = adds rules owner e.0 e.1 (laid es rows) (here e es rows g ∙ is) in
          let first = size-cons rules owner e rest in
          let new : size_under rules owner (new_in rows (e ∷ es)) ≡ size_under rules owner (e ∷ rest) = ap (λ (o : Option HeardRow). size_under rules owner (cond (not (is_some o)) (e ∷ rest) rest)) is in
          omega (arith, one, first, new, behind)
      by (Some old) is behind =
          let one : size_under rules owner (laid (e ∷ es) rows) ≡ size_under rules owner (laid es rows) = (replaces rules owner e.0 e.1 old (laid es rows) (rising-laid es rows h) (here e es rows g ∙ is) (as_one old is)).size in
          let new : size_under rules owner (new_in rows (e ∷ es)) ≡ size_under rules owner rest = ap (λ (o : Option HeardRow). size_under rules owner (cond (not (is_some o)) (e ∷ rest) rest)) is in
          omega (arith, one, new, behind)

-- parts by two tests are one in either order
only-turn : (p q : Key → Bool) (rows : LinkRows) → only_rows p (only_rows q rows) ≡ only_rows q (only_rows p rows)
only-turn p q [] = refl
only-turn p q (e ∷ es) = by (p e.0) (q e.0) refl refl (only-turn p q es)
  where
    by : (a b : Bool) → p e.0 ≡ a → q e.0 ≡ b → only_rows p (only_rows q es) ≡ only_rows q (only_rows p es)
        → only_rows p (cond b (e ∷ only_rows q es) (only_rows q es)) ≡ only_rows q (cond a (e ∷ only_rows p es) (only_rows p es))
    by true true p-is q-is h =
        ap (λ c. cond c (e ∷ only_rows p (only_rows q es)) (only_rows p (only_rows q es))) p-is ∙ ap (λ (l : LinkRows). e ∷ l) h
        ∙ sym (ap (λ c. cond c (e ∷ only_rows q (only_rows p es)) (only_rows q (only_rows p es))) q-is)
    by true false p-is q-is h = h ∙ sym (ap (λ c. cond c (e ∷ only_rows q (only_rows p es)) (only_rows q (only_rows p es))) q-is)
    by false true p-is q-is h = ap (λ c. cond c (e ∷ only_rows p (only_rows q es)) (only_rows p (only_rows q es))) p-is ∙ h
    by false false p-is q-is h = h

-- the octets of an owner's rows, and of those laid over them that are new
pub size-both : (rules : LinkRules) (owner : Labels) (rows over new : LinkRows) (all there added : ℕ) → size_under rules owner (laid over rows) ≡ size_under rules owner rows + size_under rules owner (new_in rows over)
    → new ≡ new_in rows (rows_of owner over) → all ≡ min (there + added) 18446744073709551615
    → there ≡ counted (size_under rules owner rows) → added ≡ counted (sum_by (row_size rules) new) → all ≡ counted (size_under rules owner (laid over rows))
size-both rules owner rows over new all there added size new-is all-is there-is added-is =
    let turned : sum_by (row_size rules) new ≡ size_under rules owner (new_in rows over) = ap (λ (l : LinkRows). sum_by (row_size rules) l) (new-is ∙ only-turn (λ key. not (is_some (row_at key rows))) (λ key. same_name owner key.owner) over) in
    omega (arith, size, all-is, there-is, added-is, turned)
