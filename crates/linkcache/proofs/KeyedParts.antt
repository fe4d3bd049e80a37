-- Rows as functions of keys, and their parts whose keys pass a test.
use Rattle.std.proofs.Common.{◌≡◌, ◌+◌, Bool, true, false, cond, not, ◌||◌, T, [], ◌∷◌, map, length, filter, Option, Some, None, refl, sym, ap, subst, ◌∙◌, arith}
use Rattle.std.specs.List.{list_any, AllByRecursion}
use Rattle.std.specs.Ordering.{is_eq, is_lt}
use Rattle.std.specs.declared.cmp.Ordering.{Ordering}
use Rattle.std.specs.declared.cmp.Ordering.TheVariants.{Less, Equal, Greater}
use Rattle.std.specs.FinMap.Entries.{same_entries, find-where_key, is_sorted-where_key, is_sorted-put, find-put, below_all}
use Rattle.rrset.specs.declared.record.Key.{Key}
use Rattle.rrset.specs.Records.{key_cmp, same_key}
use Rattle.rrset.proofs.KeyOrder.{key_cmp_total, key_cmp-IsAntisymmetric}
use Rattle.rrset.proofs.Sets.{alike, is_eq-Equal}
use Rattle.rrset.proofs.Places.{and_left, and_right, and_both}
use Rattle.rrset.proofs.SameRows.{same_key-self}
use Rattle.rrset.proofs.WithChanges.{same_key-turned}
use Rattle.rrset.specs.KeyedRows.{Rows, is_rising, row_at, put_row, only_rows}
use Rattle.linkcache.specs.Parts.{fails}

-- keys that are one pass alike
pub pass_alike : (p : Key → Bool) (q k : Key) → same_key q k ≡ true → p q ≡ p k
pass_alike p q k e = sym (alike p q k (is_eq-Equal (key_cmp q k) e))

pub not_both : (b : Bool) → b ≡ true → b ≡ false → ⊥
not_both b y n = let e : true ≡ false = sym y ∙ n in absurd cc

-- a key behind another isn't it
less-fails : (k x : Key) → T (is_lt (key_cmp k x)) → same_key x k ≡ false
less-fails k x l = by (same_key x k) refl
  where
    equal-not_less : (r : Ordering) → is_eq r ≡ true → T (is_lt r) → ⊥
    equal-not_less Less e h = absurd cc
    equal-not_less Equal e h = h
    equal-not_less Greater e h = h

    by : (b : Bool) → same_key x k ≡ b → same_key x k ≡ false
    by true is = absurd (equal-not_less (key_cmp k x) (same_key-turned k x ∙ is) l)
    by false is = is

module _ {X : Type 0} where
  abbrev pub Rising : Rows X → Type 0
  Rising rows = T (is_rising rows)

  pub same_maps : (a b : Rows X) → Rising a → Rising b → ((q : Key) → row_at q a ≡ row_at q b) → a ≡ b
  same_maps a b h g same = same_entries key_cmp key_cmp_total key_cmp-IsAntisymmetric a b h g same

  pub row_at-only : (p : Key → Bool) (q : Key) (rows : Rows X) → row_at q (only_rows p rows) ≡ cond (p q) (row_at q rows) None
  row_at-only p q rows = find-where_key key_cmp p q (alike p q) rows

  pub row_at-put : (q key : Key) (value : X) (rows : Rows X) → row_at q (put_row key value rows) ≡ cond (same_key q key) (Some value) (row_at q rows)
  row_at-put q key value rows = find-put key_cmp key_cmp_total q key value rows

  pub rising-put : (key : Key) (value : X) (rows : Rows X) → Rising rows → Rising (put_row key value rows)
  rising-put key value rows h = is_sorted-put key_cmp key_cmp_total key value rows h

  pub rising-only : (p : Key → Bool) (rows : Rows X) → Rising rows → Rising (only_rows p rows)
  rising-only p rows h = is_sorted-where_key key_cmp p rows h

  pub only-put-passed : (p : Key → Bool) (k : Key) (v : X) (rows : Rows X) → Rising rows → p k ≡ true → only_rows p (put_row k v rows) ≡ put_row k v (only_rows p rows)
  only-put-passed p k v rows h passes =
      same_maps (only_rows p (put_row k v rows)) (put_row k v (only_rows p rows)) (rising-only p (put_row k v rows) (rising-put k v rows h)) (rising-put k v (only_rows p rows) (rising-only p rows h))
      (λ q. row_at-only p q (put_row k v rows) ∙ ap (λ o. cond (p q) o None) (row_at-put q k v rows)
      ∙ by (same_key q k) (p q) (λ e. pass_alike p q k e ∙ passes) (row_at q rows)
      ∙ sym (row_at-put q k v (only_rows p rows) ∙ ap (λ o. cond (same_key q k) (Some v) o) (row_at-only p q rows)))
    where
      by : (t b : Bool) → (t ≡ true → b ≡ true) → (o : Option X) → cond b (cond t (Some v) o) None ≡ cond t (Some v) (cond b o None)
      by true true e o = refl
      by true false e o = absurd (not_both false (e refl) refl)
      by false b e o = refl

  pub only-put-failed : (p : Key → Bool) (k : Key) (v : X) (rows : Rows X) → Rising rows → p k ≡ false → only_rows p (put_row k v rows) ≡ only_rows p rows
  only-put-failed p k v rows h fails =
      same_maps (only_rows p (put_row k v rows)) (only_rows p rows) (rising-only p (put_row k v rows) (rising-put k v rows h)) (rising-only p rows h)
      (λ q. row_at-only p q (put_row k v rows) ∙ ap (λ o. cond (p q) o None) (row_at-put q k v rows)
      ∙ by (same_key q k) (p q) (λ e. pass_alike p q k e ∙ fails) (row_at q rows)
      ∙ sym (row_at-only p q rows))
    where
      by : (t b : Bool) → (t ≡ true → b ≡ false) → (o : Option X) → cond b (cond t (Some v) o) None ≡ cond b o None
      by true true e o = absurd (not_both true refl (e refl))
      by true false e o = refl
      by false b e o = refl

  pub length-parts : (p : Key → Bool) (rows : Rows X) → length (only_rows p rows) + length (only_rows (fails p) rows) ≡ length rows
  length-parts p [] = refl
  length-parts p (e ∷ es) = by (p e.0) (length-parts p es)
    where
      by : (b : Bool) → length (only_rows p es) + length (only_rows (fails p) es) ≡ length es
          → length (cond b (e ∷ only_rows p es) (only_rows p es)) + length (cond (not b) (e ∷ only_rows (fails p) es) (only_rows (fails p) es)) ≡ length (e ∷ es)
      by true h = omega arith
      by false h = omega arith

  -- ---- a change of values, which keeps each key

  abbrev pub KeepsKeys : (Key × X → Key × X) → Type 0
  KeepsKeys f = (e : Key × X) → (f e).0 ≡ e.0

  pub only-map : (p : Key → Bool) (f : Key × X → Key × X) → KeepsKeys f → (rows : Rows X) → only_rows p (map f rows) ≡ map f (only_rows p rows)
  only-map p f keeps [] = refl
  only-map p f keeps (e ∷ es) =
      ap (λ k. cond (p k) (f e ∷ only_rows p (map f es)) (only_rows p (map f es))) (keeps e) ∙ by (p e.0) (only-map p f keeps es)
    where
      by : (b : Bool) → only_rows p (map f es) ≡ map f (only_rows p es) → cond b (f e ∷ only_rows p (map f es)) (only_rows p (map f es)) ≡ map f (cond b (e ∷ only_rows p es) (only_rows p es))
      by true h = ap (λ l. f e ∷ l) h
      by false h = h

  -- what fails the test stays where each row that fails stays
  pub failed-map : (p : Key → Bool) (f : Key × X → Key × X) → KeepsKeys f → ((e : Key × X) → p e.0 ≡ false → f e ≡ e) → (rows : Rows X) → only_rows (fails p) (map f rows) ≡ only_rows (fails p) rows
  failed-map p f keeps stays [] = refl
  failed-map p f keeps stays (e ∷ es) =
      ap (λ k. cond (not (p k)) (f e ∷ only_rows (fails p) (map f es)) (only_rows (fails p) (map f es))) (keeps e) ∙ by (p e.0) refl (failed-map p f keeps stays es)
    where
      by : (b : Bool) → p e.0 ≡ b → only_rows (fails p) (map f es) ≡ only_rows (fails p) es
          → cond (not b) (f e ∷ only_rows (fails p) (map f es)) (only_rows (fails p) (map f es)) ≡ cond (not b) (e ∷ only_rows (fails p) es) (only_rows (fails p) es)
      by true is h = h
      by false is h = λ i. stays e is i ∷ h i

  below-map : (f : Key × X → Key × X) → KeepsKeys f → (x : Key) (rows : Rows X) → T (below_all key_cmp x rows) → T (below_all key_cmp x (map f rows))
  below-map f keeps x [] h = tt
  below-map f keeps x (e ∷ es) h = and_both _ _ (subst (λ k. T (is_lt (key_cmp x k))) (sym (keeps e)) (and_left _ _ h)) (below-map f keeps x es (and_right _ _ h))

  pub rising-map : (f : Key × X → Key × X) → KeepsKeys f → (rows : Rows X) → Rising rows → Rising (map f rows)
  rising-map f keeps [] h = tt
  rising-map f keeps (e ∷ es) h = and_both _ _ (subst (λ k. T (below_all key_cmp k (map f es))) (sym (keeps e)) (below-map f keeps e.0 es (and_left _ _ h))) (rising-map f keeps es (and_right _ _ h))

  below-filter : (g : Key × X → Bool) (x : Key) (rows : Rows X) → T (below_all key_cmp x rows) → T (below_all key_cmp x (filter g rows))
  below-filter g x [] h = tt
  below-filter g x (e ∷ es) h = by (g e) (below-filter g x es (and_right _ _ h))
    where
      by : (b : Bool) → T (below_all key_cmp x (filter g es)) → T (below_all key_cmp x (cond b (e ∷ filter g es) (filter g es)))
      by true rest = and_both _ _ (and_left _ _ h) rest
      by false rest = rest

  pub rising-filter : (g : Key × X → Bool) (rows : Rows X) → Rising rows → Rising (filter g rows)
  rising-filter g [] h = tt
  rising-filter g (e ∷ es) h = by (g e) (rising-filter g es (and_right _ _ h))
    where
      by : (b : Bool) → Rising (filter g es) → Rising (cond b (e ∷ filter g es) (filter g es))
      by true rest = and_both _ _ (below-filter g e.0 es (and_left _ _ h)) rest
      by false rest = rest

  -- ---- a test of keys inside the part

  -- a key that passes stands in the rows where it stands in the part
  pub any-part : (p : Key → Bool) (q : Key → Bool) → ((key : Key) → q key ≡ true → p key ≡ true) → (rows : Rows X) → list_any (λ e. q e.0) (only_rows p rows) ≡ list_any (λ e. q e.0) rows
  any-part p q within [] = refl
  any-part p q within (e ∷ es) = by (p e.0) (q e.0) refl refl (any-part p q within es)
    where
      by : (a b : Bool) → p e.0 ≡ a → q e.0 ≡ b → list_any (λ e. q e.0) (only_rows p es) ≡ list_any (λ e. q e.0) es
          → list_any (λ e. q e.0) (cond a (e ∷ only_rows p es) (only_rows p es)) ≡ (b || list_any (λ e. q e.0) es)
      by true b a-is b-is h = (λ i. b-is i || h i)
      by false true a-is b-is h = absurd (not_both (p e.0) (within e.0 b-is) a-is)
      by false false a-is b-is h = h

  pub only-within : (p q : Key → Bool) → ((key : Key) → q key ≡ true → p key ≡ true) → (rows : Rows X) → only_rows q (only_rows p rows) ≡ only_rows q rows
  only-within p q within [] = refl
  only-within p q within (e ∷ es) = by (p e.0) (q e.0) refl refl (only-within p q within es)
    where
      by : (a b : Bool) → p e.0 ≡ a → q e.0 ≡ b → only_rows q (only_rows p es) ≡ only_rows q es
          → only_rows q (cond a (e ∷ only_rows p es) (only_rows p es)) ≡ cond b (e ∷ only_rows q es) (only_rows q es)
      by true b a-is b-is h = ap (λ c. cond c (e ∷ only_rows q (only_rows p es)) (only_rows q (only_rows p es))) b-is ∙ ap (λ l. cond b (e ∷ l) l) h
      by false true a-is b-is h = absurd (not_both (p e.0) (within e.0 b-is) a-is)
      by false false a-is b-is h = h

  -- ---- each row is found by its key

  pub own : (rows : Rows X) → Rising rows → AllByRecursion (λ e. row_at e.0 rows ≡ Some e.1) rows
  own [] h = tt
  own (e ∷ es) h = (ap (λ b. cond b (Some e.1) (row_at e.0 es)) (same_key-self e.0), behind es (and_left _ _ h) (own es (and_right _ _ h)))
    where
      behind : (xs : Rows X) → T (below_all key_cmp e.0 xs) → AllByRecursion (λ x. row_at x.0 es ≡ Some x.1) xs → AllByRecursion (λ x. row_at x.0 (e ∷ es) ≡ Some x.1) xs
      behind [] below all = tt
      behind (x ∷ xs) below all = (ap (λ b. cond b (Some e.1) (row_at x.0 es)) (less-fails e.0 x.0 (and_left _ _ below)) ∙ all.0, behind xs (and_right _ _ below) all.1)

  -- tests that answer alike at each row give the same part
  pub only-agree : (p r : Key → Bool) (rows : Rows X) → AllByRecursion (λ e. p e.0 ≡ r e.0) rows → only_rows p rows ≡ only_rows r rows
  only-agree p r [] h = refl
  only-agree p r (e ∷ es) h = ap (λ b. cond b (e ∷ only_rows p es) (only_rows p es)) h.0 ∙ ap (λ l. cond (r e.0) (e ∷ l) l) (only-agree p r es h.1)

  pub only-same : (p r : Key → Bool) → ((key : Key) → p key ≡ r key) → (rows : Rows X) → only_rows p rows ≡ only_rows r rows
  only-same p r same rows = λ i. only_rows (λ key. same key i) rows

  -- what passes a second test that the first leaves nothing to
  pub parted : (p : Key → Bool) (stays : Key × X → Bool) (rows : Rows X) → AllByRecursion (λ e. p e.0 ≡ not (stays e)) rows
      → (only_rows p (filter stays rows) ≡ []) × (only_rows (fails p) rows ≡ only_rows (fails p) (filter stays rows))
  parted p stays [] h = (refl, refl)
  parted p stays (e ∷ es) h = by (stays e) (p e.0) refl h.0 (parted p stays es h.1)
    where
      by : (s b : Bool) → p e.0 ≡ b → b ≡ not s → (only_rows p (filter stays es) ≡ []) × (only_rows (fails p) es ≡ only_rows (fails p) (filter stays es))
          → (only_rows p (cond s (e ∷ filter stays es) (filter stays es)) ≡ []) × (cond (not b) (e ∷ only_rows (fails p) es) (only_rows (fails p) es) ≡ only_rows (fails p) (cond s (e ∷ filter stays es) (filter stays es)))
      by true true is e' rest = absurd cc
      by true false is e' rest = (
        ap (λ c. cond c (e ∷ only_rows p (filter stays es)) (only_rows p (filter stays es))) is ∙ rest.0,
        ap (λ l. e ∷ l) rest.1 ∙ sym (ap (λ c. cond (not c) (e ∷ only_rows (fails p) (filter stays es)) (only_rows (fails p) (filter stays es))) is),
      )
      by false true is e' rest = rest
      by false false is e' rest = absurd cc
