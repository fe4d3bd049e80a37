-- The rows whose keys are due are those that have ended.
use Rattle.std.proofs.Common.{◌≡◌, ℕ, zero, suc, ◌+◌, ◌<◌, ◌≤◌, Bool, true, false, cond, not, ◌||◌, [], ◌∷◌, drop, filter, fold, length, get_or, nat_lt, nat_le, Some, None, option_map, refl, sym, ap, ◌∙◌, arith}
use Rattle.std.specs.List.{list_any, find, IsDistinct, AllByRecursion}
use Rattle.std.specs.declared.cmp.Ordering.TheVariants.{Less}
use Rattle.std.proofs.lemmas.Bool.{le-leb}
use Rattle.std.proofs.lemmas.Bool.Decides.{leb_tells}
use Rattle.std.proofs.lemmas.List.{drop_more}
use Rattle.clockqueue.specs.Deadlines.{Deadlines, AreDeadlines, due_cmp, is_of, moment_of, due, first_moment}
use Rattle.clockqueue.proofs.Keyed.{first-before, behind_first}
use Rattle.rrset.specs.declared.record.Key.{Key}
use Rattle.rrset.specs.Records.{key_cmp, same_key}
use Rattle.rrset.specs.KeyedRows.{only_rows, row_at}
use Rattle.rrset.proofs.KeyOrder.{key_cmp_total}
use Rattle.rrset.proofs.SameRows.{same_key-self, same_key-same}
use Rattle.rrset.proofs.WithChanges.{same_key-turned}
use Rattle.linkcache.specs.declared.row.HeardRow.{HeardRow}
use Rattle.linkcache.specs.Rows.{LinkRows, at_moment}
use Rattle.linkcache.specs.Parts.{copied, fails}
use Rattle.linkcache.specs.Ends.{AreEnds, has_come, is_due}
use Rattle.linkcache.proofs.KeyedParts.{Rising, own, only-same, parted}
use Rattle.linkcache.proofs.Copies.{copied-all}
use Rattle.linkcache.proofs.RowEnds.{ends_of, not_before, nothing_before}

-- ---- a key is due where its moment has come

none_due : (now : ℕ) (q : Key) (d : ℕ × Key) (ds : Deadlines Key) → same_key q d.1 ≡ true → AllByRecursion (λ (e : ℕ × Key). is_of key_cmp e.1 d ≡ false) ds → is_due now ds q ≡ false
none_due now q d [] same none = refl
none_due now q d (e ∷ es) same none = by (nat_le e.0 now) (none_due now q d es same none.1)
  where
    other : same_key q e.1 ≡ false
    other = ap (λ k. same_key k e.1) (same_key-same q d.1 same) ∙ none.0

    by : (b : Bool) → is_due now es q ≡ false → list_any (λ x. same_key q x.1) (cond b (e ∷ due now es) (due now es)) ≡ false
    by true rest = ap (λ b. b || is_due now es q) other ∙ rest
    by false rest = rest

pub due-by_moment : (now : ℕ) (q : Key) (ds : Deadlines Key) → IsDistinct (λ d e. is_of key_cmp e.1 d) ds → is_due now ds q ≡ has_come now (moment_of key_cmp q ds)
unfolding IsDistinct
due-by_moment now q [] h = refl
due-by_moment now q (d ∷ ds) h = by (nat_le d.0 now) (same_key q d.1) refl refl (due-by_moment now q ds h.1) ∙ ap (λ b. has_come now (option_map (λ (x : ℕ × Key). x.0) (cond b (Some d) (find (is_of key_cmp q) ds)))) (same_key-turned q d.1)
  where
    by : (a b : Bool) → nat_le d.0 now ≡ a → same_key q d.1 ≡ b → is_due now ds q ≡ has_come now (moment_of key_cmp q ds)
        → list_any (λ x. same_key q x.1) (cond a (d ∷ due now ds) (due now ds)) ≡ has_come now (option_map (λ (x : ℕ × Key). x.0) (cond b (Some d) (find (is_of key_cmp q) ds)))
    by true true a-is b-is rest = ap (λ b. b || is_due now ds q) b-is ∙ sym a-is
    by true false a-is b-is rest = ap (λ b. b || is_due now ds q) b-is ∙ rest
    by false true a-is b-is rest = none_due now q d ds b-is h.0 ∙ sym a-is
    by false false a-is b-is rest = rest

-- ---- the rows of the keys that are due

pub due-part : (now : ℕ) (ds : Deadlines Key) (rows : LinkRows) → Rising rows → fold (λ part d. copied rows part d.1) [] (due now ds) ≡ only_rows (is_due now ds) rows
due-part now ds rows h =
    copied-all (λ (d : ℕ × Key). d.1) rows h (due now ds) (λ q. false) [] (nothing rows)
    ∙ only-same (λ q. is_due now ds q || false) (is_due now ds) (λ q. last (is_due now ds q)) rows
  where
    nothing : (es : LinkRows) → [] ≡ only_rows (λ q. false) es
    nothing [] = refl
    nothing (e ∷ es) = nothing es

    last : (b : Bool) → (b || false) ≡ b
    last true = refl
    last false = refl

later-stays : (now ends : ℕ) → nat_le ends now ≡ not (nat_lt now ends)
later-stays now ends = grind (arith, leb_tells ends now, leb_tells (suc now) ends)

due-ended : (now : ℕ) (ds : Deadlines Key) (rows : LinkRows) → IsDistinct (λ d e. is_of key_cmp e.1 d) ds → AreEnds ds rows → (es : LinkRows) → AllByRecursion (λ (e : Key × HeardRow). row_at e.0 rows ≡ Some e.1) es
    → AllByRecursion (λ (e : Key × HeardRow). is_due now ds e.0 ≡ not (nat_lt now e.1.ends)) es
due-ended now ds rows h are [] all = tt
due-ended now ds rows h are (e ∷ es) all =
    (due-by_moment now e.0 ds h ∙ ap (has_come now) (are e.0 ∙ ap ends_of all.0) ∙ later-stays now e.1.ends, due-ended now ds rows h are es all.1)

-- what is due is all that goes
pub due-goes : (now : ℕ) (ds : Deadlines Key) (rows : LinkRows) → AreDeadlines key_cmp ds → Rising rows → AreEnds ds rows
    → (only_rows (is_due now ds) (at_moment rows now) ≡ []) × (only_rows (fails (is_due now ds)) rows ≡ only_rows (fails (is_due now ds)) (at_moment rows now))
due-goes now ds rows are h ends = parted (is_due now ds) (λ e. nat_lt now e.1.ends) rows (due-ended now ds rows are.keys ends rows (own rows h))

all-parted : (p : Key → Bool) (goes : Key × HeardRow → Bool) (es : LinkRows) → AllByRecursion (λ e. p e.0 ≡ not (goes e)) es → only_rows (fails p) es ≡ filter goes es
all-parted p goes [] h = refl
all-parted p goes (e ∷ es) h = ap (λ b. cond b (e ∷ only_rows (fails p) es) (only_rows (fails p) es)) (ap not h.0 ∙ twice (goes e)) ∙ ap (λ l. cond (goes e) (e ∷ l) l) (all-parted p goes es h.1)
  where
    twice : (b : Bool) → not (not b) ≡ b
    twice true = refl
    twice false = refl

pub due-rows_go : (now : ℕ) (ds : Deadlines Key) (rows : LinkRows) → AreDeadlines key_cmp ds → Rising rows → AreEnds ds rows
    → ((key : Key) → is_due now ds key ≡ has_come now (ends_of (row_at key rows))) × (only_rows (fails (is_due now ds)) rows ≡ at_moment rows now)
due-rows_go now ds rows are h ends = (
  λ key. due-by_moment now key ds are.keys ∙ ap (has_come now) (ends key),
  all-parted (is_due now ds) (λ e. nat_lt now e.1.ends) rows (due-ended now ds rows are.keys ends rows (own rows h)),
)

-- where the least moment hasn't come, nothing goes
pub none-come : (now : ℕ) (ds : Deadlines Key) (rows : LinkRows) → AreDeadlines key_cmp ds → Rising rows → AreEnds ds rows → has_come now (first_moment ds) ≡ false → at_moment rows now ≡ rows
none-come now [] [] are h ends none = refl
none-come now [] (e ∷ es) are h ends none =
    let nowhere : None ≡ Some e.1.ends = ends e.0 ∙ ap (λ b. ends_of (cond b (Some e.1) (row_at e.0 es))) (same_key-self e.0) in
    absurd cc
none-come now (d ∷ ds) rows are h ends none = let before : now < d.0 = grind (arith, none, leb_tells d.0 now) in nothing_before (d ∷ ds) rows now d.0 are h ends refl before

-- ---- deadlines in order

none_behind : (now : ℕ) (d : ℕ × Key) (es : Deadlines Key) → now < d.0 → AllByRecursion (λ e. due_cmp key_cmp d e ≡ Less) es → due now es ≡ []
none_behind now d [] later h = refl
none_behind now d (e ∷ es) later h =
    let after = not_before d e h.0 in
    let past : nat_le e.0 now ≡ false = grind (arith, leb_tells e.0 now) in
    ap (λ b. cond b (e ∷ due now es) (due now es)) past ∙ none_behind now d es later h.1

none-from : (now : ℕ) (d : ℕ × Key) (ds : Deadlines Key) → AreDeadlines key_cmp (d ∷ ds) → now < d.0 → due now (d ∷ ds) ≡ []
none-from now d ds are later =
    let past : nat_le d.0 now ≡ false = grind (arith, leb_tells d.0 now) in
    ap (λ b. cond b (d ∷ due now ds) (due now ds)) past ∙ none_behind now d ds later (first-before key_cmp_total d ds are)

-- from a later deadline on none is due
pub later-none : (now : ℕ) (ds : Deadlines Key) (i : ℕ) (d : ℕ × Key) → AreDeadlines key_cmp ds → i < length ds → now < (get_or ds i d).0 → due now (drop i ds) ≡ []
later-none now [] i d are within later = absurd (omega arith)
later-none now (e ∷ es) zero d are within later = none-from now e es are later
later-none now (e ∷ es) (suc i) d are within later = later-none now es i d (behind_first key_cmp_total (e ∷ es) are) (omega arith) later

pub due-more : (now : ℕ) (ds : Deadlines Key) (i : ℕ) (d : ℕ × Key) → i < length ds → d ≡ get_or ds i d → d.0 ≤ now → due now (drop i ds) ≡ d ∷ due now (drop (i + 1) ds)
due-more now ds i d within is before = let come : nat_le d.0 now ≡ true = le-leb d.0 now before in ap (due now) (drop_more ds i d within) ∙ ap (λ x. due now (x ∷ drop (i + 1) ds)) (sym is) ∙ ap (λ b. cond b (d ∷ due now (drop (i + 1) ds)) (due now (drop (i + 1) ds))) come
