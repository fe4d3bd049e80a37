-- The moments at which rows end: what a change makes of them, and that none comes before the least.
use Rattle.std.proofs.Common.{◌≡◌, ℕ, suc, ◌<◌, ◌≤◌, Bool, true, false, cond, List, [], ◌∷◌, fold, nat_lt, Option, Some, None, option_map, refl, sym, ap, subst, ◌∙◌, arith}
use Rattle.std.specs.Ordering.{nat_cmp, ordering_then}
use Rattle.std.specs.List.{AllByRecursion, find}
use Rattle.std.specs.declared.cmp.Ordering.{Ordering}
use Rattle.std.specs.declared.cmp.Ordering.TheVariants.{Less, Equal, Greater}
use Rattle.std.proofs.lemmas.Bool.{le-leb}
use Rattle.std.proofs.lemmas.Cmp.{ranked}
use Rattle.clockqueue.specs.Deadlines.{Deadlines, AreDeadlines, due_cmp, is_of, moment_of, without, with_deadline, first_moment}
use Rattle.clockqueue.proofs.Keyed.{moment-with, moment-without, first-before}
use Rattle.rrset.specs.Records.{key_cmp, same_key}
use Rattle.rrset.specs.declared.record.Key.{Key}
use Rattle.rrset.specs.KeyedRows.{row_at}
use Rattle.rrset.proofs.KeyOrder.{key_cmp_total}
use Rattle.rrset.proofs.WithChanges.{same_key-turned}
use Rattle.linkcache.specs.declared.row.HeardRow.{HeardRow}
use Rattle.linkcache.specs.declared.plan.RowChange.{RowChange}
use Rattle.linkcache.specs.Rows.{LinkRows, at_moment}
use Rattle.linkcache.specs.Plans.{with_row_change, with_row_changes}
use Rattle.linkcache.specs.Ends.{AreEnds, with_end_change}
use Rattle.linkcache.proofs.KeyedParts.{Rising, own}
use Rattle.linkcache.proofs.Moves.{row_at-changed}

abbrev pub ends_of : Option HeardRow → Option ℕ
ends_of o = option_map (λ (row : HeardRow). row.ends) o

pub moment-changed : (q : Key) (ds : Deadlines Key) (c : RowChange) → moment_of key_cmp q (with_end_change ds c) ≡ cond (same_key q c.key) (ends_of c.after) (moment_of key_cmp q ds)
moment-changed q ds c = by c.after
  where
    by : (after : Option HeardRow) → moment_of key_cmp q (elim after [ None ↦ without key_cmp c.key ds | Some row ↦ with_deadline key_cmp c.key row.ends ds ]) ≡ cond (same_key q c.key) (ends_of after) (moment_of key_cmp q ds)
    by None = moment-without key_cmp_total q c.key ds ∙ ap (λ b. cond b None (moment_of key_cmp q ds)) (same_key-turned c.key q)
    by (Some row) = moment-with key_cmp_total q c.key row.ends ds ∙ ap (λ b. cond b (Some row.ends) (moment_of key_cmp q ds)) (same_key-turned c.key q)

pub kept : (ds : Deadlines Key) (rows : LinkRows) (c : RowChange) → AreEnds ds rows → AreEnds (with_end_change ds c) (with_row_change rows c)
kept ds rows c are q = moment-changed q ds c ∙ by (same_key q c.key) ∙ ap ends_of (sym (row_at-changed q rows c))
  where
    by : (b : Bool) → cond b (ends_of c.after) (moment_of key_cmp q ds) ≡ ends_of (cond b c.after (row_at q rows))
    by true = refl
    by false = are q

pub ends_kept : (cs : List RowChange) (ds : Deadlines Key) (rows : LinkRows) → AreEnds ds rows → AreEnds (fold with_end_change ds cs) (with_row_changes cs rows)
ends_kept [] ds rows are = are
ends_kept (c ∷ cs) ds rows are = ends_kept cs (with_end_change ds c) (with_row_change rows c) (kept ds rows c are)

-- ---- the least

pub not_before : (d e : ℕ × Key) → due_cmp key_cmp d e ≡ Less → d.0 ≤ e.0
not_before d e less = by (nat_cmp d.0 e.0) refl less
  where
    by : (r : Ordering) → nat_cmp d.0 e.0 ≡ r → ordering_then r (key_cmp d.1 e.1) ≡ Less → d.0 ≤ e.0
    by Less is l = omega (arith, ranked d.0 e.0 Less (sym is))
    by Equal is l = omega (arith, ranked d.0 e.0 Equal (sym is))
    by Greater is l = absurd cc

bounds : (d : ℕ × Key) (es : Deadlines Key) → AllByRecursion (λ e. due_cmp key_cmp d e ≡ Less) es → AllByRecursion (λ (e : ℕ × Key). d.0 ≤ e.0) es
bounds d [] h = tt
bounds d (e ∷ es) h = (not_before d e h.0, bounds d es h.1)

pub some-same : (a b : ℕ) → Some a ≡ Some b → a ≡ b
some-same a b e = ap (λ (o : Option ℕ). elim o [ None ↦ a | Some x ↦ x ]) e

at_least : (least : ℕ) (ds : Deadlines Key) → AllByRecursion (λ (e : ℕ × Key). least ≤ e.0) ds → (key : Key) (moment : ℕ) → moment_of key_cmp key ds ≡ Some moment → least ≤ moment
at_least least [] all key moment is = absurd cc
at_least least (d ∷ ds) all key moment is = by (is_of key_cmp key d) (at_least least ds all.1 key moment) is
  where
    by : (b : Bool) → (moment_of key_cmp key ds ≡ Some moment → least ≤ moment) → option_map (λ (x : ℕ × Key). x.0) (cond b (Some d) (find (is_of key_cmp key) ds)) ≡ Some moment → least ≤ moment
    by true rest e = subst (λ n. least ≤ n) (some-same d.0 moment e) all.0
    by false rest e = rest e

least-first : (ds : Deadlines Key) (least : ℕ) → AreDeadlines key_cmp ds → first_moment ds ≡ Some least → AllByRecursion (λ (e : ℕ × Key). least ≤ e.0) ds
least-first [] least are is = tt
least-first (d ∷ ds) least are is =
    subst (λ n. AllByRecursion (λ (e : ℕ × Key). n ≤ e.0) (d ∷ ds)) (some-same d.0 least is) (omega arith, bounds d ds (first-before key_cmp_total d ds are))

-- ---- before the least nothing ends

lt-nat_lt : (a b : ℕ) → a < b → nat_lt a b ≡ true
lt-nat_lt a b h = le-leb (suc a) b (omega arith)

all_stay : (rows : LinkRows) (now least : ℕ) → now < least → AllByRecursion (λ (e : Key × HeardRow). least ≤ e.1.ends) rows → at_moment rows now ≡ rows
all_stay [] now least before h = refl
all_stay (e ∷ es) now least before h = ap (λ b. cond b (e ∷ at_moment es now) (at_moment es now)) (lt-nat_lt now e.1.ends (omega (arith, h.0))) ∙ ap (λ l. e ∷ l) (all_stay es now least before h.1)

no_sooner : (ds : Deadlines Key) (rows : LinkRows) (least : ℕ) → AllByRecursion (λ (e : ℕ × Key). least ≤ e.0) ds → AreEnds ds rows → (es : LinkRows)
    → AllByRecursion (λ (e : Key × HeardRow). row_at e.0 rows ≡ Some e.1) es → AllByRecursion (λ (e : Key × HeardRow). least ≤ e.1.ends) es
no_sooner ds rows least bound are [] all = tt
no_sooner ds rows least bound are (e ∷ es) all = (at_least least ds bound e.0 e.1.ends (are e.0 ∙ ap ends_of all.0), no_sooner ds rows least bound are es all.1)

-- no row ends before the least moment
pub least_bounds : (ds : Deadlines Key) (rows : LinkRows) (least : ℕ) → AreDeadlines key_cmp ds → Rising rows → AreEnds ds rows → first_moment ds ≡ Some least → AllByRecursion (λ (e : Key × HeardRow). least ≤ e.1.ends) rows
least_bounds ds rows least are rising ends first = no_sooner ds rows least (least-first ds least are first) ends rows (own rows rising)

pub nothing_before : (ds : Deadlines Key) (rows : LinkRows) (now least : ℕ) → AreDeadlines key_cmp ds → Rising rows → AreEnds ds rows → first_moment ds ≡ Some least → now < least → at_moment rows now ≡ rows
nothing_before ds rows now least are rising ends first before = all_stay rows now least before (least_bounds ds rows least are rising ends first)
