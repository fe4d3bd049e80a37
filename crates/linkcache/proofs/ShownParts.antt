-- What a link shows, of a part of its rows: rows that are one outside the part show the same but for what the part shows.
use Rattle.std.proofs.Common.{◌≡◌, Bool, true, false, cond, not, ◌&&◌, ◌||◌, [], ◌∷◌, fold, Option, Some, None, is_some, refl, sym, ap, ◌∙◌}
use Rattle.std.specs.List.{list_any, AllByRecursion}
use Rattle.dnsname.specs.Names.{IsName}
use Rattle.rrset.specs.declared.record.Rr.{Rr}
use Rattle.rrset.specs.declared.record.Key.{Key}
use Rattle.rrset.specs.declared.record.Shown.{Shown}
use Rattle.rrset.specs.Records.{key_of, shown_of, same_key}
use Rattle.rrset.specs.RecordSet.{RecordSet, put_rr, only, shown_at, changes}
use Rattle.rrset.proofs.Sets.{shown_at-put, shown_at-only, only_same}
use Rattle.rrset.proofs.InOrder.{InOrder, in_order-put, in_order-only, same_sets}
use Rattle.rrset.proofs.SameRows.{same_key-same}
use Rattle.rrset.proofs.Apart.{changes-apart}
use Rattle.rrset.proofs.Selected.{fails as set_fails}
use Rattle.reversemap.specs.BothKinds.{AreApart, shown_of as shown_by}
use Rattle.reversemap.proofs.ShownBoth.{each-by-itself}
use Rattle.linkcache.specs.declared.row.HeardRow.{HeardRow}
use Rattle.rrset.specs.KeyedRows.{only_rows}
use Rattle.linkcache.specs.Rows.{LinkRows, rr_of_row, put_shown, shown_rows}
use Rattle.linkcache.specs.Sound.{IsLinkRow, AreLinkRows}
use Rattle.linkcache.specs.Parts.{fails}
use Rattle.linkcache.proofs.KeyedParts.{not_both}
use Rattle.linkcache.specs.declared.rules.LinkRules.{LinkRules}

-- ---- the last row that shows a key

-- what a record shows of a key
abbrev shows : Key → Option Rr → Option Shown
shows k None = None
shows k (Some rr) = cond (same_key k (key_of rr)) (Some (shown_of rr)) None

abbrev row_shows : LinkRules → Key → Key × HeardRow → Option Shown
row_shows rules k row = shows k (shown_by rules.domain rules.cap (rr_of_row row))

abbrev later : Option Shown → Option Shown → Option Shown
later None before = before
later (Some shown) before = Some shown

abbrev last_shown : LinkRules → Key → Option Shown → LinkRows → Option Shown
last_shown rules k before [] = before
last_shown rules k before (row ∷ rows) = last_shown rules k (later (row_shows rules k row) before) rows

shown_at-put_shown : (rules : LinkRules) (k : Key) (set : RecordSet) (row : Key × HeardRow) → shown_at k (put_shown rules set row) ≡ later (row_shows rules k row) (shown_at k set)
shown_at-put_shown rules k set row = by (shown_by rules.domain rules.cap (rr_of_row row))
  where
    one : (b : Bool) (s : Shown) (o : Option Shown) → cond b (Some s) o ≡ later (cond b (Some s) None) o
    one true s o = refl
    one false s o = refl

    by : (o : Option Rr) → shown_at k (elim o [ None ↦ set | Some rr ↦ put_rr set rr ]) ≡ later (shows k o) (shown_at k set)
    by None = refl
    by (Some rr) = shown_at-put k (key_of rr) (shown_of rr) set ∙ one (same_key k (key_of rr)) (shown_of rr) (shown_at k set)

shown_at-fold : (rules : LinkRules) (k : Key) (rows : LinkRows) (set : RecordSet) → shown_at k (fold (put_shown rules) set rows) ≡ last_shown rules k (shown_at k set) rows
shown_at-fold rules k [] set = refl
shown_at-fold rules k (row ∷ rows) set = shown_at-fold rules k rows (put_shown rules set row) ∙ ap (λ o. last_shown rules k o rows) (shown_at-put_shown rules k set row)

shown_at-rows : (rules : LinkRules) (k : Key) (rows : LinkRows) → shown_at k (shown_rows rules rows) ≡ last_shown rules k None rows
shown_at-rows rules k rows = shown_at-fold rules k rows []

in_order-put_shown : (rules : LinkRules) (set : RecordSet) (row : Key × HeardRow) → InOrder set → InOrder (put_shown rules set row)
in_order-put_shown rules set row h = by (shown_by rules.domain rules.cap (rr_of_row row))
  where
    by : (o : Option Rr) → InOrder (elim o [ None ↦ set | Some rr ↦ put_rr set rr ])
    by None = h
    by (Some rr) = in_order-put (key_of rr) (shown_of rr) set h

in_order-fold : (rules : LinkRules) (rows : LinkRows) (set : RecordSet) → InOrder set → InOrder (fold (put_shown rules) set rows)
in_order-fold rules [] set h = h
in_order-fold rules (row ∷ rows) set h = in_order-fold rules rows (put_shown rules set row) (in_order-put_shown rules set row h)

pub in_order-shown : (rules : LinkRules) (rows : LinkRows) → InOrder (shown_rows rules rows)
in_order-shown rules rows = in_order-fold rules rows [] tt

-- ---- parts

-- no row that fails the test shows the key
abbrev Silent : LinkRules → (Key → Bool) → Key → LinkRows → Type 0
Silent rules p k rows = AllByRecursion (λ row. p row.0 ≡ false → row_shows rules k row ≡ None) rows

last-part : (rules : LinkRules) (p : Key → Bool) (k : Key) (rows : LinkRows) (before : Option Shown) → Silent rules p k rows → last_shown rules k before rows ≡ last_shown rules k before (only_rows p rows)
last-part rules p k [] before silent = refl
last-part rules p k (row ∷ rows) before silent = by (p row.0) refl (λ o. last-part rules p k rows o silent.1)
  where
    by : (b : Bool) → p row.0 ≡ b → ((o : Option Shown) → last_shown rules k o rows ≡ last_shown rules k o (only_rows p rows))
        → last_shown rules k (later (row_shows rules k row) before) rows ≡ last_shown rules k before (cond b (row ∷ only_rows p rows) (only_rows p rows))
    by true is rest = rest (later (row_shows rules k row) before)
    by false is rest = ap (λ o. last_shown rules k (later o before) rows) (silent.0 is) ∙ rest before

-- a key that no row shows
last-none : (rules : LinkRules) (k : Key) (rows : LinkRows) → AllByRecursion (λ row. row_shows rules k row ≡ None) rows → last_shown rules k None rows ≡ None
last-none rules k [] none = refl
last-none rules k (row ∷ rows) none = ap (λ o. last_shown rules k (later o None) rows) none.0 ∙ last-none rules k rows none.1

-- a row that passes the test shows the key
abbrev speaks : LinkRules → (Key → Bool) → Key → LinkRows → Bool
speaks rules p k rows = list_any (λ row. p row.0 && is_some (row_shows rules k row)) rows

-- such a row
record Speaker (rules : LinkRules) (p : Key → Bool) (k : Key) : Type 0 where
  row : Key × HeardRow
  sound : IsLinkRow rules row
  passes : p row.0 ≡ true
  shown : is_some (row_shows rules k row) ≡ true

speaker : (rules : LinkRules) (p : Key → Bool) (k : Key) (rows : LinkRows) → AreLinkRows rules rows → speaks rules p k rows ≡ true → Speaker rules p k
speaker rules p k [] sound some = absurd cc
speaker rules p k (row ∷ rows) sound some = by (p row.0) (is_some (row_shows rules k row)) refl refl (speaker rules p k rows sound.1) some
  where
    by : (a b : Bool) → p row.0 ≡ a → is_some (row_shows rules k row) ≡ b → (speaks rules p k rows ≡ true → Speaker rules p k) → ((a && b) || speaks rules p k rows) ≡ true → Speaker rules p k
    by true true passes shown rest any = record { row = row; sound = sound.0; passes = passes; shown = shown }
    by true false passes shown rest any = rest any
    by false b passes shown rest any = rest any

quiet : (rules : LinkRules) (p : Key → Bool) (k : Key) (rows : LinkRows) → speaks rules p k rows ≡ false → Silent rules (fails p) k rows
quiet rules p k [] none = tt
quiet rules p k (row ∷ rows) none = by (p row.0) (row_shows rules k row) refl refl (quiet rules p k rows) none
  where
    not-false : (b : Bool) → not b ≡ false → b ≡ true
    not-false true e = refl
    not-false false e = absurd cc

    by : (a : Bool) (o : Option Shown) → p row.0 ≡ a → row_shows rules k row ≡ o → (speaks rules p k rows ≡ false → Silent rules (fails p) k rows) → ((a && is_some o) || speaks rules p k rows) ≡ false
        → Silent rules (fails p) k (row ∷ rows)
    by true None passes shown rest any = (λ e. shown, rest any)
    by true (Some s) passes shown rest any = absurd cc
    by false o passes shown rest any = (λ e. absurd (not_both (p row.0) (not-false (p row.0) e) passes), rest any)

-- of a part that is quiet nothing is shown
quiet-none : (rules : LinkRules) (p : Key → Bool) (k : Key) (rows : LinkRows) → speaks rules p k rows ≡ false → AllByRecursion (λ row. row_shows rules k row ≡ None) (only_rows p rows)
quiet-none rules p k [] none = tt
quiet-none rules p k (row ∷ rows) none = by (p row.0) (row_shows rules k row) refl (quiet-none rules p k rows) none
  where
    by : (a : Bool) (o : Option Shown) → row_shows rules k row ≡ o → (speaks rules p k rows ≡ false → AllByRecursion (λ row. row_shows rules k row ≡ None) (only_rows p rows)) → ((a && is_some o) || speaks rules p k rows) ≡ false
        → AllByRecursion (λ row. row_shows rules k row ≡ None) (cond a (row ∷ only_rows p rows) (only_rows p rows))
    by true None shown rest any = (shown, rest any)
    by true (Some s) shown rest any = absurd cc
    by false o shown rest any = rest any

-- ---- two rows that show one key have one key

-- what is shown of a key is shown by a record with it
record Shows (k : Key) (o : Option Rr) : Type 0 where
  rr : Rr
  is : o ≡ Some rr
  key : key_of rr ≡ k

shows-some : (k : Key) (o : Option Rr) → is_some (shows k o) ≡ true → Shows k o
shows-some k None some = absurd cc
shows-some k (Some rr) some = by (same_key k (key_of rr)) refl some
  where
    by : (b : Bool) → same_key k (key_of rr) ≡ b → is_some (cond b (Some (shown_of rr)) None) ≡ true → Shows k (Some rr)
    by true is h = record { rr = rr; is = refl; key = sym (same_key-same k (key_of rr) is) }
    by false is h = absurd cc

module _ (rules : LinkRules) (name : IsName rules.domain) (apart : AreApart rules.domain rules.reverses) where
  one_key : (k : Key) (a b : Key × HeardRow) → IsLinkRow rules a → IsLinkRow rules b → is_some (row_shows rules k a) ≡ true → is_some (row_shows rules k b) ≡ true → a.0 ≡ b.0
  one_key k a b sound other first second =
      let x = shows-some k (shown_by rules.domain rules.cap (rr_of_row a)) first in
      let y = shows-some k (shown_by rules.domain rules.cap (rr_of_row b)) second in
      sym sound.key ∙ each-by-itself rules.domain rules.reverses rules.cap (rr_of_row a) (rr_of_row b) x.rr y.rr name apart sound.usable other.usable x.is y.is (x.key ∙ sym y.key) ∙ other.key

  -- where a row of the part shows the key, no other does
  alone : (p : Key → Bool) (k : Key) → Speaker rules p k → (rows : LinkRows) → AreLinkRows rules rows → Silent rules p k rows
  alone p k found [] sound = tt
  alone p k found (row ∷ rows) sound = (λ not_p. by (row_shows rules k row) refl not_p, alone p k found rows sound.1)
    where
      by : (o : Option Shown) → row_shows rules k row ≡ o → p row.0 ≡ false → row_shows rules k row ≡ None
      by None is not_p = is
      by (Some s) is not_p = absurd (not_both (p row.0) (ap p (one_key k row found.row sound.0 found.sound (ap is_some is) found.shown) ∙ found.passes) not_p)

  -- ---- changes

  module _ (p : Key → Bool) (old new : LinkRows) (sound : AreLinkRows rules old) (sound_new : AreLinkRows rules new) (agree : only_rows (fails p) old ≡ only_rows (fails p) new) where
    abbrev touched : Key → Bool
    touched k = speaks rules p k old || speaks rules p k new

    either : (k : Key) → touched k ≡ true → Speaker rules p k
    either k e = by (speaks rules p k old) refl e
      where
        by : (b : Bool) → speaks rules p k old ≡ b → (b || speaks rules p k new) ≡ true → Speaker rules p k
        by true is h = speaker rules p k old sound is
        by false is h = speaker rules p k new sound_new h

    neither : (k : Key) → touched k ≡ false → (speaks rules p k old ≡ false) × (speaks rules p k new ≡ false)
    neither k e = by (speaks rules p k old) refl e
      where
        by : (b : Bool) → speaks rules p k old ≡ b → (b || speaks rules p k new) ≡ false → (speaks rules p k old ≡ false) × (speaks rules p k new ≡ false)
        by true is h = absurd cc
        by false is h = (is, h)

    -- the touched keys are shown as the part shows them
    inside : (rows : LinkRows) → AreLinkRows rules rows → (k : Key) → touched k ≡ true → shown_at k (shown_rows rules rows) ≡ shown_at k (shown_rows rules (only_rows p rows))
    inside rows sound_rows k e =
        shown_at-rows rules k rows
        ∙ last-part rules p k rows None (alone p k (either k e) rows sound_rows)
        ∙ sym (shown_at-rows rules k (only_rows p rows))

    part : (rows : LinkRows) → AreLinkRows rules rows → ((k : Key) → touched k ≡ false → speaks rules p k rows ≡ false) → only touched (shown_rows rules rows) ≡ shown_rows rules (only_rows p rows)
    part rows sound_rows none =
        same_sets (only touched (shown_rows rules rows)) (shown_rows rules (only_rows p rows)) (in_order-only touched (shown_rows rules rows) (in_order-shown rules rows)) (in_order-shown rules (only_rows p rows))
        (λ k. shown_at-only touched k (shown_rows rules rows) ∙ by k (touched k) refl)
      where
        by : (k : Key) (b : Bool) → touched k ≡ b → cond b (shown_at k (shown_rows rules rows)) None ≡ shown_at k (shown_rows rules (only_rows p rows))
        by k true e = inside rows sound_rows k e
        by k false e = sym (shown_at-rows rules k (only_rows p rows) ∙ last-none rules k (only_rows p rows) (quiet-none rules p k rows (none k e)))

    -- the other keys are shown as before
    outside : (k : Key) → set_fails touched k ≡ true → shown_at k (shown_rows rules old) ≡ shown_at k (shown_rows rules new)
    outside k e =
        let none = neither k (not-true (touched k) e) in
        shown_at-rows rules k old ∙ last-part rules (fails p) k old None (quiet rules p k old none.0)
        ∙ ap (last_shown rules k None) agree
        ∙ sym (shown_at-rows rules k new ∙ last-part rules (fails p) k new None (quiet rules p k new none.1))
      where
        not-true : (b : Bool) → not b ≡ true → b ≡ false
        not-true true e = absurd cc
        not-true false e = refl

    pub changes-part : changes (shown_rows rules old) (shown_rows rules new) ≡ changes (shown_rows rules (only_rows p old)) (shown_rows rules (only_rows p new))
    changes-part =
        changes-apart touched (shown_rows rules old) (shown_rows rules new) (in_order-shown rules old)
        (only_same (set_fails touched) (shown_rows rules old) (shown_rows rules new) (in_order-shown rules old) (in_order-shown rules new) outside)
        ∙ (λ i. changes (part old sound (λ k e. (neither k e).0) i) (part new sound_new (λ k e. (neither k e).1) i))
