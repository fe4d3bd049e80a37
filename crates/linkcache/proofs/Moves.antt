-- The changes of a plan, made to the rows, give the later rows.
use Rattle.std.proofs.Common.{◌≡◌, Bool, true, false, cond, not, ◌||◌, List, [], ◌∷◌, ◌++◌, map, Option, Some, None, is_some, refl, sym, ap, ◌∙◌}
use Rattle.std.specs.List.{AllByRecursion}
use Rattle.dnsname.specs.Names.{IsName}
use Rattle.rrset.specs.declared.record.Key.{Key}
use Rattle.rrset.specs.Records.{same_key}
use Rattle.rrset.specs.RecordSet.{changes}
use Rattle.rrset.specs.Tables.{HasLowerOwner}
use Rattle.rrset.proofs.Places.{all_filter}
use Rattle.rrset.proofs.SameRows.{same_key-same}
use Rattle.rrset.proofs.WithChanges.{same_key-turned}
use Rattle.reversemap.specs.BothKinds.{AreApart}
use Rattle.linkcache.specs.declared.row.HeardRow.{HeardRow}
use Rattle.linkcache.specs.declared.plan.RowChange.{RowChange}
use Rattle.rrset.specs.KeyedRows.{put_row, without_rows, only_rows, row_at}
use Rattle.linkcache.specs.Rows.{LinkRows, shown_rows}
use Rattle.linkcache.specs.Plans.{LinkPlan, with_row_change, with_row_changes, change_to, moves, HaveLowerKeys, Leads, IsPlanBetween}
use Rattle.linkcache.specs.Sound.{AreLinkRows}
use Rattle.linkcache.specs.Within.{IsWithin}
use Rattle.linkcache.specs.Parts.{fails}
use Rattle.linkcache.proofs.KeyedParts.{Rising, same_maps, row_at-only, row_at-put, rising-put, rising-only}
use Rattle.linkcache.proofs.ShownParts.{changes-part}
use Rattle.linkcache.specs.declared.rules.LinkRules.{LinkRules}

row_at-without : (q key : Key) (rows : LinkRows) → row_at q (without_rows (same_key key) rows) ≡ cond (same_key q key) None (row_at q rows)
row_at-without q key rows = row_at-only (λ k. not (same_key key k)) q rows ∙ ap (λ b. cond (not b) (row_at q rows) None) (same_key-turned key q) ∙ by (same_key q key)
  where
    by : (b : Bool) → cond (not b) (row_at q rows) None ≡ cond b None (row_at q rows)
    by true = refl
    by false = refl

pub row_at-changed : (q : Key) (rows : LinkRows) (c : RowChange) → row_at q (with_row_change rows c) ≡ cond (same_key q c.key) c.after (row_at q rows)
row_at-changed q rows c = by c.after
  where
    by : (after : Option HeardRow) → row_at q (elim after [ None ↦ without_rows (same_key c.key) rows | Some row ↦ put_row c.key row rows ]) ≡ cond (same_key q c.key) after (row_at q rows)
    by None = row_at-without q c.key rows
    by (Some row) = row_at-put q c.key row rows

pub rising-changed : (rows : LinkRows) (c : RowChange) → Rising rows → Rising (with_row_change rows c)
rising-changed rows c h = by c.after
  where
    by : (after : Option HeardRow) → Rising (elim after [ None ↦ without_rows (same_key c.key) rows | Some row ↦ put_row c.key row rows ])
    by None = rising-only (λ k. not (same_key c.key k)) rows h
    by (Some row) = rising-put c.key row rows h

pub rising-changes : (cs : List RowChange) (rows : LinkRows) → Rising rows → Rising (with_row_changes cs rows)
rising-changes [] rows h = h
rising-changes (c ∷ cs) rows h = rising-changes cs (with_row_change rows c) (rising-changed rows c h)

-- changes to what other rows have, at the keys of a list
row_at-changes : (q : Key) (work es rows : LinkRows) → row_at q (with_row_changes (map (change_to work) es) rows) ≡ cond (is_some (row_at q es)) (row_at q work) (row_at q rows)
row_at-changes q work [] rows = refl
row_at-changes q work (e ∷ es) rows =
    row_at-changes q work es (with_row_change rows (change_to work e))
    ∙ ap (λ o. cond (is_some (row_at q es)) (row_at q work) o) (row_at-changed q rows (change_to work e))
    ∙ by (same_key q e.0) refl (is_some (row_at q es)) refl
  where
    by : (t : Bool) → same_key q e.0 ≡ t → (b : Bool) → is_some (row_at q es) ≡ b
        → cond b (row_at q work) (cond t (row_at e.0 work) (row_at q rows)) ≡ cond (is_some (cond t (Some e.1) (row_at q es))) (row_at q work) (row_at q rows)
    by true is true some = refl
    by true is false some = ap (λ k. row_at k work) (sym (same_key-same q e.0 is))
    by false is b some = ap (λ x. cond x (row_at q work) (row_at q rows)) (sym some)

is_some-append : (q : Key) (xs ys : LinkRows) → is_some (row_at q (xs ++ ys)) ≡ (is_some (row_at q xs) || is_some (row_at q ys))
is_some-append q [] ys = refl
is_some-append q (x ∷ xs) ys = by (same_key q x.0) (is_some-append q xs ys)
  where
    by : (b : Bool) → is_some (row_at q (xs ++ ys)) ≡ (is_some (row_at q xs) || is_some (row_at q ys)) → is_some (cond b (Some x.1) (row_at q (xs ++ ys))) ≡ (is_some (cond b (Some x.1) (row_at q xs)) || is_some (row_at q ys))
    by true h = refl
    by false h = h

-- a key is listed where either part has it
listed : (q : Key) (part work : LinkRows) → is_some (row_at q (only_rows (λ key. not (is_some (row_at key work))) part ++ work)) ≡ (is_some (row_at q part) || is_some (row_at q work))
listed q part work =
    is_some-append q (only_rows (λ key. not (is_some (row_at key work))) part) work
    ∙ ap (λ o. is_some o || is_some (row_at q work)) (row_at-only (λ key. not (is_some (row_at key work))) q part)
    ∙ by (row_at q part) (is_some (row_at q work))
  where
    by : (o : Option HeardRow) (b : Bool) → (is_some (cond (not b) o None) || b) ≡ (is_some o || b)
    by None true = refl
    by None false = refl
    by (Some x) true = refl
    by (Some x) false = refl

pub reached : (p : Key → Bool) (rows later : LinkRows) → Rising rows → Rising later → only_rows (fails p) rows ≡ only_rows (fails p) later
    → with_row_changes (moves (only_rows p rows) (only_rows p later)) rows ≡ later
reached p rows later h g agree =
    same_maps (with_row_changes (moves part work) rows) later (rising-changes (moves part work) rows h) g
    (λ q. row_at-changes q work (only_rows (λ key. not (is_some (row_at key work))) part ++ work) rows
    ∙ ap (λ b. cond b (row_at q work) (row_at q rows)) (listed q part work ∙ (λ i. is_some (row_at-only p q rows i) || is_some (row_at-only p q later i)))
    ∙ ap (λ o. cond (is_some (cond (p q) (row_at q rows) None) || is_some (cond (p q) (row_at q later) None)) o (row_at q rows)) (row_at-only p q later)
    ∙ by q (p q) refl (row_at q rows) refl (row_at q later) refl)
  where
    part : LinkRows
    part = only_rows p rows

    work : LinkRows
    work = only_rows p later

    kept : (q : Key) → p q ≡ false → (l : LinkRows) → row_at q (only_rows (fails p) l) ≡ row_at q l
    kept q not_p l = row_at-only (fails p) q l ∙ ap (λ b. cond (not b) (row_at q l) None) not_p

    by : (q : Key) (b : Bool) → p q ≡ b → (o : Option HeardRow) → row_at q rows ≡ o → (n : Option HeardRow) → row_at q later ≡ n → cond (is_some (cond b o None) || is_some (cond b n None)) (cond b n None) o ≡ n
    by q true passes (Some x) is n new = refl
    by q true passes None is (Some y) new = refl
    by q true passes None is None new = refl
    by q false not_p o is n new = sym is ∙ sym (kept q not_p rows) ∙ ap (row_at q) agree ∙ kept q not_p later ∙ new

-- ---- keys in lower case

all-append : (P : Key × HeardRow → Type 0) (xs ys : LinkRows) → AllByRecursion P xs → AllByRecursion P ys → AllByRecursion P (xs ++ ys)
all-append P [] ys h g = g
all-append P (x ∷ xs) ys h g = (h.0, all-append P xs ys h.1 g)

lower_to : (work es : LinkRows) → AllByRecursion (λ e. HasLowerOwner e.0) es → HaveLowerKeys (map (change_to work) es)
lower_to work [] h = tt
lower_to work (e ∷ es) h = (h.0, lower_to work es h.1)

pub lower_moves : (part work : LinkRows) → AllByRecursion (λ e. HasLowerOwner e.0) part → AllByRecursion (λ e. HasLowerOwner e.0) work → HaveLowerKeys (moves part work)
lower_moves part work h g =
    lower_to work (only_rows (λ key. not (is_some (row_at key work))) part ++ work)
    (all-append (λ e. HasLowerOwner e.0) (only_rows (λ key. not (is_some (row_at key work))) part) work (all_filter (λ e. HasLowerOwner e.0) (λ e. not (is_some (row_at e.0 work))) part h) g)

-- ---- a plan from one part to another

pub leads : (rules : LinkRules) → IsName rules.domain → AreApart rules.domain rules.reverses → (p : Key → Bool) (rows later part work : LinkRows) (plan : LinkPlan)
    → Rising rows → Rising later → AreLinkRows rules rows → AreLinkRows rules later → IsWithin rules later → only_rows (fails p) rows ≡ only_rows (fails p) later → part ≡ only_rows p rows → work ≡ only_rows p later
    → IsPlanBetween rules part work plan → Leads rules rows plan later
leads rules name apart p rows later part work plan h g sound sound_later within agree part-is work-is between = record {
  keys = between.keys;
  reached = ap (λ cs. with_row_changes cs rows) (between.moved ∙ (λ i. moves (part-is i) (work-is i))) ∙ reached p rows later h g agree;
  shown = between.shown ∙ (λ i. changes (shown_rows rules (part-is i)) (shown_rows rules (work-is i))) ∙ sym (changes-part rules name apart p rows later sound sound_later agree);
  sound = sound_later;
  within = within;
}
