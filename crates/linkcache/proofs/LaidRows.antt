-- Rows laid over others, key by key.
use Rattle.std.proofs.Common.{◌≡◌, Bool, true, false, cond, not, ◌||◌, T, [], ◌∷◌, fold, Option, Some, None, is_some, refl, sym, ap, ◌∙◌}
use Rattle.std.specs.List.{list_any}
use Rattle.rrset.specs.declared.record.Key.{Key}
use Rattle.rrset.specs.Records.{same_key}
use Rattle.rrset.specs.KeyedRows.{is_rising, put_row, only_rows, row_at}
use Rattle.linkcache.specs.declared.row.HeardRow.{HeardRow}
use Rattle.linkcache.specs.declared.rules.LinkRules.{LinkRules}
use Rattle.linkcache.specs.Rows.{LinkRows, has_key}
use Rattle.linkcache.specs.Links.{IsLink}
use Rattle.linkcache.specs.Parts.{copied, fails, laid}
use Rattle.linkcache.specs.Plans.{LinkPlan, IsPlanBetween, Leads}
use Rattle.linkcache.specs.Sound.{AreLinkRows}
use Rattle.linkcache.specs.Within.{IsWithin}
use Rattle.linkcache.proofs.KeyedParts.{Rising, same_maps, row_at-only, row_at-put, rising-put, rising-only}
use Rattle.linkcache.proofs.Copies.{copied-all, among}
use Rattle.linkcache.proofs.HeardSteps.{has-found}
use Rattle.linkcache.proofs.LeadingPlans.{rises, part-sound}
use Rattle.linkcache.proofs.Moves.{leads}

-- the first of two that is there
abbrev pub either : Option HeardRow → Option HeardRow → Option HeardRow
either None o = o
either (Some row) o = Some row

pub row_at-laid : (q : Key) (over rows : LinkRows) → row_at q (laid over rows) ≡ either (row_at q over) (row_at q rows)
row_at-laid q [] rows = refl
row_at-laid q (e ∷ es) rows =
    row_at-put q e.0 e.1 (laid es rows) ∙ ap (λ (o : Option HeardRow). cond (same_key q e.0) (Some e.1) o) (row_at-laid q es rows) ∙ by (same_key q e.0)
  where
    by : (b : Bool) → cond b (Some e.1) (either (row_at q es) (row_at q rows)) ≡ either (cond b (Some e.1) (row_at q es)) (row_at q rows)
    by true = refl
    by false = refl

pub row-over : (q : Key) (over rows : LinkRows) (row : HeardRow) → row_at q over ≡ Some row → row_at q (laid over rows) ≡ Some row
row-over q over rows row is = row_at-laid q over rows ∙ ap (λ (o : Option HeardRow). either o (row_at q rows)) is

pub row-under : (q : Key) (over rows : LinkRows) → row_at q over ≡ None → row_at q (laid over rows) ≡ row_at q rows
row-under q over rows is = row_at-laid q over rows ∙ ap (λ (o : Option HeardRow). either o (row_at q rows)) is

pub rising-laid : (over rows : LinkRows) → Rising rows → Rising (laid over rows)
rising-laid [] rows h = h
rising-laid (e ∷ es) rows h = rising-put e.0 e.1 (laid es rows) (rising-laid es rows h)

is_true : (b : Bool) → T b → b ≡ true
is_true true h = refl
is_true false h = absurd h

pub order-laid : (over rows : LinkRows) → Rising rows → is_rising (laid over rows) ≡ true
order-laid over rows h = is_true (is_rising (laid over rows)) (rising-laid over rows h)

pub laid-put : (k : Key) (v : HeardRow) (over rows : LinkRows) → Rising rows → laid (put_row k v over) rows ≡ put_row k v (laid over rows)
laid-put k v over rows h =
    same_maps (laid (put_row k v over) rows) (put_row k v (laid over rows)) (rising-laid (put_row k v over) rows h) (rising-put k v (laid over rows) (rising-laid over rows h))
    (λ q. row_at-laid q (put_row k v over) rows
    ∙ ap (λ (o : Option HeardRow). either o (row_at q rows)) (row_at-put q k v over)
    ∙ by q (same_key q k)
    ∙ ap (λ (o : Option HeardRow). cond (same_key q k) (Some v) o) (sym (row_at-laid q over rows))
    ∙ sym (row_at-put q k v (laid over rows)))
  where
    by : (q : Key) (b : Bool) → either (cond b (Some v) (row_at q over)) (row_at q rows) ≡ cond b (Some v) (either (row_at q over) (row_at q rows))
    by q true = refl
    by q false = refl

pub has-laid : (q : Key) (over rows : LinkRows) → (has_key q over || has_key q rows) ≡ has_key q (laid over rows)
has-laid q over rows =
    (λ i. sym (has-found q over) i || sym (has-found q rows) i)
    ∙ by (row_at q over) (row_at q rows)
    ∙ ap (λ (o : Option HeardRow). is_some o) (sym (row_at-laid q over rows))
    ∙ has-found q (laid over rows)
  where
    by : (a b : Option HeardRow) → (is_some a || is_some b) ≡ is_some (either a b)
    by None b = refl
    by (Some row) b = refl

-- ---- the plan that lays rows over others

-- the keys of rows
abbrev pub keyed : LinkRows → Key → Bool
keyed over q = list_any (λ (e : Key × HeardRow). same_key q e.0) over || false

keyed-found : (q : Key) (over : LinkRows) → keyed over q ≡ is_some (row_at q over)
keyed-found q over = by (list_any (λ (e : Key × HeardRow). same_key q e.0) over) (among q over)
  where
    by : (b : Bool) → b ≡ is_some (row_at q over) → (b || false) ≡ is_some (row_at q over)
    by true e = e
    by false e = e

module _ (over rows : LinkRows) (h : Rising rows) where
  pub over-part : Rising over → over ≡ only_rows (keyed over) (laid over rows)
  over-part g =
      same_maps over (only_rows (keyed over) (laid over rows)) g (rising-only (keyed over) (laid over rows) (rising-laid over rows h))
      (λ q. by (row_at q over) (row_at q rows)
      ∙ (λ i. cond (sym (keyed-found q over) i) (sym (row_at-laid q over rows) i) None)
      ∙ sym (row_at-only (keyed over) q (laid over rows)))
    where
      by : (a b : Option HeardRow) → a ≡ cond (is_some a) (either a b) None
      by None b = refl
      by (Some row) b = refl

  pub over-outside : only_rows (fails (keyed over)) rows ≡ only_rows (fails (keyed over)) (laid over rows)
  over-outside =
      same_maps (only_rows (fails (keyed over)) rows) (only_rows (fails (keyed over)) (laid over rows)) (rising-only (fails (keyed over)) rows h) (rising-only (fails (keyed over)) (laid over rows) (rising-laid over rows h))
      (λ q. row_at-only (fails (keyed over)) q rows
      ∙ ap (λ b. cond (not b) (row_at q rows) None) (keyed-found q over)
      ∙ by (row_at q over) (row_at q rows)
      ∙ (λ i. cond (not (sym (keyed-found q over) i)) (sym (row_at-laid q over rows) i) None)
      ∙ sym (row_at-only (fails (keyed over)) q (laid over rows)))
    where
      by : (a b : Option HeardRow) → cond (not (is_some a)) b None ≡ cond (not (is_some a)) (either a b) None
      by None b = refl
      by (Some row) b = refl

  pub before-part : (before : LinkRows) → before ≡ fold (λ part e. copied rows part e.0) [] over → before ≡ only_rows (keyed over) rows
  before-part before is = is ∙ copied-all (λ (e : Key × HeardRow). e.0) rows h over (λ q. false) [] (nothing rows)
    where
      nothing : (es : LinkRows) → [] ≡ only_rows (λ q. false) es
      nothing [] = refl
      nothing (e ∷ es) = nothing es

module _ (rules : LinkRules) (rows over : LinkRows) (link : IsLink (record { rules = rules; rows = rows })) where
  pub before-sound : (before : LinkRows) → before ≡ fold (λ part e. copied rows part e.0) [] over → AreLinkRows rules before
  before-sound before is = part-sound rules (keyed over) rows before link.sound (before-part over rows (rises rules rows link) before is)

  pub over-leads : (before : LinkRows) (plan : LinkPlan) → Rising over → before ≡ fold (λ part e. copied rows part e.0) [] over → AreLinkRows rules (laid over rows) → IsWithin rules (laid over rows)
      → IsPlanBetween rules before over plan → Leads rules rows plan (laid over rows)
  over-leads before plan g is sound within between = let h = rises rules rows link in
      leads rules link.name link.apart (keyed over) rows (laid over rows) before over plan h (rising-laid over rows h) link.sound sound within
      (over-outside over rows h) (before-part over rows h before is) (over-part over rows h g) between

pub over-sound : (rules : LinkRules) (rows over : LinkRows) → Rising rows → Rising over → AreLinkRows rules (laid over rows) → AreLinkRows rules over
over-sound rules rows over h g sound = part-sound rules (keyed over) (laid over rows) over sound (over-part over rows h g)
