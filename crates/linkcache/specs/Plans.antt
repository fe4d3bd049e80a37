-- What a step is planned to change in a link.
--     LinkPlan      whether a record could be used, the keys that are shown otherwise, and the rows that change
--     with_row_changes      the rows with such changes made to them
--     moves part work      the changes that make a part of the rows another one
--     keys_put cs      the keys at which changes put a row
--     Leads rules rows plan later      the plan leads from the rows to later ones, and tells what is shown otherwise
--     IsPlanBetween rules part work plan      the plan is made of the changes from one part to another
--     IsPlanOf rules rows plan      it leads somewhere
--     IsHeardPlan, IsMomentPlan, IsReconfirmPlan, IsGonePlan      the plan is that of a hearing; of a moment; of a reconfirmation; of the link's going
use Rattle.std.specs.Prelude.{◌≡◌, ℕ, Bool, false, not, List, [], ◌++◌, map, filter, fold, Some, None, is_some}
use Rattle.std.specs.List.{AllByRecursion}
use Rattle.push_base.specs.Cases.{is_empty}
use Rattle.rrset.specs.Records.{same_key}
use Rattle.rrset.specs.RecordSet.{changes}
use Rattle.rrset.specs.Tables.{HasLowerOwner}
use Rattle.rrset.specs.declared.record.Key.{Key}
use Rattle.rrset.specs.declared.record.Changed.{Changed}
use Rattle.rrset.specs.declared.record.HeardRr.{HeardRr}
use Rattle.linkcache.specs.declared.plan.RowChange.{RowChange}
use Rattle.linkcache.specs.declared.row.HeardRow.{HeardRow}
use Rattle.rrset.specs.KeyedRows.{put_row, without_rows, only_rows, row_at}
use Rattle.linkcache.specs.Rows.{LinkRows, heard, usable_of, at_moment, reconfirmed, shown_rows}
use Rattle.linkcache.specs.Sound.{AreLinkRows}
use Rattle.linkcache.specs.Within.{IsWithin}
use Rattle.linkcache.specs.declared.rules.LinkRules.{LinkRules}

pub record LinkPlan : Type 0 where
  pub usable : Bool
  pub changed : List Changed
  pub rows : List RowChange

-- rows with one key's as it is after a change
abbrev pub with_row_change : LinkRows → RowChange → LinkRows
with_row_change rows c = elim c.after [ None ↦ without_rows (same_key c.key) rows | Some row ↦ put_row c.key row rows ]

-- rows with changes made to them, one after the other
abbrev pub with_row_changes : List RowChange → LinkRows → LinkRows
with_row_changes cs rows = fold with_row_change rows cs

abbrev pub change_to : LinkRows → Key × HeardRow → RowChange
change_to work e = record { key = e.0; after = row_at e.0 work }

-- the keys that go, and behind them all that are there later
abbrev pub moves : LinkRows → LinkRows → List RowChange
moves part work = map (change_to work) (only_rows (λ key. not (is_some (row_at key work))) part ++ work)

-- the keys at which changes put a row
abbrev pub keys_put : List RowChange → List Key
keys_put cs = map (λ c. c.key) (filter (λ c. is_some c.after) cs)

abbrev pub HaveLowerKeys : List RowChange → Type 0
HaveLowerKeys cs = AllByRecursion (λ c. HasLowerOwner c.key) cs

-- the plan leads from the rows to later ones of usable records that fit, and its keys are exactly those shown otherwise, with both values
pub record Leads (rules : LinkRules) (rows : LinkRows) (plan : LinkPlan) (later : LinkRows) : Type 0 where
  pub keys : HaveLowerKeys plan.rows
  pub reached : with_row_changes plan.rows rows ≡ later
  pub shown : plan.changed ≡ changes (shown_rows rules rows) (shown_rows rules later)
  pub sound : AreLinkRows rules later
  pub within : IsWithin rules later

-- the plan is made of the changes from one part of the rows to another
pub record IsPlanBetween (rules : LinkRules) (part work : LinkRows) (plan : LinkPlan) : Type 0 where
  pub keys : HaveLowerKeys plan.rows
  pub moved : plan.rows ≡ moves part work
  pub shown : plan.changed ≡ changes (shown_rows rules part) (shown_rows rules work)

abbrev pub IsPlanOf : LinkRules → LinkRows → LinkPlan → Type 0
IsPlanOf rules rows plan = (later : LinkRows) × Leads rules rows plan later

-- of a hearing: whether it has a usable record, and the rows after its two passes
pub record IsHeardPlan (rules : LinkRules) (rows : LinkRows) (now : ℕ) (hearing : List HeardRr) (plan : LinkPlan) : Type 0 where
  pub usable : plan.usable ≡ not (is_empty (usable_of rules hearing))
  pub leads : Leads rules rows plan (heard rules rows now hearing)

-- of a moment: the rows that have not ended
pub record IsMomentPlan (rules : LinkRules) (rows : LinkRows) (now : ℕ) (plan : LinkPlan) : Type 0 where
  pub usable : plan.usable ≡ false
  pub leads : Leads rules rows plan (at_moment rows now)

-- of a reconfirmation: a row of the key ends within ten seconds
pub record IsReconfirmPlan (rules : LinkRules) (rows : LinkRows) (key : Key) (now : ℕ) (plan : LinkPlan) : Type 0 where
  pub usable : plan.usable ≡ false
  pub leads : Leads rules rows plan (reconfirmed rows key now)

-- of a link that goes away: no row is left; it says whether there was one
pub record IsGonePlan (rules : LinkRules) (rows : LinkRows) (plan : LinkPlan) : Type 0 where
  pub usable : plan.usable ≡ not (is_empty rows)
  pub leads : Leads rules rows plan []
