-- All that a link shows lies under one of its names, and is a set of records.
use Rattle.std.proofs.Common.{[], ◌∷◌, fold, Option, Some, None, refl}
use Rattle.rrset.specs.RecordSet.{RecordSet, put_rr}
use Rattle.rrset.specs.declared.record.Rr.{Rr}
use Rattle.rrset.specs.declared.record.Key.{Key}
use Rattle.zoneupdate.proofs.RecordSets.{IsSet, set-put_rr}
use Rattle.reversemap.specs.BothKinds.{shown_of}
use Rattle.linkcache.specs.declared.row.HeardRow.{HeardRow}
use Rattle.linkcache.specs.declared.rules.LinkRules.{LinkRules}
use Rattle.linkcache.specs.Rows.{LinkRows, rr_of_row, put_shown, shown_rows}

set-put_shown : (rules : LinkRules) (set : RecordSet) (row : Key × HeardRow) → IsSet set → IsSet (put_shown rules set row)
set-put_shown rules set row is = by (shown_of rules.domain rules.cap (rr_of_row row))
  where
    by : (o : Option Rr) → IsSet (elim o [ None ↦ set | Some rr ↦ put_rr set rr ])
    by None = is
    by (Some rr) = set-put_rr rr set is

set-fold : (rules : LinkRules) (rows : LinkRows) (set : RecordSet) → IsSet set → IsSet (fold (put_shown rules) set rows)
set-fold rules [] set is = is
set-fold rules (row ∷ rows) set is = set-fold rules rows (put_shown rules set row) (set-put_shown rules set row is)

pub set-shown : (rules : LinkRules) (rows : LinkRows) → IsSet (shown_rows rules rows)
set-shown rules rows = set-fold rules rows [] refl
