-- The moments at which rows end, kept beside them in the order in which they come.
--     AreEnds deadlines rows      each row's key has the moment at which the row ends, and no other key has one
--     has_come now moment      there is such a moment, and it is now or was before
--     is_due now deadlines key      the key is among those due
--     with_end, with_end_change      the moments with one for a key, if any; after a change of a row
--     EndsAreKept      they stay the ends of the rows where both are changed
--     NothingEndsBefore      before the least of them no row ends
--     NextEndIsFirst      the least of them is the least end of a row
--     DueRowsGo      a key is due where its row has ended, and these rows are all that a moment takes out
use Rattle.std.specs.Prelude.{◌≡◌, ℕ, ◌<◌, Bool, false, nat_le, Option, Some, None, option_map, IsTrue, List, fold}
use Rattle.std.specs.List.{list_any}
use Rattle.clockqueue.specs.Deadlines.{Deadlines, AreDeadlines, moment_of, without, with_deadline, first_moment, due}
use Rattle.rrset.specs.Records.{key_cmp, same_key}
use Rattle.rrset.specs.KeyedRows.{is_rising, only_rows, row_at}
use Rattle.rrset.specs.declared.record.Key.{Key}
use Rattle.linkcache.specs.declared.row.HeardRow.{HeardRow}
use Rattle.linkcache.specs.declared.plan.RowChange.{RowChange}
use Rattle.linkcache.specs.Rows.{LinkRows, at_moment, next_end}
use Rattle.linkcache.specs.Parts.{fails}
use Rattle.linkcache.specs.Plans.{with_row_changes}

abbrev pub AreEnds : Deadlines Key → LinkRows → Type 0
AreEnds deadlines rows = (key : Key) → moment_of key_cmp key deadlines ≡ option_map (λ (row : HeardRow). row.ends) (row_at key rows)

abbrev pub has_come : ℕ → Option ℕ → Bool
has_come now None = false
has_come now (Some moment) = nat_le moment now

abbrev pub is_due : ℕ → Deadlines Key → Key → Bool
is_due now deadlines key = list_any (λ d. same_key key d.1) (due now deadlines)

-- the moments with another one, if any, for the key
abbrev pub with_end : Deadlines Key → Key → Option ℕ → Deadlines Key
with_end deadlines key None = deadlines
with_end deadlines key (Some moment) = with_deadline key_cmp key moment deadlines

abbrev pub with_end_change : Deadlines Key → RowChange → Deadlines Key
with_end_change deadlines c = elim c.after [ None ↦ without key_cmp c.key deadlines | Some row ↦ with_deadline key_cmp c.key row.ends deadlines ]

abbrev pub EndsAreKept : Type 0
EndsAreKept = (cs : List RowChange) (deadlines : Deadlines Key) (rows : LinkRows) → AreEnds deadlines rows → AreEnds (fold with_end_change deadlines cs) (with_row_changes cs rows)

abbrev pub NothingEndsBefore : Type 0
NothingEndsBefore = (deadlines : Deadlines Key) (rows : LinkRows) (now least : ℕ) → AreDeadlines key_cmp deadlines → IsTrue (is_rising rows) → AreEnds deadlines rows → first_moment deadlines ≡ Some least → now < least → at_moment rows now ≡ rows

abbrev pub NextEndIsFirst : Type 0
NextEndIsFirst = (deadlines : Deadlines Key) (rows : LinkRows) → AreDeadlines key_cmp deadlines → IsTrue (is_rising rows) → AreEnds deadlines rows → next_end rows ≡ first_moment deadlines

abbrev pub DueRowsGo : Type 0
DueRowsGo = (now : ℕ) (deadlines : Deadlines Key) (rows : LinkRows) → AreDeadlines key_cmp deadlines → IsTrue (is_rising rows) → AreEnds deadlines rows
    → ((key : Key) → is_due now deadlines key ≡ has_come now (option_map (λ (row : HeardRow). row.ends) (row_at key rows))) × (only_rows (fails (is_due now deadlines)) rows ≡ at_moment rows now)
