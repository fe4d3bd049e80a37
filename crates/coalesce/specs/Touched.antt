-- What differs between both sides of a name that waits: it stands at keys that changed.
--     old_rows, new_rows      the records as they were, and as they are
--     gone      what keys showed before they changed
--     is_unchanged      a key that changed shows what it showed before, or isn't asked for
--     came_at, came      what such a key shows, unless it showed that before; what is told of all such keys
--     IsTouched, AreSides      rows and values in key order; both sides of one name
use Rattle.std.specs.Prelude.{Bool, not, ◌||◌, List, [], flat_map, Option, Some, None, IsTrue, if◌then◌else◌}
use Rattle.rrset.specs.KeyedRows.{is_rising}
use Rattle.rrset.specs.RecordSet.{RecordSet, is_in_order, only, shown_at, shown_the_same, with_values}
use Rattle.rrset.specs.declared.record.Key.{Key}
use Rattle.rrset.specs.declared.record.Shown.{Shown}
use Rattle.dsotlv.specs.declared.message.Notice.{Notice}
use Rattle.coalesce.specs.Sides.{IsOneSide, is_asked}
use Rattle.coalesce.specs.Steps.{added}
use Rattle.coalesce.specs.Waiting.{OldValue, values_of}
use Rattle.coalesce.specs.declared.touched.Touched.{Touched}

abbrev pub old_rows : Touched → RecordSet
old_rows t = only (is_asked t.asking) (with_values (values_of t.values.now) t.rows.now)

abbrev pub new_rows : Touched → RecordSet
new_rows t = only (is_asked t.asking) t.rows.now

abbrev pub gone : Touched → RecordSet
gone t = only (is_asked t.asking) (with_values (values_of t.values.now) [])

abbrev pub is_unchanged : Touched → Key × OldValue → Bool
is_unchanged t v = shown_the_same v.1.before (shown_at v.0 t.rows.now) || not (is_asked t.asking v.0)

-- what is shown, unless it was shown before
abbrev pub newly : Option Shown → Option Shown → Option Shown
newly before None = None
newly before (Some shown) = if shown_the_same before (Some shown) then None else Some shown

abbrev pub came_at : Touched → Key × OldValue → Option Shown
came_at t v = if is_asked t.asking v.0 then newly v.1.before (shown_at v.0 t.rows.now) else None

abbrev pub addition_at : Key → Option Shown → List Notice
addition_at key None = []
addition_at key (Some shown) = added (key, shown)

abbrev pub came : Touched → List Notice
came t = flat_map (λ v. addition_at v.0 (came_at t v)) t.values.now

abbrev pub IsTouched : Touched → Type 0
IsTouched t = IsTrue (is_in_order t.rows.now) × IsTrue (is_rising t.values.now)

abbrev pub AreSides : Touched → Type 0
AreSides t = IsTouched t × IsOneSide (with_values (values_of t.values.now) t.rows.now) × IsOneSide t.rows.now
