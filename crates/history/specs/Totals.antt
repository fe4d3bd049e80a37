-- How many entries of each group there are.
--     totals history      changes, hearings and moments
--     and_one entry counts      those with one entry more
use Rattle.std.specs.Prelude.{◌+◌, Bool, true, false, List, count_by}
use Rattle.history.specs.Entries.{Group, as_change, as_hearing, as_moment, group}
use Rattle.history.specs.declared.entry.Entry.{Entry}
use Rattle.history.specs.declared.entry.Totals.{Totals}

abbrev pub in_changes : Group → Bool
in_changes as_change = true
in_changes _ = false

abbrev pub in_hearings : Group → Bool
in_hearings as_hearing = true
in_hearings _ = false

abbrev pub in_moments : Group → Bool
in_moments as_moment = true
in_moments _ = false

abbrev pub is_change : Entry → Bool
is_change entry = in_changes (group entry)

abbrev pub is_hearing : Entry → Bool
is_hearing entry = in_hearings (group entry)

abbrev pub is_moment : Entry → Bool
is_moment entry = in_moments (group entry)

abbrev pub totals : List Entry → Totals
totals history = record { changes = count_by is_change history; heard = count_by is_hearing history; moments = count_by is_moment history }

-- one more of a group
abbrev pub and_one_of : Group → Totals → Totals
and_one_of as_change counts = record counts { changes = counts.changes + 1 }
and_one_of as_hearing counts = record counts { heard = counts.heard + 1 }
and_one_of as_moment counts = record counts { moments = counts.moments + 1 }

-- one entry more
abbrev pub and_one : Entry → Totals → Totals
and_one entry counts = and_one_of (group entry) counts
