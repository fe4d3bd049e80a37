-- What is shown otherwise in one list of records than in another, where both are gone through side by side.
--     comes_first, starts_with key rows      the first record comes before a key, has the key
--     gone_before, from_key key old      the records that come before a key are gone; those from there on
--     at_key, behind_key row old      how a record is shown otherwise than the first of others, where that has its key; those behind that
--     differences old new      the keys of either that are shown otherwise, with both values
use Rattle.std.specs.Prelude.{Bool, false, List, [], ◌∷◌, ◌++◌, map, Some, None, if◌then◌else◌}
use Rattle.std.specs.Ordering.{is_lt}
use Rattle.rrset.specs.Records.{key_cmp, same_key, same_shown}
use Rattle.rrset.specs.RecordSet.{RecordSet}
use Rattle.rrset.specs.declared.record.Key.{Key}
use Rattle.rrset.specs.declared.record.Shown.{Shown}
use Rattle.rrset.specs.declared.record.Changed.{Changed}

abbrev pub comes_first : Key → RecordSet → Bool
comes_first key [] = false
comes_first key (e ∷ es) = is_lt (key_cmp e.0 key)

abbrev pub starts_with : Key → RecordSet → Bool
starts_with key [] = false
starts_with key (e ∷ es) = same_key e.0 key

-- a record that was there and is gone
abbrev pub gone : Key × Shown → Changed
gone row = record { key = row.0; before = Some row.1; after = None }

-- a record that wasn't there
abbrev pub came : Key × Shown → Changed
came row = record { key = row.0; before = None; after = Some row.1 }

-- a record whose key was shown before, if that was otherwise
abbrev pub shown_otherwise : Shown → Key × Shown → List Changed
shown_otherwise before row = if same_shown before row.1 then [] else record { key = row.0; before = Some before; after = Some row.1 } ∷ []

abbrev pub gone_before : Key → RecordSet → List Changed
gone_before key [] = []
gone_before key (e ∷ es) = if is_lt (key_cmp e.0 key) then gone e ∷ gone_before key es else []

abbrev pub from_key : Key → RecordSet → RecordSet
from_key key [] = []
from_key key (e ∷ es) = if is_lt (key_cmp e.0 key) then from_key key es else e ∷ es

abbrev pub at_key : Key × Shown → RecordSet → List Changed
at_key row [] = came row ∷ []
at_key row (e ∷ es) = if same_key e.0 row.0 then shown_otherwise e.1 row else came row ∷ []

abbrev pub behind_key : Key → RecordSet → RecordSet
behind_key key [] = []
behind_key key (e ∷ es) = if same_key e.0 key then es else e ∷ es

-- the keys of either that are shown otherwise, with both values
abbrev pub differences : RecordSet → RecordSet → List Changed
differences old [] = map gone old
differences old (row ∷ new) = gone_before row.0 old ++ at_key row (from_key row.0 old) ++ differences (behind_key row.0 (from_key row.0 old)) new
