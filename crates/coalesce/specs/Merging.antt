-- Records and old values side by side, in key order.
--     comes_first key rows      the first row comes before a key
--     behind_key key rows      the rows without the first one, where that has this key
use Rattle.std.specs.Prelude.{Bool, false, [], ◌∷◌, if◌then◌else◌}
use Rattle.std.specs.Ordering.{is_lt}
use Rattle.rrset.specs.Records.{key_cmp, same_key}
use Rattle.rrset.specs.RecordSet.{RecordSet}
use Rattle.rrset.specs.declared.record.Key.{Key}

abbrev pub comes_first : Key → RecordSet → Bool
comes_first key [] = false
comes_first key (e ∷ es) = is_lt (key_cmp e.0 key)

abbrev pub behind_key : Key → RecordSet → RecordSet
behind_key key [] = []
behind_key key (e ∷ es) = if same_key key e.0 then es else e ∷ es
