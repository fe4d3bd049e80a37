-- What the check of an update looks at.
--     is_of_kind kind key      the key has class IN and this kind
--     is_in rr      the record has class IN
--     set_cmp owner kind key      how a key's owner and kind compare with others
--     has_same_set wanted rows key      the set of a key's owner and kind has the same keys in both
--     IsOfSameSet last key      the key is of the owner and kind of the first of some records
--     LastAgrees wanted rows last      the set of the first of some records has the same keys in both
--     runs_into under name      the name ends in one of these homes
--     is_within all apex changes work      the limits, by the number of all records and the touched part alone
--     Plans zone changes plan      the keys that changes show otherwise, or nothing where the zone would pass its limits
use Rattle.std.specs.Prelude.{◌≡◌, ℕ, Bool, true, false, not, ◌&&◌, ◌||◌, List, [], ◌∷◌, Option, Some, None, nat_le, ◌==◌}
use Rattle.std.specs.List.{list_any, list_all}
use Rattle.std.specs.Ordering.{nat_cmp, ordering_then}
use Rattle.std.specs.declared.cmp.Ordering.{Ordering}
use Rattle.push_base.specs.Limits.{max_octets_at_name}
use Rattle.dnsname.specs.Names.{Labels, octets, lower, same_name, ends_in}
use Rattle.rrset.specs.Kinds.{in_class}
use Rattle.rrset.specs.Records.{octets_cmp}
use Rattle.rrset.specs.RecordSet.{RecordSet, same_keys, size_at, changes}
use Rattle.rrset.specs.declared.record.Key.{Key}
use Rattle.rrset.specs.declared.record.Rr.{Rr}
use Rattle.rrset.specs.declared.record.Changed.{Changed}
use Rattle.zoneupdate.specs.Zones.{ZoneState, set_at}
use Rattle.zoneupdate.specs.Updates.{max_zone_records, is_within_limits, rows_after}

-- a key of class IN and this kind
abbrev pub is_of_kind : ℕ → Key → Bool
is_of_kind kind key = in_class == key.class && kind == key.kind

-- a record of class IN
abbrev pub is_in : Rr → Bool
is_in rr = rr.class == in_class

-- how a key's owner and kind compare with others
abbrev pub set_cmp : Labels → ℕ → Key → Ordering
set_cmp owner kind key = ordering_then (octets_cmp (octets key.owner) (octets (lower owner))) (nat_cmp key.kind kind)

-- the set of a key's owner and kind has the same keys in both
abbrev pub has_same_set : RecordSet → RecordSet → Key → Bool
has_same_set wanted rows key = same_keys (set_at key.owner key.kind wanted) (set_at key.owner key.kind rows)

-- the key is of the owner and kind of the first of some records
abbrev pub IsOfSameSet : RecordSet → Key → Type 0
IsOfSameSet [] key = ⊥
IsOfSameSet (e ∷ es) key = (e.0.kind ≡ key.kind) × (same_name e.0.owner key.owner ≡ true)

-- the set of the first of some records has the same keys in both
abbrev pub LastAgrees : RecordSet → RecordSet → RecordSet → Type 0
LastAgrees wanted rows [] = Unit {0}
LastAgrees wanted rows (e ∷ es) = has_same_set wanted rows e.0 ≡ true

-- the name ends in one of these homes
abbrev pub runs_into : List Labels → Labels → Bool
runs_into under name = list_any (λ home. ends_in name home) under

-- the limits, by the number of all records and the touched part alone
abbrev pub is_within : ℕ → Labels → List Rr → RecordSet → Bool
is_within all apex changes work =
    nat_le all max_zone_records && nat_le (size_at apex work) max_octets_at_name && list_all (λ rr. nat_le (size_at rr.owner work) max_octets_at_name) changes

-- the keys that changes show otherwise, or nothing where the zone would pass its limits
abbrev pub Plans : ZoneState → List Rr → Option (List Changed) → Type 0
Plans zone rrs None = is_within_limits (rows_after zone rrs) ≡ false
Plans zone rrs (Some changed) = (is_within_limits (rows_after zone rrs) ≡ true) × (changed ≡ changes zone.rows (rows_after zone rrs))
