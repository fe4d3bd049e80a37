-- An update of one name, where that isn't the apex.
--     is_single apex name changes      the changes are of this name alone, and it isn't the apex
--     is_before name rows      the first record's owner comes before a name, or there is no record
--     changes_beside name soas before work      the keys of the name that are shown otherwise, and beside them the SOA with the next serial
--     is_within_at all work      the limits, by the number of all records and those of the name alone
--     RisesAlike entry      an SOA with the next serial is as long
--     is_plain rr      a change looks at no record but its own and an alias
--     seeks name rows changes      all changes are plain, and the name is no alias
--     is_named changes key      the key is that of a change's record
--     with_record_of rows part rr      the record of a change, where it is there, beside others
--     IsPartFor apex changes named part      changes do to a part of a name's records what they do to all of them
use Rattle.std.specs.Prelude.{◌≡◌, ℕ, ◌+◌, Bool, true, not, ◌&&◌, ◌||◌, ◌==◌, List, [], ◌∷◌, ◌++◌, Some, None, map, fold, length, nat_le, if◌then◌else◌}
use Rattle.std.specs.List.{list_all, list_any}
use Rattle.std.specs.Ordering.{is_lt}
use Rattle.push_base.specs.Cases.{is_empty}
use Rattle.push_base.specs.Limits.{max_octets_at_name}
use Rattle.dnsname.specs.Names.{Labels, octets, lower, same_name}
use Rattle.rrset.specs.Kinds.{in_class, none_class, cname_kind, soa_kind}
use Rattle.rrset.specs.Records.{octets_cmp, key_of, same_key}
use Rattle.rrset.specs.RecordSet.{RecordSet, only, put, shown_at, size_of}
use Rattle.rrset.specs.declared.record.Rr.{Rr}
use Rattle.rrset.specs.declared.record.Key.{Key}
use Rattle.rrset.specs.declared.record.Shown.{Shown}
use Rattle.rrset.specs.declared.record.Changed.{Changed}
use Rattle.zoneupdate.specs.Zones.{set_at}
use Rattle.zoneupdate.specs.Updates.{as_class_in, changed_by, max_zone_records}
use Rattle.zoneupdate.specs.Changing.{risen_entry, risen_rdata}
use Rattle.zoneupdate.specs.Differing.{differences}

-- the changes are of this name alone, and it isn't the apex
abbrev pub is_single : Labels → Labels → List Rr → Bool
is_single apex name changes = not (same_name name apex) && list_all (λ rr. same_name name rr.owner) changes

-- the first record's owner comes before a name, or there is no record
abbrev pub is_before : Labels → RecordSet → Bool
is_before name [] = true
is_before name (e ∷ es) = is_lt (octets_cmp (octets e.0.owner) (octets (lower name)))

-- the keys that are shown otherwise, in key order
abbrev pub changes_beside : Labels → RecordSet → RecordSet → RecordSet → List Changed
changes_beside name soas before work =
    if is_before name soas then differences soas (map risen_entry soas) ++ differences before work
    else differences before work ++ differences soas (map risen_entry soas)

-- the limits, by the number of all records and those of the name alone
abbrev pub is_within_at : ℕ → RecordSet → Bool
is_within_at all work = nat_le all max_zone_records && nat_le (size_of work) max_octets_at_name

-- a change of class IN or NONE whose TYPE is neither CNAME nor SOA
abbrev pub is_plain : Rr → Bool
is_plain rr = (rr.class == in_class || rr.class == none_class) && not (rr.kind == cname_kind) && not (rr.kind == soa_kind)

-- all changes are plain, and the name is no alias
abbrev pub seeks : Labels → RecordSet → List Rr → Bool
seeks name rows changes = list_all is_plain changes && is_empty (set_at name cname_kind rows)

-- the key is that of a change's record, as one of class IN
abbrev pub is_named : List Rr → Key → Bool
is_named changes key = list_any (λ rr. same_key (key_of (as_class_in rr)) key) changes

-- the record of a change, where it is among some rows, beside others
abbrev pub with_record_of : RecordSet → RecordSet → Rr → RecordSet
with_record_of rows part rr = elim (shown_at (key_of (as_class_in rr)) rows) [ None ↦ part | Some shown ↦ put (key_of (as_class_in rr)) shown part ]

-- a part of a name's records, to which changes do what they do to all of them, and no others change
pub record IsPartFor (apex : Labels) (changes : List Rr) (named part : RecordSet) : Type 0 where
  pub test : Key → Bool
  pub rows : part ≡ only test named
  pub after : fold (changed_by apex) part changes ≡ only test (fold (changed_by apex) named changes)
  pub others : only (λ key. not (test key)) named ≡ only (λ key. not (test key)) (fold (changed_by apex) named changes)

-- a number of records and octets within the limits, where a part of a name's records has changed
abbrev pub is_within_part : ℕ → RecordSet → RecordSet → RecordSet → Bool
is_within_part all named part work = nat_le all max_zone_records && nat_le (size_of work + size_of named) (max_octets_at_name + size_of part)

-- what is shown of an SOA is as long with the next serial
abbrev pub RisesAlike : Key × Shown → Type 0
RisesAlike entry = length (risen_rdata entry.1.rdata) ≡ length entry.1.rdata
