-- The part of a zone that an update looks at and changes.
--     is_touched apex changes key      the key's owner is the apex, or that of a change
--     part_of apex changes rows      the records with such keys
--     part_after zone changes      this part after all changes, made to it alone
use Rattle.std.specs.Prelude.{Bool, ◌||◌, List, fold}
use Rattle.std.specs.List.{list_any}
use Rattle.dnsname.specs.Names.{Labels, same_name}
use Rattle.rrset.specs.RecordSet.{RecordSet, only}
use Rattle.rrset.specs.declared.record.Rr.{Rr}
use Rattle.rrset.specs.declared.record.Key.{Key}
use Rattle.zoneupdate.specs.Zones.{ZoneState}
use Rattle.zoneupdate.specs.Updates.{changed_by, with_risen_serial}

-- the owner is the apex, or that of a change
abbrev pub is_touched : Labels → List Rr → Key → Bool
is_touched apex changes key = same_name apex key.owner || list_any (λ rr. same_name rr.owner key.owner) changes

-- the records whose keys are touched
abbrev pub part_of : Labels → List Rr → RecordSet → RecordSet
part_of apex changes rows = only (is_touched apex changes) rows

-- the same part after all changes and the rise of the serial
abbrev pub part_after : ZoneState → List Rr → RecordSet
part_after zone changes =
    let before = part_of zone.apex changes zone.rows in
    with_risen_serial zone.apex before (fold (changed_by zone.apex) before changes)
