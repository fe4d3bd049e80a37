use Rattle.std.proofs.Common.{◌≡◌, List, Bool, drop, map}
use Rattle.push_base.specs.Cases.{first_refused}
use Rattle.dnsname.specs.Names.{Labels}
use Rattle.rrset.specs.RecordSet.{RecordSet}
use Rattle.zoneupdate.specs.Updates.{change_refusal, with_counted_ttl}
use Rattle.zoneupdate.specs.KeptZones.{IsUnder}
use Rattle.zoneupdate.proofs.prescan.changes_refusal.Given as goal

abbrev pub invariant-changes : goal.invariant-changes
invariant-changes l = (homes : List Labels) (writable : Bool) (rows : RecordSet) → IsUnder homes l.apex l.under
    → first_refused (change_refusal homes (record { apex = l.apex; writable = writable; rows = rows })) (map with_counted_ttl (drop l.rr-index l.rr-items))
    ≡ first_refused (change_refusal homes (record { apex = l.apex; writable = writable; rows = rows })) (map with_counted_ttl l.changes)
