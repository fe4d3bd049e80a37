use Rattle.std.proofs.Common.{◌≡◌, List, Bool, drop, map}
use Rattle.push_base.specs.Cases.{first_refused}
use Rattle.dnsname.specs.Names.{Labels}
use Rattle.zoneupdate.specs.Updates.{prerequisite_refusal, with_counted_ttl}
use Rattle.zoneupdate.specs.KeptZones.{IsUnder}
use Rattle.zoneupdate.proofs.prerequisites.prerequisites_refusal.Given as goal

abbrev pub invariant-prereqs : goal.invariant-prereqs
invariant-prereqs l = (homes : List Labels) (writable : Bool) → IsUnder homes l.apex l.under
    → first_refused (prerequisite_refusal homes (record { apex = l.apex; writable = writable; rows = l.rows.rows })) (map with_counted_ttl (drop l.rr-index l.rr-items))
    ≡ first_refused (prerequisite_refusal homes (record { apex = l.apex; writable = writable; rows = l.rows.rows })) (map with_counted_ttl l.prereqs)
