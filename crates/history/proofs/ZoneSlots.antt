-- What an update gets of zones that are kept one behind another, and what a plan makes of one of them.
use Rattle.std.proofs.Common.{◌≡◌, ℕ, ◌<◌, List, length, get_or, set, map, Option, Some, None, Result, Ok, Err, refl, sym, subst, ◌∙◌}
use Rattle.std.specs.Prelude.{slice_get, IfOk}
use Rattle.push_base.specs.Cases.{changed_at}
use Rattle.rrset.specs.RecordSet.{RecordSet}
use Rattle.rrset.specs.declared.record.Changed.{Changed}
use Rattle.nametable.specs.Nodes.{HasRoomFor, keys_put}
use Rattle.zoneupdate.specs.declared.plan.Verdict.{Verdict}
use Rattle.zoneupdate.specs.KeptZones.{ZoneKept, IsKept, IsPlanOf, HasRoom, Leads}
use Rattle.zoneupdate.proofs.Plans.{led}
use Rattle.history.specs.HeldPlans.{IsZoneReady, zone_changed}
use Rattle.history.proofs.Elements.{same_some, slice_get-read, get_or-same, slice_get-set, slice_get-within, map-changed}

pub room-here : (zones : List ZoneKept) (i : ℕ) (new : ZoneKept) {E : Type 0} (r : Result Verdict E) → i < length zones → IfOk r (HasRoom new.nodes) → IfOk r (λ verdict. (zone : ZoneKept) → slice_get (set zones i new) i ≡ Some zone → HasRoom zone.nodes verdict)
room-here zones i new (Err e) h room = tt
room-here zones i new (Ok verdict) h room = λ zone is. subst (λ (z : ZoneKept). HasRoom z.nodes verdict) (same_some new zone (sym (slice_get-set zones i new h) ∙ is)) room

-- ---- a plan is made

abbrev pub IsReadyZone : ZoneKept → List Changed → Type 0
IsReadyZone zone changed = IsPlanOf zone.state changed × HasRoomFor (keys_put changed) zone.nodes

ready-zone : (o : Option ZoneKept) (changed : List Changed) → IsZoneReady o changed → (zone : ZoneKept) × (o ≡ Some zone) × IsReadyZone zone changed
ready-zone None changed ready = absurd ready
ready-zone (Some zone) changed ready = (zone, refl, ready)

pub zone-within : (zones : List ZoneKept) (i : ℕ) (changed : List Changed) → IsZoneReady (slice_get zones i) changed → i < length zones
zone-within zones i changed ready = let zone = ready-zone (slice_get zones i) changed ready in slice_get-within zones i zone.0 zone.1

-- what is asked of the zone at a place is there of the one that is read
pub zone-read : (zones : List ZoneKept) (i : ℕ) (changed : List Changed) (old : ZoneKept) → IsZoneReady (slice_get zones i) changed → old ≡ get_or zones i old → IsReadyZone (get_or zones i old) changed
zone-read zones i changed old ready is =
    let zone = ready-zone (slice_get zones i) changed ready in
    let same : zone.0 ≡ get_or zones i old = same_some zone.0 old (sym zone.1 ∙ slice_get-read zones i old (slice_get-within zones i zone.0 zone.1) is) ∙ is in
    subst (λ z. IsReadyZone z changed) same zone.2

pub zone-applied : (zones : List ZoneKept) (i : ℕ) (first old new : ZoneKept) (changed : List Changed) → IsZoneReady (slice_get zones i) changed → old ≡ get_or zones i old → IsKept (get_or zones i first).state
    → ((rows : RecordSet) → Leads (get_or zones i old).state changed rows → new.state ≡ record (get_or zones i old).state { rows = rows })
    → map (λ (z : ZoneKept). z.state) (set zones i new) ≡ changed_at i (zone_changed changed) (map (λ (z : ZoneKept). z.state) zones)
zone-applied zones i first old new changed ready is kept applied =
    let (rows, leads) = (zone-read zones i changed old ready is).0 in
    let reached = (led (get_or zones i old).state changed rows (subst (λ (z : ZoneKept). IsKept z.state) (get_or-same zones i first old (zone-within zones i changed ready)) kept) leads).reached in
    map-changed (λ (z : ZoneKept). z.state) (zone_changed changed) zones i old new (zone-within zones i changed ready) is
    (applied rows leads ∙ (λ j. record (get_or zones i old).state { rows = sym reached j }))
