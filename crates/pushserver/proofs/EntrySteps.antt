-- What an entry makes of the records.
--     entry-lower, entry-rising, entry-rows      the keys that it changes, and the records behind them
--     same_past      the hub with the past behind a plan
use Rattle.std.proofs.Common.{◌≡◌, Bool, true, false, List, Result, Ok, Err, ap}
use Rattle.std.specs.Prelude.{OnOk, OnErr}
use Rattle.std.specs.Result.{is_err}
use Rattle.rrset.specs.RecordSet.{changes, with_changes}
use Rattle.rrset.specs.declared.record.Changed.{Changed}
use Rattle.rrset.proofs.WithChanges.{with_changes-new}
use Rattle.nametable.specs.Nodes.{HaveRisingKeys}
use Rattle.zoneupdate.proofs.Plans.{HaveLowerKeys, lower-changes, rising-changes}
use Rattle.zoneupdate.proofs.RecordSets.{set-in_order}
use Rattle.history.specs.Kept.{Past}
use Rattle.history.specs.AtHome.{AreAtHome}
use Rattle.history.specs.States.{State, after, records}
use Rattle.history.specs.declared.entry.Entry.{Entry}
use Rattle.history.proofs.ShownAtHome.{set-records}
use Rattle.history.proofs.StatesAtHome.{home-after}
use Rattle.pushserver.specs.KeptHubs.{KeptHub}
use Rattle.pushserver.specs.HubState.{kept_of, seen_of}
use Rattle.pushserver.specs.declared.hub_state.HubState.{HubState}

-- the keys that an entry changes
abbrev entry_changes : Entry → State → List Changed
entry_changes entry state = changes (records state) (records (after state entry))

-- a hub with this past
abbrev pub with_past : Past → KeptHub → KeptHub
with_past past k = record k { start = past.start; history = past.history; seen = seen_of past }

-- ---- the records after one more entry

pub entry-lower : (state : State) (entry : Entry) → AreAtHome state → HaveLowerKeys (entry_changes entry state)
entry-lower state entry home = lower-changes (records state) (records (after state entry)) (set-records state home) (set-records (after state entry) (home-after state home entry))

pub entry-rising : (state : State) (entry : Entry) → AreAtHome state → HaveRisingKeys (entry_changes entry state)
entry-rising state entry home = rising-changes (records state) (records (after state entry)) (set-in_order (records state) (set-records state home))

pub entry-rows : (state : State) (entry : Entry) → AreAtHome state → with_changes (entry_changes entry state) (records state) ≡ records (after state entry)
entry-rows state entry home =
    with_changes-new (records state) (records (after state entry)) (set-in_order (records state) (set-records state home))
    (set-in_order (records (after state entry)) (set-records (after state entry) (home-after state home entry)))

-- ---- the hub with the past behind a plan

pub same_past : (keeping : HubState) (past : Past) → past ≡ keeping.points.past → with_past past (kept_of keeping) ≡ kept_of keeping
same_past keeping past same = ap (λ (p : Past). with_past p (kept_of keeping)) same

-- ---- the parts of what is kept

pub on_is_err : {A E P : Type 0} (r : Result A E) (b : Bool) → b ≡ is_err r → b ≡ true → OnErr r P → P
on_is_err (Ok x) b is e p = cc
on_is_err (Err x) b is e p = p

pub on_not_err : {A E P : Type 0} (r : Result A E) (b : Bool) → b ≡ is_err r → b ≡ false → OnOk r P → P
on_not_err (Ok x) b is e p = p
on_not_err (Err x) b is e p = cc
