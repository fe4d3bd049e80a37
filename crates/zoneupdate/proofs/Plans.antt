-- What an accepted update leads to, by the keys of its plan.
use Rattle.std.proofs.Common.{◌≡◌, Bool, true, not, T, List, [], ◌∷◌, map, Some, sym, ap, subst, ◌∙◌}
use Rattle.std.specs.FinMap.Entries.{below_all}
use Rattle.std.specs.List.{list_all, AllByRecursion}
use Rattle.rrset.specs.RecordSet.{RecordSet, shows_its_key, only, put, union, shown_at, shown_the_same, changes, with_changes}
use Rattle.rrset.specs.Tables.{HasLowerOwner, HaveLowerOwners}
use Rattle.rrset.specs.declared.record.Key.{Key}
use Rattle.rrset.specs.declared.record.Shown.{Shown}
use Rattle.rrset.specs.declared.record.Changed.{Changed}
use Rattle.rrset.proofs.WithChanges.{change_at, with_changes-new}
use Rattle.rrset.specs.declared.record.Rr.{Rr}
use Rattle.rrset.specs.Records.{key_cmp}
use Rattle.rrset.specs.KeyedRows.{is_rising}
use Rattle.rrset.proofs.InOrder.{InOrder, in_order-only, in_order-union}
use Rattle.rrset.proofs.Places.{and_left, and_right, and_both}
use Rattle.nametable.specs.Nodes.{rows_after, HaveRisingKeys}
use Rattle.zoneupdate.specs.Zones.{ZoneState}
use Rattle.zoneupdate.specs.Updates.{rows_after as rows_after_changes}
use Rattle.zoneupdate.specs.Checking.{Plans}
use Rattle.zoneupdate.specs.KeptZones.{IsKept, Leads, IsPlanOf}
use Rattle.zoneupdate.proofs.Filters.{and-left, and-right, is_true}
use Rattle.zoneupdate.proofs.SomeAndAll.{all-filter}
use Rattle.zoneupdate.proofs.RecordSets.{IsSet, all-put, set-in_order, lower_owners}
use Rattle.zoneupdate.proofs.KeptZone.{zone_parts, zone-after}
use Rattle.zoneupdate.proofs.NewZone.{kept-led}

pub all-union : (f : Key × Shown → Bool) (first second : RecordSet) → list_all f first ≡ true → list_all f second ≡ true → list_all f (union first second) ≡ true
all-union f first [] h g = h
all-union f first (e ∷ es) h g = all-union f (put e.0 e.1 first) es (all-put f e.0 e.1 first h (and-left (f e) (list_all f es) g)) (and-right (f e) (list_all f es) g)

-- each key of a plan has its owner in lower case
abbrev pub HaveLowerKeys : List Changed → Type 0
HaveLowerKeys cs = AllByRecursion (λ c. HasLowerOwner c.key) cs

lower_changes : (old new es : RecordSet) → HaveLowerOwners es → HaveLowerKeys (map (change_at old new) es)
lower_changes old new [] h = tt
lower_changes old new (e ∷ es) h = (h.0, lower_changes old new es h.1)

pub lower-changes : (old new : RecordSet) → IsSet old → IsSet new → HaveLowerKeys (changes old new)
lower-changes old new h g =
    let differs : Key → Bool = λ key. not (shown_the_same (shown_at key old) (shown_at key new)) in
    let all : list_all shows_its_key (union old new) ≡ true = all-union shows_its_key old new (and-right _ _ h) (and-right _ _ g) in
    lower_changes old new (only differs (union old new)) (lower_owners (only differs (union old new)) (all-filter shows_its_key (λ e. differs e.0) (union old new) all))

below_after : (k : Key) (old new es : RecordSet) → T (below_all key_cmp k es) → T (below_all key_cmp k (rows_after (map (change_at old new) es)))
below_after k old new [] h = tt
below_after k old new (e ∷ es) h = and_both _ _ (and_left _ _ h) (below_after k old new es (and_right _ _ h))

rising_after : (old new es : RecordSet) → InOrder es → T (is_rising (rows_after (map (change_at old new) es)))
rising_after old new [] h = tt
rising_after old new (e ∷ es) h = and_both _ _ (below_after e.0 old new es (and_left _ _ h)) (rising_after old new es (and_right _ _ h))

-- the keys of changes rise
pub rising-changes : (old new : RecordSet) → InOrder old → HaveRisingKeys (changes old new)
rising-changes old new h =
    let differs : Key → Bool = λ key. not (shown_the_same (shown_at key old) (shown_at key new)) in
    is_true _ (rising_after old new (only differs (union old new)) (in_order-only differs (union old new) (in_order-union old new h)))

-- what room is made for
pub record PlanKeys (changed : List Changed) : Type 0 where
  pub lower : HaveLowerKeys changed
  pub rising : HaveRisingKeys changed

pub plan_keys : (state : ZoneState) (rrs : List Rr) (plan changed : List Changed) → IsKept state → Plans state rrs (Some plan) → changed ≡ plan → PlanKeys changed
plan_keys state rrs plan changed kept plans is =
    let old = (zone_parts state kept.zone).set in
    let new = (zone_parts (record state { rows = rows_after_changes state rrs }) (zone-after state rrs kept.zone)).set in
    subst PlanKeys (sym (is ∙ plans.1)) (record { lower = lower-changes state.rows (rows_after_changes state rrs) old new; rising = rising-changes state.rows (rows_after_changes state rrs) (set-in_order state.rows old) })

-- what a plan says of the rows that it leads to
pub record Led (state : ZoneState) (changed : List Changed) (rows : RecordSet) : Type 0 where
  pub lower : HaveLowerKeys changed
  pub reached : with_changes changed state.rows ≡ rows
  pub kept : IsKept (record state { rows = rows })

pub led : (state : ZoneState) (changed : List Changed) (rows : RecordSet) → IsKept state → Leads state changed rows → Led state changed rows
led state changed rows kept leads =
    let after = kept-led state changed rows leads kept in
    let old = (zone_parts state kept.zone).set in
    let new = (zone_parts (record state { rows = rows }) after.zone).set in
    record {
      lower = subst HaveLowerKeys (sym leads.keys) (lower-changes state.rows rows old new);
      reached = ap (λ cs. with_changes cs state.rows) leads.keys ∙ with_changes-new state.rows rows (set-in_order state.rows old) (set-in_order rows new);
      kept = after;
    }

-- ---- the changes of a plan, made to the fields of a zone

pub kept_before : (state inside : ZoneState) → inside ≡ state → IsKept inside → IsKept state
kept_before state inside e kept = subst IsKept e kept

pub planned-lower : (state inside : ZoneState) (plan changed : List Changed) → inside ≡ state → changed ≡ plan → IsKept inside → IsPlanOf state plan → HaveLowerKeys changed
planned-lower state inside plan changed e f kept planned = subst HaveLowerKeys (sym f) (led state plan planned.0 (kept_before state inside e kept) planned.1).lower

pub applied : (state inside : ZoneState) (plan changed : List Changed) (after rows : RecordSet) → inside ≡ state → changed ≡ plan → IsKept inside → Leads state plan rows → after ≡ with_changes changed inside.rows
    → record inside { rows = after } ≡ record state { rows = rows }
applied state inside plan changed after rows e f kept leads made =
    let reached : after ≡ rows =
    made ∙ ap (λ z. with_changes changed z.rows) e ∙ ap (λ cs. with_changes cs state.rows) f ∙ (led state plan rows (kept_before state inside e kept) leads).reached in
    ap (λ (z : ZoneState). record z { rows = after }) e ∙ ap (λ r. record state { rows = r }) reached

pub applied-kept : (state inside : ZoneState) (plan changed : List Changed) (after : RecordSet) → inside ≡ state → changed ≡ plan → IsKept inside → IsPlanOf state plan → after ≡ with_changes changed inside.rows
    → IsKept (record inside { rows = after })
applied-kept state inside plan changed after e f kept planned made =
    subst IsKept (sym (applied state inside plan changed after planned.0 e f kept planned.1 made)) (led state plan planned.0 (kept_before state inside e kept) planned.1).kept
