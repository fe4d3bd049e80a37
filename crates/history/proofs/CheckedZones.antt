-- What an update of zones gets, from what the zone that it names gets.
use Rattle.std.proofs.Common.{◌≡◌, ℕ, zero, suc, ◌<◌, true, List, [], ◌∷◌, ◌++◌, length, map, filter, Option, Some, None, Ok, sym, ap, subst, ◌∙◌, arith}
use Rattle.std.specs.Prelude.{position, slice_get}
use Rattle.std.specs.List.{list_any}
use Rattle.std.proofs.lemmas.List.{length-append}
use Rattle.std.proofs.lemmas.List.Folds.{flat_map-map}
use Rattle.push_base.specs.Cases.{changed_at}
use Rattle.dnsname.specs.Names.{Labels, same_name}
use Rattle.dnswire.specs.declared.message.Update.{Update}
use Rattle.rrset.specs.RecordSet.{RecordSet}
use Rattle.rrset.specs.declared.record.Changed.{Changed}
use Rattle.zoneupdate.specs.KeptZones.{ZoneKept, lies_under, IsUnder, Judges, HasRoom, Leads}
use Rattle.zoneupdate.specs.Updates.{judged}
use Rattle.zoneupdate.specs.Zones.{ZoneState}
use Rattle.zoneupdate.specs.declared.plan.Verdict.{Verdict}
use Rattle.zoneupdate.specs.declared.plan.Verdict.TheVariants as verdicts
use Rattle.zoneupdate.proofs.Filters.{or-left, or-right}
use Rattle.zoneupdate.proofs.Owners.{same_name-itself}
use Rattle.linkcache.specs.Links.{LinkState, LinkKept}
use Rattle.linkcache.specs.Rows.{names_of}
use Rattle.history.specs.AtHome.{AreAtHome}
use Rattle.history.specs.HeldPlans.{Checks, IsCheckReady, IsZoneReady, zone_changed}
use Rattle.history.specs.Kept.{states_at}
use Rattle.history.specs.Longest.{link_names}
use Rattle.history.specs.States.{State, home_names, zone_asked}
use Rattle.history.specs.declared.updating.Checked.TheVariants as results
use Rattle.history.proofs.Elements.{same_some, slice_get-map, element_at, element_here}
use Rattle.history.proofs.HomeSets.{map-twice}
use Rattle.history.proofs.Positions.{found_from, slice_get-found, position-map, changed_at-standing}
use Rattle.history.proofs.UpdateSteps.{named, refused-none, refused-found, Accepted, accepted-found}

abbrev states : List ZoneKept → List ZoneState
states zones = map (λ (z : ZoneKept). z.state) zones

abbrev pub apexes_kept : List ZoneKept → List Labels
apexes_kept zones = map (λ (z : ZoneKept). z.state.apex) zones

pub names-kept : (zones : List ZoneKept) (links : List LinkKept) (t : ℕ) → apexes_kept zones ++ link_names links ≡ home_names (states_at zones links t)
names-kept zones links t = sym (λ i. map-twice (λ (z : ZoneKept). z.state) (λ (z : ZoneState). z.apex) zones i ++ flat_map-map (λ (l : LinkState). names_of l.rules) (λ (l : LinkKept). l.state) links i)

-- the first zone of a name
abbrev pub first_named : List ZoneKept → Labels → Option ℕ
first_named zones apex = position (λ z. same_name z.state.apex apex) zones

pub first-states : (zones : List ZoneKept) (apex : Labels) (o : Option ℕ) → o ≡ first_named zones apex → position (named apex) (states zones) ≡ o
first-states zones apex o is = position-map (λ (z : ZoneKept). z.state) (named apex) zones ∙ sym is

pub checked-none : (zones : List ZoneKept) (links : List LinkKept) (update : Update) (apex : Labels) → zone_asked update.zones ≡ Ok apex → None ≡ first_named zones apex → (t : ℕ) → Checks (states_at zones links t) update (results.Refuse 9)
checked-none zones links update apex asked none t = refused-none (states_at zones links t) update apex asked (first-states zones apex None none)

-- ---- the zone that is named

any_of : (zones : List ZoneKept) (more : List Labels) (i : ℕ) (zone : ZoneKept) → slice_get zones i ≡ Some zone → list_any (same_name zone.state.apex) (apexes_kept zones ++ more) ≡ true
any_of [] more i zone e = cc
any_of (z ∷ zones) more zero zone e = or-left (same_name zone.state.apex z.state.apex) (list_any (same_name zone.state.apex) (apexes_kept zones ++ more)) (ap (λ (x : ZoneKept). same_name zone.state.apex x.state.apex) (same_some z zone e) ∙ same_name-itself zone.state.apex)
any_of (z ∷ zones) more (suc i) zone e = or-right (same_name zone.state.apex z.state.apex) (list_any (same_name zone.state.apex) (apexes_kept zones ++ more)) (any_of zones more i zone e)

-- the homes that lie under the zone in its place
abbrev pub UnderAt : List ZoneKept → List LinkKept → ℕ → List Labels → Type 0
UnderAt zones links i under = (zone : ZoneKept) → slice_get zones i ≡ Some zone → under ≡ filter (lies_under zone.state.apex) (apexes_kept zones ++ link_names links)

is_under-at : (zones : List ZoneKept) (links : List LinkKept) (i : ℕ) (under : List Labels) → UnderAt zones links i under → (zone : ZoneKept) → slice_get zones i ≡ Some zone → IsUnder (apexes_kept zones ++ link_names links) zone.state.apex under
is_under-at zones links i under is zone at = record { is_home = any_of zones (link_names links) i zone at; are_under = is zone at }

-- what the zone in its place gets, whatever the homes are
abbrev pub JudgesAt : List ZoneKept → ℕ → List Labels → Update → Verdict → Type 0
JudgesAt zones i under update verdict = (zone : ZoneKept) (homes : List Labels) → slice_get zones i ≡ Some zone → IsUnder homes zone.state.apex under → Judges zone.state verdict (judged homes zone.state update)

judged_at : (zones : List ZoneKept) (links : List LinkKept) (t i : ℕ) (under : List Labels) (update : Update) (verdict : Verdict) (state : ZoneState) → slice_get (states zones) i ≡ Some state → UnderAt zones links i under → JudgesAt zones i under update verdict
    → Judges state verdict (judged (home_names (states_at zones links t)) state update)
judged_at zones links t i under update verdict state at is judges =
    let kept = element_at (λ (z : ZoneKept). z.state) zones i state at in
    subst (λ (homes : List Labels). Judges state verdict (judged homes state update)) (names-kept zones links t)
    (subst (λ s. Judges s verdict (judged (apexes_kept zones ++ link_names links) s update)) kept.2 (judges kept.0 (apexes_kept zones ++ link_names links) kept.1 (is_under-at zones links i under is kept.0 kept.1)))

pub checked-refused : (zones : List ZoneKept) (links : List LinkKept) (update : Update) (apex : Labels) (i : ℕ) (under : List Labels) (code : ℕ) → zone_asked update.zones ≡ Ok apex → Some i ≡ first_named zones apex → UnderAt zones links i under
    → JudgesAt zones i under update (verdicts.Refuse code) → (t : ℕ) → Checks (states_at zones links t) update (results.Refuse code)
checked-refused zones links update apex i under code asked found is judges t =
    let f = found_from (named apex) (states zones) i (first-states zones apex (Some i) found) in
    refused-found (states_at zones links t) update apex i f code asked (judged_at zones links t i under update (verdicts.Refuse code) f.here (slice_get-found (named apex) (states zones) i f) is judges)

-- an accepted update leads to the zone with its changes made
pub checks-accepted : (state : State) (update : Update) (changed : List Changed) (i : ℕ) → Accepted state update changed i → Checks state update (results.Accept i changed)
checks-accepted state update changed i made = (made.plan, made.later ∙ ap (λ (zs : List ZoneState). record state { zones = zs }) (sym whole))
  where
    whole : changed_at i (zone_changed changed) state.zones ≡ made.at.before ++ record made.at.zone { rows = made.rows } ∷ made.at.behind
    whole =
        changed_at-standing (zone_changed changed) state.zones i made.at.zone (record { before = made.at.before; behind = made.at.behind; parts = made.at.parts; place = made.at.place })
        ∙ ap (λ (rows : RecordSet). made.at.before ++ record made.at.zone { rows = rows } ∷ made.at.behind) made.reached

pub checked-accepted : (zones : List ZoneKept) (links : List LinkKept) (update : Update) (apex : Labels) (i : ℕ) (under : List Labels) (changed : List Changed) → zone_asked update.zones ≡ Ok apex → Some i ≡ first_named zones apex → UnderAt zones links i under
    → JudgesAt zones i under update (verdicts.Accept changed) → (t : ℕ) → AreAtHome (states_at zones links t) → Checks (states_at zones links t) update (results.Accept i changed)
checked-accepted zones links update apex i under changed asked found is judges t home =
    let f = found_from (named apex) (states zones) i (first-states zones apex (Some i) found) in
    let step = judged_at zones links t i under update (verdicts.Accept changed) f.here (slice_get-found (named apex) (states zones) i f) is judges in
    checks-accepted (states_at zones links t) update changed i (accepted-found (states_at zones links t) home update apex i f step.0 changed asked step.1 step.2)

-- ---- the room

pub first-within : (zones : List ZoneKept) (apex : Labels) (i : ℕ) → Some i ≡ first_named zones apex → i < length zones
first-within zones apex i is =
    let f = found_from (λ (z : ZoneKept). same_name z.state.apex apex) zones i (sym is) in
    let long = ap (λ (zs : List ZoneKept). length zs) f.parts in
    let parts = length-append f.before (f.here ∷ f.behind) in
    let place = f.place in
    omega arith

-- an accepted update's plan is one of the zone's, which has room for its keys
pub room-at : (zones now : List ZoneKept) (links : List LinkKept) (update : Update) (apex : Labels) (i : ℕ) (under : List Labels) (changed : List Changed) → Some i ≡ first_named zones apex → UnderAt zones links i under
    → JudgesAt zones i under update (verdicts.Accept changed) → states now ≡ states zones → ((zone : ZoneKept) → slice_get now i ≡ Some zone → HasRoom zone.nodes (verdicts.Accept changed)) → IsCheckReady now (results.Accept i changed)
room-at zones now links update apex i under changed found is judges same room =
    let old = element_here zones i (first-within zones apex i found) in
    let later = element_at (λ (z : ZoneKept). z.state) now i old.0.state (ap (λ (ss : List ZoneState). slice_get ss i) same ∙ slice_get-map (λ (z : ZoneKept). z.state) zones i old.0 old.1) in
    let homes = apexes_kept zones ++ link_names links in
    let step = judges old.0 homes old.1 (is_under-at zones links i under is old.0 old.1) in
    subst (λ o. IsZoneReady o changed) (sym later.1) (
      (step.0, subst (λ (s : ZoneState). Leads s changed step.0) (sym later.2) (record { homes = homes; update = update; step = step.1; keys = step.2 })),
      room later.0 later.1,
    )
