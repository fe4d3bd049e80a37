-- What an update makes of homes in which each record is at home: one zone with other rows.
use Rattle.std.proofs.Common.{◌≡◌, ℕ, Bool, true, false, cond, List, [], ◌∷◌, ◌++◌, map, length, refl, sym, ap, subst, ◌∙◌, append_assoc}
use Rattle.std.specs.Prelude.{flat_map}
use Rattle.std.specs.List.{AllByRecursion, IsDistinct}
use Rattle.std.proofs.lemmas.List.{map-append}
use Rattle.dnsname.specs.Names.{Labels, same_name}
use Rattle.rrset.specs.RecordSet.{RecordSet, changes}
use Rattle.zoneupdate.specs.Zones.{ZoneState}
use Rattle.zoneupdate.proofs.Owners.{same_name-itself}
use Rattle.linkcache.specs.Rows.{names_of}
use Rattle.history.specs.Homes.{NamedHome, clashes}
use Rattle.history.specs.AtHome.{IsAtHome, AreAtHome, StandApart, named_zones, named_links}
use Rattle.history.specs.States.{State, LinkState, home_names, with_rows, records}
use Rattle.history.specs.declared.entry.HomeKind.TheVariants as kinds
use Rattle.history.proofs.Distinct.{all-both, all-apart, all-as, all-map, distinct-parts}
use Rattle.history.proofs.HomeSets.{HomeSet, zone_set, zone_sets, link_sets, home_sets, shown_sets, sets-apart, records-sets, zone-parts, zone-at_home, stands, changes-stands}
use Rattle.history.proofs.LinksAtHome.{sets-at_home}
use Rattle.history.proofs.Positions.{Found}
use Rattle.history.proofs.Together.{clashes-turned, other-name}
use Rattle.history.proofs.UnitedParts.{united}

-- ---- a zone in its place

-- a zone in its place, and the others by its name
pub record Placed (zones : List ZoneState) (i : ℕ) : Type 0 where
  pub before : List ZoneState
  pub zone : ZoneState
  pub behind : List ZoneState
  pub parts : zones ≡ before ++ zone ∷ behind
  pub place : length before ≡ i
  pub first : AllByRecursion (λ z. same_name z.apex zone.apex ≡ false) before
  pub last : AllByRecursion (λ z. same_name z.apex zone.apex ≡ false) behind

pub others-named : (before : List ZoneState) (zone : ZoneState) (behind : List ZoneState) (links : List LinkState) → IsDistinct clashes (named_zones (before ++ zone ∷ behind) ++ named_links links)
    → AllByRecursion (λ z. same_name z.apex zone.apex ≡ false) before × AllByRecursion (λ z. same_name z.apex zone.apex ≡ false) behind
others-named before zone behind links apart =
    let others = distinct-parts clashes (named_zones before) (zone.apex, kinds.Zone) (named_zones behind ++ named_links links) (subst (IsDistinct clashes) parts apart) in (
      all-as (λ (z : ZoneState). clashes (z.apex, kinds.Zone) (zone.apex, kinds.Zone) ≡ false) (λ (z : ZoneState). same_name z.apex zone.apex ≡ false) (λ z e. other-name (z.apex, kinds.Zone) (zone.apex, kinds.Zone) e) before
          (all-map (λ (z : ZoneState). (z.apex, kinds.Zone)) (λ y. clashes y (zone.apex, kinds.Zone) ≡ false) before others.0),
      all-as (λ (z : ZoneState). clashes (zone.apex, kinds.Zone) (z.apex, kinds.Zone) ≡ false) (λ (z : ZoneState). same_name z.apex zone.apex ≡ false) (λ z e. other-name (z.apex, kinds.Zone) (zone.apex, kinds.Zone) (clashes-turned (z.apex, kinds.Zone) (zone.apex, kinds.Zone) ∙ e)) behind
          (all-map (λ (z : ZoneState). (z.apex, kinds.Zone)) (λ y. clashes (zone.apex, kinds.Zone) y ≡ false) behind (all-apart (λ y. clashes (zone.apex, kinds.Zone) y ≡ false) (named_zones behind) (named_links links) others.1).0),
    )
  where
    parts : named_zones (before ++ zone ∷ behind) ++ named_links links ≡ named_zones before ++ (zone.apex, kinds.Zone) ∷ (named_zones behind ++ named_links links)
    parts = ap (λ (l : List NamedHome). l ++ named_links links) (map-append (λ (z : ZoneState). (z.apex, kinds.Zone)) before (zone ∷ behind)) ∙ append_assoc (named_zones before) ((zone.apex, kinds.Zone) ∷ named_zones behind) (named_links links)

abbrev pub placed-found : (p : ZoneState → Bool) (state : State) (i : ℕ) → AreAtHome state → (f : Found p state.zones i) → Placed state.zones i
placed-found p state i home f =
    let others = others-named f.before f.here f.behind state.links (subst (λ (zs : List ZoneState). IsDistinct clashes (named_zones zs ++ named_links state.links)) f.parts home.apart.apart) in
    record { before = f.before; zone = f.here; behind = f.behind; parts = f.parts; place = f.place; first = others.0; last = others.1 }

-- ---- one zone with other rows

abbrev pub with_zone : State → List ZoneState → ZoneState → List ZoneState → State
with_zone state before zone behind = record state { zones = before ++ zone ∷ behind }

kept_others : (apex : Labels) (rows : RecordSet) (zones : List ZoneState) → AllByRecursion (λ z. same_name z.apex apex ≡ false) zones
    → map (λ (z : ZoneState). cond (same_name z.apex apex) (record z { rows = rows }) z) zones ≡ zones
kept_others apex rows [] all = refl
kept_others apex rows (z ∷ zones) all = λ i. cond (all.0 i) (record z { rows = rows }) z ∷ kept_others apex rows zones all.1 i

changed_one : (apex : Labels) (rows : RecordSet) (before : List ZoneState) (zone : ZoneState) (behind : List ZoneState) → AllByRecursion (λ z. same_name z.apex apex ≡ false) before → same_name zone.apex apex ≡ true → AllByRecursion (λ z. same_name z.apex apex ≡ false) behind
    → map (λ (z : ZoneState). cond (same_name z.apex apex) (record z { rows = rows }) z) (before ++ zone ∷ behind) ≡ before ++ record zone { rows = rows } ∷ behind
changed_one apex rows [] zone behind none is rest = λ i. cond (is i) (record zone { rows = rows }) zone ∷ kept_others apex rows behind rest i
changed_one apex rows (z ∷ before) zone behind none is rest = λ i. cond (none.0 i) (record z { rows = rows }) z ∷ changed_one apex rows before zone behind none.1 is rest i

pub with_rows-placed : (state : State) (i : ℕ) (at : Placed state.zones i) (rows : RecordSet) → with_rows state at.zone.apex rows ≡ with_zone state at.before (record at.zone { rows = rows }) at.behind
with_rows-placed state i at rows =
    ap (λ zs. record state { zones = map (λ (z : ZoneState). cond (same_name z.apex at.zone.apex) (record z { rows = rows }) z) zs }) at.parts
    ∙ ap (λ zs. record state { zones = zs }) (changed_one at.zone.apex rows at.before at.zone at.behind at.first (same_name-itself at.zone.apex) at.last)

-- ---- what is shown otherwise

pub changes-placed : (state : State) (home : AreAtHome state) (i : ℕ) (at : Placed state.zones i) (rows : RecordSet) → IsAtHome (home_names state) (record at.zone { rows = rows })
    → changes (records state) (records (with_zone state at.before (record at.zone { rows = rows }) at.behind)) ≡ changes at.zone.rows rows
changes-placed state home i at rows new =
    (λ j. changes (records-sets state j) (later j))
    ∙ changes-stands (home_names state) (home_sets state) (zone_set at.zone)
    (stands (home_sets state) (zone_sets at.before) (zone_set at.zone) (zone_sets at.behind ++ link_sets state.links) (zone-parts state.zones at.before at.zone at.behind state.links at.parts) (sets-apart state home.apart))
    (sets-at_home state home) rows (zone-at_home (home_names state) (record at.zone { rows = rows }) new)
  where
    changed : ZoneState
    changed = record at.zone { rows = rows }

    later : records (with_zone state at.before changed at.behind) ≡ united [] (shown_sets (zone_sets at.before ++ zone_set changed ∷ (zone_sets at.behind ++ link_sets state.links)))
    later =
        records-sets (with_zone state at.before changed at.behind)
        ∙ ap (λ (ss : List HomeSet). united [] (shown_sets ss)) (zone-parts (at.before ++ changed ∷ at.behind) at.before changed at.behind state.links refl)

-- ---- zones stay at home

same_apexes : (before : List ZoneState) (zone : ZoneState) (rows : RecordSet) (behind : List ZoneState) → map (λ (z : ZoneState). z.apex) (before ++ record zone { rows = rows } ∷ behind) ≡ map (λ (z : ZoneState). z.apex) (before ++ zone ∷ behind)
same_apexes [] zone rows behind = refl
same_apexes (z ∷ before) zone rows behind = ap (λ l. z.apex ∷ l) (same_apexes before zone rows behind)

same_named : (before : List ZoneState) (zone : ZoneState) (rows : RecordSet) (behind : List ZoneState) → named_zones (before ++ record zone { rows = rows } ∷ behind) ≡ named_zones (before ++ zone ∷ behind)
same_named [] zone rows behind = refl
same_named (z ∷ before) zone rows behind = ap (λ l. (z.apex, kinds.Zone) ∷ l) (same_named before zone rows behind)

pub home-placed : (state : State) (home : AreAtHome state) (i : ℕ) (at : Placed state.zones i) (rows : RecordSet) → IsAtHome (home_names state) (record at.zone { rows = rows })
    → AreAtHome (with_zone state at.before (record at.zone { rows = rows }) at.behind)
home-placed state home i at rows new = record {
  apart = subst StandApart (ap (λ (l : List NamedHome). l ++ named_links state.links) named) home.apart;
  zones = subst (λ (hs : List Labels). AllByRecursion (IsAtHome hs) (at.before ++ record at.zone { rows = rows } ∷ at.behind)) names
      (all-both (IsAtHome (home_names state)) at.before (record at.zone { rows = rows } ∷ at.behind) each.0 (new, each.1.1));
  links = home.links;
}
  where
    named : named_zones state.zones ≡ named_zones (at.before ++ record at.zone { rows = rows } ∷ at.behind)
    named = ap named_zones at.parts ∙ sym (same_named at.before at.zone rows at.behind)

    names : home_names state ≡ home_names (with_zone state at.before (record at.zone { rows = rows }) at.behind)
    names = ap (λ (a : List Labels). a ++ flat_map (λ (l : LinkState). names_of l.rules) state.links) (ap (λ (zs : List ZoneState). map (λ (z : ZoneState). z.apex) zs) at.parts ∙ sym (same_apexes at.before at.zone rows at.behind))

    each : AllByRecursion (IsAtHome (home_names state)) at.before × AllByRecursion (IsAtHome (home_names state)) (at.zone ∷ at.behind)
    each = all-apart (IsAtHome (home_names state)) at.before (at.zone ∷ at.behind) (subst (AllByRecursion (IsAtHome (home_names state))) at.parts home.zones)
