-- States in which each record lies in the home of its owner.
--     homes_in state      homes by their names: the zones, and behind them the links, each with its reverse domains
--     AreNamesOf names state      the names are those of the homes, in whatever order these were added
--     StandApart homes      no home clashes with another, and none has too long a name or one that it may not have
--     IsAtHome homes zone      the zone's records are a set, and it is the home of each of their owners
--     AreAtHome state      homes that stand apart, with each record in its owner's home
--     IsHomeAt homes name place      where the home of a name stands among homes
use Rattle.std.specs.Prelude.{◌≡◌, ℕ, ◌≤◌, List, ◌∷◌, ◌++◌, map, flat_map, length, Option, Some, None, slice_get, IsTrue, IsPermutation}
use Rattle.std.specs.List.{list_all, AllByRecursion, IsDistinct}
use Rattle.push_base.specs.Limits.{max_home_octets}
use Rattle.dnsname.specs.Names.{Labels, octets, home}
use Rattle.rrset.specs.RecordSet.{is_record_set}
use Rattle.zoneupdate.specs.Zones.{ZoneState, is_inside}
use Rattle.linkcache.specs.Links.{IsLink}
use Rattle.history.specs.Homes.{NamedHome, clashes, name_fault}
use Rattle.history.specs.States.{State, LinkState, home_names}
use Rattle.history.specs.declared.entry.HomeKind.TheVariants as kinds

abbrev pub named_zones : List ZoneState → List NamedHome
named_zones zones = map (λ z. (z.apex, kinds.Zone)) zones

-- a link by its domain and its reverse domains
abbrev pub named_link : LinkState → List NamedHome
named_link link = (link.rules.domain, kinds.Link) ∷ map (λ r. (r, kinds.Reverse)) link.rules.reverses

abbrev pub named_links : List LinkState → List NamedHome
named_links links = flat_map named_link links

-- homes by their names: the zones, and behind them the links, each with its reverse domains
abbrev pub homes_in : State → List NamedHome
homes_in state = named_zones state.zones ++ named_links state.links

-- the names are those of the homes, in whatever order these were added
abbrev pub AreNamesOf : List NamedHome → State → Type 0
AreNamesOf names state = IsPermutation names (homes_in state)

-- no home clashes with another, and none has too long a name, or one that it may not have
pub record StandApart (homes : List NamedHome) : Type 0 where
  pub apart : IsDistinct clashes homes
  pub short : AllByRecursion (λ h. length (octets h.0) ≤ max_home_octets) homes
  pub fit : AllByRecursion (λ h. name_fault h ≡ None) homes

-- the zone is the home of each owner of its records
pub record IsAtHome (homes : List Labels) (zone : ZoneState) : Type 0 where
  pub set : IsTrue (is_record_set zone.rows)
  pub inside : IsTrue (list_all (λ e. is_inside homes zone.apex e.0.owner) zone.rows)

-- homes that stand apart, zones with each record at home, and links of usable records
pub record AreAtHome (state : State) : Type 0 where
  pub apart : StandApart (homes_in state)
  pub zones : AllByRecursion (IsAtHome (home_names state)) state.zones
  pub links : AllByRecursion IsLink state.links

-- the home of a name stands at this place, or it has none
abbrev pub IsHomeAt : List Labels → Labels → Option ℕ → Type 0
IsHomeAt homes name None = home homes name ≡ None
IsHomeAt homes name (Some i) = (h : Labels) × (slice_get homes i ≡ Some h) × (home homes name ≡ Some h)
