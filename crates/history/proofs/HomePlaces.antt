-- The home of a name, from the place of the longest home that it ends in.
use Rattle.std.proofs.Common.{◌≡◌, ℕ, suc, Bool, true, false, cond, not, ◌&&◌, List, [], ◌∷◌, ◌++◌, map, Option, Some, None, refl, sym, ap, subst, ◌∙◌}
use Rattle.std.specs.Prelude.{position, slice_get, option_map}
use Rattle.std.specs.List.{list_all, list_any, AllByRecursion}
use Rattle.std.proofs.lemmas.List.Folds.{flat_map-map}
use Rattle.dnsname.specs.Names.{Labels, same_name, home}
use Rattle.zoneupdate.specs.KeptZones.{ZoneKept}
use Rattle.zoneupdate.specs.Zones.{ZoneState}
use Rattle.zoneupdate.proofs.Filters.{or-left}
use Rattle.zoneupdate.proofs.Owners.{same_name-itself}
use Rattle.linkcache.specs.Links.{LinkKept}
use Rattle.linkcache.specs.Rows.{names_of}
use Rattle.history.specs.Kept.{HomesKept, state_of}
use Rattle.history.specs.AtHome.{IsHomeAt, StandApart, homes_in}
use Rattle.history.specs.HeldPlans.{AreKept}
use Rattle.history.specs.Longest.{IsLongest, IsHomeBehind, link_names}
use Rattle.history.specs.States.{State, LinkState, home_names, home_of}
use Rattle.history.specs.declared.entry.Home.{Home}
use Rattle.history.specs.declared.entry.Home.TheVariants as homes
use Rattle.history.proofs.Distinct.{all-apart}
use Rattle.history.proofs.Elements.{same_some, slice_get-front, slice_get-map, element_at}
use Rattle.history.proofs.HomeSets.{HomeSet, zone_set, link_set, zone_sets, link_sets, home_sets, map-twice, sets-apart, zone-parts, link-parts, Stands, stands}
use Rattle.history.proofs.KeptHomes.{stand-apart}
use Rattle.history.proofs.NamesApart.{share_a_name, other-any}
use Rattle.history.proofs.Positions.{position-cons, position-here, standing_at}
use Rattle.history.proofs.ShownAtHome.{has_name}
use Rattle.history.proofs.Together.{same_name-turned}

-- ---- the first of a name

-- homes that share no name with one have no name of it
abbrev Apart : List Labels → HomeSet → Type 0
Apart own s = share_a_name s.0 own ≡ false

other-zones : (h : Labels) (own : List Labels) → list_any (same_name h) own ≡ true → (zones : List ZoneState) → AllByRecursion (Apart own) (zone_sets zones) → list_all (λ z. not (same_name z.apex h)) zones ≡ true
other-zones h own is [] all = refl
other-zones h own is (z ∷ zones) all =
    ap (λ b. not b && list_all (λ y. not (same_name y.apex h)) zones) (same_name-turned z.apex h ∙ alone (same_name h z.apex) (other-any h own (z.apex ∷ []) is all.0)) ∙ other-zones h own is zones all.1
  where
    alone : (b : Bool) → list_any (λ t. t) (b ∷ []) ≡ false → b ≡ false
    alone true e = cc
    alone false e = refl

other-links : (h : Labels) (own : List Labels) → list_any (same_name h) own ≡ true → (links : List LinkState) → AllByRecursion (Apart own) (link_sets links) → list_all (λ l. not (has_name h l)) links ≡ true
other-links h own is [] all = refl
other-links h own is (l ∷ links) all = ap (λ b. not b && list_all (λ k. not (has_name h k)) links) (other-any h own (names_of l.rules) is all.0) ∙ other-links h own is links all.1

position-none : {X : Type 0} (p : X → Bool) (xs : List X) → list_all (λ x. not (p x)) xs ≡ true → position p xs ≡ None
position-none p [] none = refl
position-none {X} p (x ∷ xs) none = position-cons p x xs ∙ by (p x) none (position-none p xs)
  where
    by : (b : Bool) → (not b && list_all (λ y. not (p y)) xs) ≡ true → (list_all (λ y. not (p y)) xs ≡ true → position p xs ≡ None) → cond b (Some 0) (option_map suc (position p xs)) ≡ None
    by true none rest = cc
    by false none rest = ap (option_map suc) (rest none)

zone-place : (state : State) (i : ℕ) (zone : ZoneState) → StandApart (homes_in state) → slice_get state.zones i ≡ Some zone → position (λ z. same_name z.apex zone.apex) state.zones ≡ Some i
zone-place state i zone stand e =
    let at = standing_at state.zones i zone e in
    let here : Stands (home_sets state) (zone_set zone) =
    stands (home_sets state) (zone_sets at.before) (zone_set zone) (zone_sets at.behind ++ link_sets state.links) (zone-parts state.zones at.before zone at.behind state.links at.parts) (sets-apart state stand) in
    ap (position (λ z. same_name z.apex zone.apex)) at.parts
    ∙ position-here (λ (z : ZoneState). same_name z.apex zone.apex) at.before zone at.behind (other-zones zone.apex (zone.apex ∷ []) (or-left (same_name zone.apex zone.apex) false (same_name-itself zone.apex)) at.before here.first) (same_name-itself zone.apex)
    ∙ ap Some at.place

-- a link stands at its place by each of its names
link-place : (state : State) (i : ℕ) (link : LinkState) (h : Labels) → StandApart (homes_in state) → slice_get state.links i ≡ Some link → has_name h link ≡ true → (position (λ z. same_name z.apex h) state.zones ≡ None) × (position (has_name h) state.links ≡ Some i)
link-place state i link h stand e own =
    let at = standing_at state.links i link e in
    let here : Stands (home_sets state) (link_set link) =
    stands (home_sets state) (zone_sets state.zones ++ link_sets at.before) (link_set link) (link_sets at.behind) (link-parts state.zones state.links at.before link at.behind at.parts) (sets-apart state stand) in
    let first = all-apart (Apart (names_of link.rules)) (zone_sets state.zones) (link_sets at.before) here.first in (
      position-none (λ (z : ZoneState). same_name z.apex h) state.zones (other-zones h (names_of link.rules) own state.zones first.0),
      ap (position (has_name h)) at.parts ∙ position-here (has_name h) at.before link at.behind (other-links h (names_of link.rules) own at.before first.1) own ∙ ap Some at.place,
    )

-- ---- the home of a name by where its longest home stands

abbrev by_position : State → Labels → Option ℕ → Option Home
by_position state h (Some i) = Some (homes.Zone i)
by_position state h None = option_map (λ i. homes.Link i) (position (has_name h) state.links)

abbrev by_home : State → Option Labels → Option Home
by_home state None = None
by_home state (Some h) = by_position state h (position (λ z. same_name z.apex h) state.zones)

home_of-by : (state : State) (name : Labels) → home_of state name ≡ by_home state (home (home_names state) name)
home_of-by state name = by (home (home_names state) name)
  where
    placed : (h : Labels) (o : Option ℕ) → elim o as (λ _. Option Home) [ Some i ↦ Some (homes.Zone i) | None ↦ option_map (λ i. homes.Link i) (position (has_name h) state.links) ] ≡ by_position state h o
    placed h None = refl
    placed h (Some i) = refl

    by : (o : Option Labels) → elim o as (λ _. Option Home) [
      | None ↦ None
      | Some h ↦ elim (position (λ z. same_name z.apex h) state.zones) as (λ _. Option Home) [ Some i ↦ Some (homes.Zone i) | None ↦ option_map (λ i. homes.Link i) (position (has_name h) state.links) ]
    ] ≡ by_home state o
    by None = refl
    by (Some h) = placed h (position (λ z. same_name z.apex h) state.zones)

home_of-zone : (state : State) (name : Labels) (i : ℕ) (zone : ZoneState) → StandApart (homes_in state) → slice_get state.zones i ≡ Some zone → home (home_names state) name ≡ Some zone.apex → home_of state name ≡ Some (homes.Zone i)
home_of-zone state name i zone stand at is = home_of-by state name ∙ ap (by_home state) is ∙ ap (by_position state zone.apex) (zone-place state i zone stand at)

home_of-link : (state : State) (name : Labels) (i : ℕ) (link : LinkState) (h : Labels) → StandApart (homes_in state) → slice_get state.links i ≡ Some link → has_name h link ≡ true → home (home_names state) name ≡ Some h → home_of state name ≡ Some (homes.Link i)
home_of-link state name i link h stand at own is =
    let place = link-place state i link h stand at own in
    home_of-by state name ∙ ap (by_home state) is ∙ ap (by_position state h) place.0 ∙ ap (option_map (λ i. homes.Link i)) place.1

-- ---- homes that are kept

abbrev pub zone_names : List ZoneKept → List Labels
zone_names zones = map (λ z. z.state.apex) zones

same_zones : (zones : List ZoneKept) → zone_names zones ≡ map (λ (z : ZoneState). z.apex) (map (λ (z : ZoneKept). z.state) zones)
same_zones zones = sym (map-twice (λ (z : ZoneKept). z.state) (λ (z : ZoneState). z.apex) zones)

same_names : (homes : HomesKept) → zone_names homes.zones ++ link_names homes.links ≡ home_names (state_of homes)
same_names homes = λ i. same_zones homes.zones i ++ sym (flat_map-map (λ (l : LinkState). names_of l.rules) (λ (l : LinkKept). l.state) homes.links) i

-- the home, from a zone that was found first, and a longer link
abbrev pub home_among : Option ℕ → Option ℕ → Option Home
home_among best (Some i) = Some (homes.Link i)
home_among best None = option_map (λ i. homes.Zone i) best

found : (homes : HomesKept) (name : Labels) (best link : Option ℕ) (most : ℕ) → AreKept homes → IsLongest (zone_names homes.zones) name best most → IsHomeBehind (zone_names homes.zones) homes.links name best link → home_of (state_of homes) name ≡ home_among best link
found homes name None None most kept longest is = home_of-by (state_of homes) name ∙ ap (by_home (state_of homes)) (ap (λ hs. home hs name) (sym (same_names homes)) ∙ is)
found homes name (Some i) None most kept (g, at, longest, size) (h, there, is) =
    let zone = element_at (λ (z : ZoneState). z.apex) (state_of homes).zones i g (ap (λ hs. slice_get hs i) (sym (same_zones homes.zones)) ∙ at) in
    let same : h ≡ zone.0.apex = sym (same_some g h (sym (slice_get-front (zone_names homes.zones) (link_names homes.links) i g at) ∙ there)) ∙ sym zone.2 in
    home_of-zone (state_of homes) name i zone.0 (stand-apart homes 0 kept) zone.1 (ap (λ hs. home hs name) (sym (same_names homes)) ∙ is ∙ ap Some same)
found homes name best (Some i) most kept longest (h, link, is, at, own) =
    home_of-link (state_of homes) name i link.state h (stand-apart homes 0 kept) (slice_get-map (λ (l : LinkKept). l.state) homes.links i link at) own (ap (λ hs. home hs name) (sym (same_names homes)) ∙ is)

pub home-found : (homes now : HomesKept) (zones : List ZoneKept) (links : List LinkKept) (name : Labels) (best longer : Option ℕ) (most : ℕ) (first link : Option ℕ) → homes ≡ now → AreKept homes → zones ≡ homes.zones → links ≡ homes.links
    → IsLongest (zone_names zones) name best most → ((before : List Labels) (place : Option ℕ) → IsLongest before name place most → IsHomeBehind before links name place longer) → best ≡ first → longer ≡ link
    → home_among first link ≡ home_of (state_of now) name
home-found homes now zones links name best longer most first link same kept zones_is links_is longest goes_on best_is longer_is =
    (λ i. home_among (sym best_is i) (sym longer_is i))
    ∙ sym (found homes name best longer most kept
    (subst (λ zs. IsLongest (zone_names zs) name best most) zones_is longest)
    (subst (λ ls. IsHomeBehind (zone_names homes.zones) ls name best longer) links_is (subst (λ zs. IsHomeBehind (zone_names zs) links name best longer) zones_is (goes_on (zone_names zones) best longest))))
    ∙ ap (λ (h : HomesKept). home_of (state_of h) name) same
