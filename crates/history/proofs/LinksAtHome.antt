-- One of a link's names is the home of each owner that it shows, since no home lies under one of them.
use Rattle.std.proofs.Common.{◌≡◌, Bool, true, false, cond, not, ◌&&◌, ◌||◌, List, [], ◌∷◌, ◌++◌, filter, map, refl, sym, ap, subst, ◌∙◌, append_assoc}
use Rattle.std.specs.List.{list_all, list_any, AllByRecursion, IsDistinct}
use Rattle.dnsname.specs.Names.{Labels, same_name, ends_in}
use Rattle.rrset.specs.RecordSet.{RecordSet}
use Rattle.rrset.specs.declared.record.Key.{Key}
use Rattle.rrset.specs.declared.record.Shown.{Shown}
use Rattle.zoneupdate.specs.KeptZones.{lies_under}
use Rattle.zoneupdate.specs.Zones.{is_inside}
use Rattle.zoneupdate.proofs.Filters.{and-both, or-left, or-right}
use Rattle.zoneupdate.proofs.Homes.{is_inside-under}
use Rattle.zoneupdate.proofs.Owners.{same_name-itself}
use Rattle.reversemap.specs.Reverse.{is_under}
use Rattle.linkcache.specs.Links.{IsLink}
use Rattle.linkcache.specs.Rows.{LinkRows, names_of, shown_rows}
use Rattle.linkcache.specs.Sound.{AreLinkRows}
use Rattle.linkcache.specs.declared.rules.LinkRules.{LinkRules}
use Rattle.linkcache.proofs.ShownNames.{all-under}
use Rattle.history.specs.Homes.{NamedHome, is_of_link, clashes}
use Rattle.history.specs.States.{State, LinkState, home_names}
use Rattle.history.specs.AtHome.{AreAtHome, homes_in, named_zones, named_link, named_links}
use Rattle.history.specs.declared.entry.HomeKind.TheVariants as kinds
use Rattle.history.proofs.Distinct.{all-both, all-as, distinct-parts}
use Rattle.history.proofs.HomeSets.{IsSetAtHome, AreSetsAtHome, names-are, link-labels, home_sets, zone_sets, link_sets, zones-at_home}
use Rattle.history.proofs.LinkShown.{set-shown}
use Rattle.history.proofs.NamesApart.{owns, home_labels}
use Rattle.history.proofs.Together.{clashes-turned, not-under}

abbrev NotUnder : Labels → NamedHome → Type 0
NotUnder domain home = lies_under domain home.0 ≡ false

none_under : (domain : Labels) (homes : List NamedHome) → AllByRecursion (NotUnder domain) homes → filter (lies_under domain) (home_labels homes) ≡ []
none_under domain [] all = refl
none_under domain (h ∷ homes) all = ap (λ b. cond b (h.0 ∷ filter (lies_under domain) (home_labels homes)) (filter (lies_under domain) (home_labels homes))) all.0 ∙ none_under domain homes all.1

any_named : (before : List NamedHome) (here : NamedHome) (behind : List NamedHome) → list_any (same_name here.0) (home_labels (before ++ here ∷ behind)) ≡ true
any_named [] here behind = or-left (same_name here.0 here.0) (list_any (same_name here.0) (home_labels behind)) (same_name-itself here.0)
any_named (h ∷ before) here behind = or-right (same_name here.0 h.0) (list_any (same_name here.0) (home_labels (before ++ here ∷ behind))) (any_named before here behind)

-- what lies under a link's domain, or under a reverse domain, has that for its home
pub name-inside : (before : List NamedHome) (here : NamedHome) (behind : List NamedHome) (owner : Labels) → is_of_link here.1 ≡ true → IsDistinct clashes (before ++ here ∷ behind) → ends_in owner here.0 ≡ true
    → is_inside (home_labels (before ++ here ∷ behind)) here.0 owner ≡ true
name-inside before here behind owner of_link apart ends =
    is_inside-under (home_labels all) here.0 [] (record { is_home = any_named before here behind; are_under = sym (none_under here.0 all none) }) owner
    ∙ and-both (ends_in owner here.0) true ends refl
  where
    all : List NamedHome
    all = before ++ here ∷ behind

    not-both : (a b : Bool) → a ≡ false → (a && b) ≡ false
    not-both true b e = cc
    not-both false b e = refl

    itself : (a b : Bool) → b ≡ true → (a && not b) ≡ false
    itself true true e = refl
    itself false true e = refl
    itself a false e = cc

    others : AllByRecursion (λ (y : NamedHome). clashes y here ≡ false) before × AllByRecursion (λ (y : NamedHome). clashes here y ≡ false) behind
    others = distinct-parts clashes before here behind apart

    apart-from : (y : NamedHome) → clashes y here ≡ false → NotUnder here.0 y
    apart-from y e = not-both (ends_in y.0 here.0) (not (same_name y.0 here.0)) (not-under y here of_link e)

    none : AllByRecursion (NotUnder here.0) all
    none = all-both (NotUnder here.0) before (here ∷ behind) (all-as (λ (y : NamedHome). clashes y here ≡ false) (NotUnder here.0) apart-from before others.0) (
      itself (ends_in here.0 here.0) (same_name here.0 here.0) (same_name-itself here.0),
      all-as (λ (y : NamedHome). clashes here y ≡ false) (NotUnder here.0) (λ y e. apart-from y (clashes-turned y here ∙ e)) behind others.1,
    )

-- homes that are a link's names
abbrev pub AreOfLink : List NamedHome → Type 0
AreOfLink own = AllByRecursion (λ h. is_of_link h.1 ≡ true) own

reverses-of_link : (reverses : List Labels) → AreOfLink (map (λ r. (r, kinds.Reverse)) reverses)
reverses-of_link [] = tt
reverses-of_link (r ∷ reverses) = (refl, reverses-of_link reverses)

pub names-of_link : (link : LinkState) → AreOfLink (named_link link)
names-of_link link = (refl, reverses-of_link link.rules.reverses)

-- what lies under one of them has one of them for its home
names-inside : (homes front own behind : List NamedHome) (owner : Labels) → AreOfLink own → homes ≡ front ++ (own ++ behind) → IsDistinct clashes homes → is_under (home_labels own) owner ≡ true → owns (home_labels homes) (home_labels own) owner ≡ true
names-inside homes front [] behind owner of_link parts apart under = cc
names-inside homes front (h ∷ own) behind owner of_link parts apart under = by (ends_in owner h.0) refl under (names-inside homes (front ++ h ∷ []) own behind owner of_link.1 next apart)
  where
    next : homes ≡ (front ++ h ∷ []) ++ (own ++ behind)
    next = parts ∙ sym (append_assoc front (h ∷ []) (own ++ behind))

    by : (b : Bool) → ends_in owner h.0 ≡ b → (b || is_under (home_labels own) owner) ≡ true → (is_under (home_labels own) owner ≡ true → owns (home_labels homes) (home_labels own) owner ≡ true)
        → (is_inside (home_labels homes) h.0 owner || owns (home_labels homes) (home_labels own) owner) ≡ true
    by true ends u rest =
        or-left (is_inside (home_labels homes) h.0 owner) (owns (home_labels homes) (home_labels own) owner)
        (ap (λ (hs : List NamedHome). is_inside (home_labels hs) h.0 owner) parts ∙ name-inside front h (own ++ behind) owner of_link.0 (subst (IsDistinct clashes) parts apart) ends)
    by false ends u rest = or-right (is_inside (home_labels homes) h.0 owner) (owns (home_labels homes) (home_labels own) owner) (rest u)

-- all that a link shows is at home
pub link-at_home : (homes front own behind : List NamedHome) (rules : LinkRules) (rows : LinkRows) → AreOfLink own → home_labels own ≡ names_of rules → homes ≡ front ++ (own ++ behind) → IsDistinct clashes homes → AreLinkRows rules rows
    → IsSetAtHome (home_labels homes) (names_of rules, shown_rows rules rows)
link-at_home homes front own behind rules rows of_link named parts apart sound = record {
  set = set-shown rules rows;
  inside = all-inside (shown_rows rules rows) (all-under rules rows sound);
}
  where
    hs : List Labels
    hs = home_labels homes

    one-inside : (owner : Labels) → is_under (names_of rules) owner ≡ true → owns hs (names_of rules) owner ≡ true
    one-inside owner under =
        ap (λ (ns : List Labels). owns hs ns owner) (sym named)
        ∙ names-inside homes front own behind owner of_link parts apart (ap (λ (ns : List Labels). is_under ns owner) named ∙ under)

    all-inside : (set : RecordSet) → AllByRecursion (λ (e : Key × Shown). is_under (names_of rules) e.0.owner ≡ true) set → list_all (λ (e : Key × Shown). owns hs (names_of rules) e.0.owner) set ≡ true
    all-inside [] all = refl
    all-inside (e ∷ set) all = and-both (owns hs (names_of rules) e.0.owner) (list_all (λ (x : Key × Shown). owns hs (names_of rules) x.0.owner) set) (one-inside e.0.owner all.0) (all-inside set all.1)

links-at_home : (homes front : List NamedHome) (links : List LinkState) → homes ≡ front ++ named_links links → IsDistinct clashes homes → AllByRecursion IsLink links → AreSetsAtHome (home_labels homes) (link_sets links)
links-at_home homes front [] parts apart are = tt
links-at_home homes front (l ∷ links) parts apart are = (
  link-at_home homes front (named_link l) (named_links links) l.rules l.rows (names-of_link l) (link-labels l) parts apart are.0.sound,
  links-at_home homes (front ++ named_link l) links (parts ∙ sym (append_assoc front (named_link l) (named_links links))) apart are.1,
)

pub sets-at_home : (state : State) → AreAtHome state → AreSetsAtHome (home_names state) (home_sets state)
sets-at_home state home =
    all-both (IsSetAtHome (home_names state)) (zone_sets state.zones) (link_sets state.links)
    (zones-at_home (home_names state) state.zones home.zones)
    (subst (λ (homes : List Labels). AreSetsAtHome homes (link_sets state.links)) (names-are state) (links-at_home (homes_in state) (named_zones state.zones) state.links refl home.apart.apart home.links))
