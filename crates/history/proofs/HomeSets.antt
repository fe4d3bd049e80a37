-- Each home alike: a pair of its names and of the set that it shows.
--     home_sets state      zones and links as such pairs
--     IsSetAtHome homes s      the set is one of records, and the home of each of their owners is one of its names
--     Stands sets here      one of the pairs, and the others by their names
use Rattle.std.proofs.Common.{◌≡◌, Bool, true, false, cond, not, ◌||◌, List, [], ◌∷◌, ◌++◌, map, Some, None, refl, sym, ap, subst, ◌∙◌, append_assoc}
use Rattle.std.specs.Prelude.{flat_map}
use Rattle.std.specs.List.{list_all, AllByRecursion, IsDistinct}
use Rattle.std.proofs.lemmas.List.{map-append}
use Rattle.std.proofs.lemmas.List.Folds.{flat_map-map}
use Rattle.dnsname.specs.Names.{Labels}
use Rattle.rrset.specs.RecordSet.{RecordSet, only, shown_at, changes}
use Rattle.rrset.specs.Records.{same_key}
use Rattle.rrset.specs.declared.record.Key.{Key}
use Rattle.rrset.proofs.InOrder.{in_order-only}
use Rattle.rrset.proofs.SameRows.{same_key-same}
use Rattle.rrset.proofs.Selected.{fails}
use Rattle.zoneupdate.specs.Zones.{ZoneState, is_inside}
use Rattle.zoneupdate.proofs.Filters.{and-left, and-right, and-both, all_pass}
use Rattle.zoneupdate.proofs.RecordSets.{IsSet, set-in_order}
use Rattle.linkcache.specs.Rows.{names_of, shown_rows}
use Rattle.history.specs.Homes.{NamedHome, clashes}
use Rattle.history.specs.Laws.{sets_of}
use Rattle.history.specs.States.{State, LinkState, home_names, records}
use Rattle.history.specs.AtHome.{IsAtHome, StandApart, named_zones, named_link, named_links, homes_in}
use Rattle.history.specs.declared.entry.HomeKind.TheVariants as kinds
use Rattle.history.proofs.Distinct.{all-apart, all-as, all-map, distinct-parts}
use Rattle.history.proofs.NamesApart.{share_a_name, owns, share-turned, owns-one, home_labels, groups-apart}
use Rattle.history.proofs.UnitedParts.{united, Clear, only-one, changes-one}

-- a home by its names, and what it shows
abbrev pub HomeSet : Type 0
HomeSet = List Labels × RecordSet

abbrev pub zone_set : ZoneState → HomeSet
zone_set zone = (zone.apex ∷ [], zone.rows)

abbrev pub link_set : LinkState → HomeSet
link_set link = (names_of link.rules, shown_rows link.rules link.rows)

abbrev pub zone_sets : List ZoneState → List HomeSet
zone_sets zones = map zone_set zones

abbrev pub link_sets : List LinkState → List HomeSet
link_sets links = map link_set links

abbrev pub home_sets : State → List HomeSet
home_sets state = zone_sets state.zones ++ link_sets state.links

abbrev pub shown_sets : List HomeSet → List RecordSet
shown_sets sets = map (λ (s : HomeSet). s.1) sets

abbrev pub named_sets : List HomeSet → List (List Labels)
named_sets sets = map (λ (s : HomeSet). s.0) sets

-- ---- the pairs, the names and the sets

pub map-twice : {X Y Z : Type 0} (f : X → Y) (g : Y → Z) (xs : List X) → map g (map f xs) ≡ map (λ x. g (f x)) xs
map-twice f g [] = refl
map-twice f g (x ∷ xs) = ap (λ l. g (f x) ∷ l) (map-twice f g xs)

pub map-parts : {X Y Z W : Type 0} (g : Z → W) (f : X → Z) (h : Y → Z) (a : List X) (b : List Y) → map g (map f a ++ map h b) ≡ map (λ x. g (f x)) a ++ map (λ y. g (h y)) b
map-parts g f h a b = map-append g (map f a) (map h b) ∙ (λ i. map-twice f g a i ++ map-twice h g b i)

-- each home by its names
abbrev home_groups : State → List (List NamedHome)
home_groups state = map (λ (z : ZoneState). (z.apex, kinds.Zone) ∷ []) state.zones ++ map named_link state.links

groups-are : (zones : List ZoneState) (links : List LinkState) → flat_map (λ (g : List NamedHome). g) (map (λ (z : ZoneState). (z.apex, kinds.Zone) ∷ []) zones ++ map named_link links) ≡ named_zones zones ++ named_links links
groups-are [] links = flat_map-map (λ (g : List NamedHome). g) named_link links
groups-are (z ∷ zones) links = ap (λ hs. (z.apex, kinds.Zone) ∷ hs) (groups-are zones links)

pub map-itself : (names : List Labels) → home_labels (map (λ r. (r, kinds.Reverse)) names) ≡ names
map-itself [] = refl
map-itself (n ∷ names) = ap (λ ns. n ∷ ns) (map-itself names)

-- a link's homes by their names alone
pub link-labels : (link : LinkState) → home_labels (named_link link) ≡ names_of link.rules
link-labels link = ap (λ ns. link.rules.domain ∷ ns) (map-itself link.rules.reverses)

groups-named : (zones : List ZoneState) (links : List LinkState) → map home_labels (map (λ (z : ZoneState). (z.apex, kinds.Zone) ∷ []) zones ++ map named_link links) ≡ named_sets (zone_sets zones ++ link_sets links)
groups-named [] [] = refl
groups-named [] (l ∷ links) = λ i. link-labels l i ∷ groups-named [] links i
groups-named (z ∷ zones) links = ap (λ ns. (z.apex ∷ []) ∷ ns) (groups-named zones links)

-- homes that stand apart share no name
pub sets-apart : (state : State) → StandApart (homes_in state) → IsDistinct share_a_name (named_sets (home_sets state))
sets-apart state stand = subst (IsDistinct share_a_name) (groups-named state.zones state.links) (groups-apart (home_groups state) (subst (IsDistinct clashes) (sym (groups-are state.zones state.links)) stand.apart))

pub sets-shown : (state : State) → shown_sets (home_sets state) ≡ sets_of state
sets-shown state = map-parts (λ (s : HomeSet). s.1) zone_set link_set state.zones state.links

links-labels : (links : List LinkState) → home_labels (named_links links) ≡ flat_map (λ (l : LinkState). names_of l.rules) links
links-labels [] = refl
links-labels (l ∷ links) = map-append (λ (h : NamedHome). h.0) (named_link l) (named_links links) ∙ (λ i. link-labels l i ++ links-labels links i)

pub names-are : (state : State) → home_labels (homes_in state) ≡ home_names state
names-are state = map-append (λ (h : NamedHome). h.0) (named_zones state.zones) (named_links state.links) ∙ (λ i. map-twice (λ (z : ZoneState). (z.apex, kinds.Zone)) (λ (h : NamedHome). h.0) state.zones i ++ links-labels state.links i)

pub records-sets : (state : State) → records state ≡ united [] (shown_sets (home_sets state))
records-sets state = ap (united []) (sym (sets-shown state))

-- one zone in its place, one link in its place
pub zone-parts : (zones before : List ZoneState) (zone : ZoneState) (behind : List ZoneState) (links : List LinkState) → zones ≡ before ++ zone ∷ behind → zone_sets zones ++ link_sets links ≡ zone_sets before ++ zone_set zone ∷ (zone_sets behind ++ link_sets links)
zone-parts zones before zone behind links parts =
    ap (λ (zs : List ZoneState). zone_sets zs ++ link_sets links) parts
    ∙ ap (λ (l : List HomeSet). l ++ link_sets links) (map-append zone_set before (zone ∷ behind))
    ∙ append_assoc (zone_sets before) (zone_set zone ∷ zone_sets behind) (link_sets links)

pub link-parts : (zones : List ZoneState) (links before : List LinkState) (link : LinkState) (behind : List LinkState) → links ≡ before ++ link ∷ behind → zone_sets zones ++ link_sets links ≡ (zone_sets zones ++ link_sets before) ++ link_set link ∷ link_sets behind
link-parts zones links before link behind parts =
    ap (λ (ls : List LinkState). zone_sets zones ++ link_sets ls) parts
    ∙ ap (λ (l : List HomeSet). zone_sets zones ++ l) (map-append link_set before (link ∷ behind))
    ∙ sym (append_assoc (zone_sets zones) (link_sets before) (link_set link ∷ link_sets behind))

-- ---- sets at home

all_same : {X : Type 0} (p q : X → Bool) → ((x : X) → p x ≡ q x) → (xs : List X) → list_all p xs ≡ true → list_all q xs ≡ true
all_same p q same [] h = refl
all_same p q same (x ∷ xs) h = and-both (q x) (list_all q xs) (sym (same x) ∙ and-left (p x) (list_all p xs) h) (all_same p q same xs (and-right (p x) (list_all p xs) h))

-- the set is one of records, and the home of each of their owners is one of its names
pub record IsSetAtHome (homes : List Labels) (s : HomeSet) : Type 0 where
  pub set : IsSet s.1
  pub inside : list_all (λ e. owns homes s.0 e.0.owner) s.1 ≡ true

abbrev pub AreSetsAtHome : List Labels → List HomeSet → Type 0
AreSetsAtHome homes sets = AllByRecursion (IsSetAtHome homes) sets

pub zone-at_home : (homes : List Labels) (zone : ZoneState) → IsAtHome homes zone → IsSetAtHome homes (zone_set zone)
zone-at_home homes zone at = record { set = at.set; inside = all_same (λ e. is_inside homes zone.apex e.0.owner) (λ e. owns homes (zone.apex ∷ []) e.0.owner) (λ e. alone (is_inside homes zone.apex e.0.owner)) zone.rows at.inside }
  where
    alone : (b : Bool) → b ≡ (b || false)
    alone true = refl
    alone false = refl

pub zones-at_home : (homes : List Labels) (zones : List ZoneState) → AllByRecursion (IsAtHome homes) zones → AreSetsAtHome homes (zone_sets zones)
zones-at_home homes [] at = tt
zones-at_home homes (z ∷ zones) at = (zone-at_home homes z at.0, zones-at_home homes zones at.1)

-- ---- sets that have no key that passes

-- none of the names is the home of a key that passes
abbrev pub Elsewhere : List Labels → (Key → Bool) → List Labels → Type 0
Elsewhere homes p names = (key : Key) → p key ≡ true → owns homes names key.owner ≡ false

clear-rows : (homes : List Labels) (p : Key → Bool) (names : List Labels) → Elsewhere homes p names → (rows : RecordSet) → list_all (λ e. owns homes names e.0.owner) rows ≡ true → only p rows ≡ []
clear-rows homes p names other [] h = refl
clear-rows homes p names other (e ∷ rows) h = by (p e.0) refl (clear-rows homes p names other rows (and-right _ _ h))
  where
    by : (b : Bool) → p e.0 ≡ b → only p rows ≡ [] → cond b (e ∷ only p rows) (only p rows) ≡ []
    by true is rest = let inside : owns homes names e.0.owner ≡ true = and-left _ _ h in let out = other e.0 is in let wrong : true ≡ false = sym inside ∙ out in absurd cc
    by false is rest = rest

pub clear-sets : (homes : List Labels) (p : Key → Bool) (Q : List Labels → Type 0) → ((names : List Labels) → Q names → Elsewhere homes p names)
    → (sets : List HomeSet) → AreSetsAtHome homes sets → AllByRecursion (λ (s : HomeSet). Q s.0) sets → Clear p (shown_sets sets)
clear-sets homes p Q other [] at all = tt
clear-sets homes p Q other (s ∷ sets) at all = (clear-rows homes p s.0 (other s.0 all.0) s.1 at.0.inside, clear-sets homes p Q other sets at.1 all.1)

-- a key of another home isn't shown
pub not_shown : (homes : List Labels) (s : HomeSet) (key : Key) → IsSetAtHome homes s → owns homes s.0 key.owner ≡ false → shown_at key s.1 ≡ None
not_shown homes s key at out = by s.1 at.inside
  where
    by : (rows : RecordSet) → list_all (λ e. owns homes s.0 e.0.owner) rows ≡ true → shown_at key rows ≡ None
    by [] h = refl
    by (e ∷ rows) h = one (same_key key e.0) refl (by rows (and-right _ _ h))
      where
        one : (b : Bool) → same_key key e.0 ≡ b → shown_at key rows ≡ None → cond b (Some e.1) (shown_at key rows) ≡ None
        one true is rest =
            let inside : owns homes s.0 e.0.owner ≡ true = and-left _ _ h in
            let wrong : true ≡ false = sym inside ∙ ap (λ (k : Key). owns homes s.0 k.owner) (sym (same_key-same key e.0 is)) ∙ out in
            absurd cc
        one false is rest = rest

-- ---- one of the sets, and the others

-- a set in its place, and the others by their names
pub record Stands (sets : List HomeSet) (here : HomeSet) : Type 0 where
  pub before : List HomeSet
  pub behind : List HomeSet
  pub parts : sets ≡ before ++ here ∷ behind
  pub first : AllByRecursion (λ (s : HomeSet). share_a_name s.0 here.0 ≡ false) before
  pub last : AllByRecursion (λ (s : HomeSet). share_a_name s.0 here.0 ≡ false) behind

abbrev pub stands : (sets before : List HomeSet) (here : HomeSet) (behind : List HomeSet) → sets ≡ before ++ here ∷ behind → IsDistinct share_a_name (named_sets sets) → Stands sets here
stands sets before here behind parts apart =
    let named = map-append (λ (s : HomeSet). s.0) before (here ∷ behind) in
    let others = distinct-parts share_a_name (named_sets before) here.0 (named_sets behind) (subst (IsDistinct share_a_name) (ap named_sets parts ∙ named) apart) in
    record {
      before = before;
      behind = behind;
      parts = parts;
      first = all-map (λ (s : HomeSet). s.0) (λ y. share_a_name y here.0 ≡ false) before others.0;
      last = all-as (λ (s : HomeSet). share_a_name here.0 s.0 ≡ false) (λ (s : HomeSet). share_a_name s.0 here.0 ≡ false) (λ s e. share-turned s.0 here.0 ∙ e) behind (all-map (λ (s : HomeSet). s.0) (λ y. share_a_name here.0 y ≡ false) behind others.1);
    }

shown-parts : (before : List HomeSet) (here : HomeSet) (behind : List HomeSet) → shown_sets (before ++ here ∷ behind) ≡ shown_sets before ++ here.1 ∷ shown_sets behind
shown-parts before here behind = map-append (λ (s : HomeSet). s.1) before (here ∷ behind)

abbrev Parts : List Labels → List HomeSet → HomeSet → List HomeSet → Type 0
Parts homes before here behind = AreSetsAtHome homes before × IsSetAtHome homes here × AreSetsAtHome homes behind

pub parts-at_home : (homes : List Labels) (sets : List HomeSet) (here : HomeSet) (at : Stands sets here) → AreSetsAtHome homes sets → Parts homes at.before here at.behind
parts-at_home homes sets here at all =
    let each = all-apart (IsSetAtHome homes) at.before (here ∷ at.behind) (subst (AreSetsAtHome homes) at.parts all) in
    (each.0, each.1.0, each.1.1)

-- the part that is of one set alone
pub only-stands : (homes : List Labels) (p : Key → Bool) (sets : List HomeSet) (here : HomeSet) (at : Stands sets here) → AreSetsAtHome homes sets
    → ((names : List Labels) → share_a_name names here.0 ≡ false → Elsewhere homes p names) → only p (united [] (shown_sets sets)) ≡ only p here.1
only-stands homes p sets here at all other =
    let each = parts-at_home homes sets here at all in
    ap (λ (ss : List HomeSet). only p (united [] (shown_sets ss))) at.parts
    ∙ ap (λ (ss : List RecordSet). only p (united [] ss)) (shown-parts at.before here at.behind)
    ∙ only-one p (shown_sets at.before) here.1 (shown_sets at.behind) (clear-sets homes p (λ names. share_a_name names here.0 ≡ false) other at.before each.0 at.first)
    (clear-sets homes p (λ names. share_a_name names here.0 ≡ false) other at.behind each.2 at.last) (in_order-only p here.1 (set-in_order here.1 each.1.set))

-- ---- what is shown otherwise where one set changes

-- the keys that lie in a home
abbrev pub lies_in : List Labels → List Labels → Key → Bool
lies_in homes names key = owns homes names key.owner

none_outside : (homes names : List Labels) (rows : RecordSet) → list_all (λ e. owns homes names e.0.owner) rows ≡ true → only (fails (lies_in homes names)) rows ≡ []
none_outside homes names [] h = refl
none_outside homes names (e ∷ rows) h =
    let first : owns homes names e.0.owner ≡ true = and-left (owns homes names e.0.owner) (list_all (λ x. owns homes names x.0.owner) rows) h in
    let rest = only (fails (lies_in homes names)) rows in
    ap (λ b. cond (not b) (e ∷ rest) rest) first ∙ none_outside homes names rows (and-right (owns homes names e.0.owner) (list_all (λ x. owns homes names x.0.owner) rows) h)

all_inside : (homes : List Labels) (s : HomeSet) → IsSetAtHome homes s → only (lies_in homes s.0) s.1 ≡ s.1
all_inside homes s at = all_pass (λ e. owns homes s.0 e.0.owner) s.1 at.inside

pub changes-stands : (homes : List Labels) (sets : List HomeSet) (here : HomeSet) (at : Stands sets here) → AreSetsAtHome homes sets → (new : RecordSet) → IsSetAtHome homes (here.0, new)
    → changes (united [] (shown_sets sets)) (united [] (shown_sets (at.before ++ (here.0, new) ∷ at.behind))) ≡ changes here.1 new
changes-stands homes sets here at all new at_home =
    (λ i. changes (united [] ((ap shown_sets at.parts ∙ shown-parts at.before here at.behind) i)) (united [] (shown-parts at.before (here.0, new) at.behind i)))
    ∙ changes-one inside (shown_sets at.before) here.1 new (shown_sets at.behind) (clear at.before each.0 at.first) (clear at.behind each.2 at.last)
    (none_outside homes here.0 here.1 each.1.inside ∙ sym (none_outside homes here.0 new at_home.inside))
    (in_order-only inside here.1 (set-in_order here.1 each.1.set)) (in_order-only inside new (set-in_order new at_home.set))
    ∙ (λ i. changes (all_inside homes here each.1 i) (all_inside homes (here.0, new) at_home i))
  where
    inside : Key → Bool
    inside = lies_in homes here.0

    each : Parts homes at.before here at.behind
    each = parts-at_home homes sets here at all

    other : (names : List Labels) → share_a_name names here.0 ≡ false → Elsewhere homes inside names
    other names apart key is = owns-one homes here.0 names key.owner (share-turned here.0 names ∙ apart) is

    clear : (ss : List HomeSet) → AreSetsAtHome homes ss → AllByRecursion (λ (s : HomeSet). share_a_name s.0 here.0 ≡ false) ss → Clear inside (shown_sets ss)
    clear ss at apart = clear-sets homes inside (λ names. share_a_name names here.0 ≡ false) other ss at apart
