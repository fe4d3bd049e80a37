-- What all homes show together, where each record is at home: the records of a name are those of its home, and no key comes from two.
use Rattle.std.proofs.Common.{◌≡◌, ℕ, Bool, true, false, ◌||◌, List, [], ◌∷◌, ◌++◌, Option, Some, None, is_some, refl, sym, ap, subst, ◌∙◌}
use Rattle.std.specs.Prelude.{position, option_map}
use Rattle.std.specs.List.{list_all, list_any, AllByRecursion, IsDistinct}
use Rattle.dnsname.specs.Names.{Labels, same_name, home}
use Rattle.rrset.specs.RecordSet.{RecordSet, is_record_set, shows_its_key, put, union, shown_at, at_name}
use Rattle.rrset.specs.declared.record.Key.{Key}
use Rattle.rrset.proofs.InOrder.{in_order-put}
use Rattle.zoneupdate.specs.Zones.{ZoneState, is_inside}
use Rattle.zoneupdate.proofs.Filters.{is_true, and-left, and-right, and-both, or-left}
use Rattle.zoneupdate.proofs.RecordSets.{IsSet, all-put, set-in_order}
use Rattle.zoneupdate.proofs.NameHomes.{is_home, is_inside-home, is_inside-for}
use Rattle.linkcache.specs.Rows.{names_of, shown_rows}
use Rattle.history.specs.States.{State, LinkState, home_names, home_of, records}
use Rattle.history.specs.AtHome.{AreAtHome}
use Rattle.history.specs.Laws.{KeysHaveOnePlace, set_at, share_a_key}
use Rattle.history.specs.declared.entry.Home.TheVariants as homes
use Rattle.history.proofs.Distinct.{all-both, all-as, all-fail, none-pass, pass-none}
use Rattle.history.proofs.HomeSets.{HomeSet, zone_set, link_set, zone_sets, link_sets, home_sets, shown_sets, named_sets, sets-apart, records-sets, sets-shown, zone-parts, link-parts, IsSetAtHome, AreSetsAtHome, Elsewhere, clear-sets, not_shown, Stands, stands, only-stands}
use Rattle.history.proofs.LinksAtHome.{sets-at_home}
use Rattle.history.proofs.NamesApart.{share_a_name, owns, owns-one, other-any}
use Rattle.history.proofs.Positions.{found_from, none_from, slice_get-found}
use Rattle.history.proofs.Together.{same_name-turned}
use Rattle.history.proofs.UnitedParts.{united, only-clear}

-- ---- all records are a set

set-union : (first second : RecordSet) → IsSet first → list_all shows_its_key second ≡ true → IsSet (union first second)
set-union first [] is shows = is
set-union first (e ∷ second) is shows =
    set-union (put e.0 e.1 first) second
    (and-both _ _ (is_true _ (in_order-put e.0 e.1 first (set-in_order first is))) (all-put shows_its_key e.0 e.1 first (and-right _ _ is) (and-left (shows_its_key e) (list_all shows_its_key second) shows)))
    (and-right (shows_its_key e) (list_all shows_its_key second) shows)

set-united : (homes : List Labels) (first : RecordSet) (sets : List HomeSet) → IsSet first → AreSetsAtHome homes sets → IsSet (united first (shown_sets sets))
set-united homes first [] is at = is
set-united homes first (s ∷ sets) is at = set-united homes (union first s.1) sets (set-union first s.1 is (and-right _ _ at.0.set)) at.1

pub set-records : (state : State) → AreAtHome state → is_record_set (records state) ≡ true
set-records state at = ap is_record_set (records-sets state) ∙ set-united (home_names state) [] (home_sets state) refl (sets-at_home state at)

-- ---- the records of a name

-- homes none of whose names is that of the home of a name are not the home of keys at the name
elsewhere-name : (homes : List Labels) (name : Labels) (o : Option Labels) → home homes name ≡ o → (names : List Labels) → AllByRecursion (λ n. is_home n o ≡ false) names → Elsewhere homes (λ key. same_name name key.owner) names
elsewhere-name homes name o is names none key at =
    pass-none (λ n. is_inside homes n key.owner) names (all-as (λ n. is_home n o ≡ false) (λ n. is_inside homes n key.owner ≡ false) (λ n other. sym (is_inside-for homes n name key.owner at) ∙ is_inside-home homes n name ∙ ap (is_home n) is ∙ other) names none)

elsewhere-other : (homes : List Labels) (name h : Labels) → home homes name ≡ Some h → (names : List Labels) → list_any (same_name h) names ≡ false → Elsewhere homes (λ key. same_name name key.owner) names
elsewhere-other homes name h is names none = elsewhere-name homes name (Some h) is names (none-pass (same_name h) names none)

elsewhere-none : (homes : List Labels) (name : Labels) → home homes name ≡ None → (names : List Labels) → Elsewhere homes (λ key. same_name name key.owner) names
elsewhere-none homes name is names = elsewhere-name homes name None is names (all names)
  where
    all : (names : List Labels) → AllByRecursion (λ n. is_home n None ≡ false) names
    all [] = tt
    all (n ∷ names) = (refl, all names)

-- none of whose names is a name
abbrev IsOther : Labels → HomeSet → Type 0
IsOther h s = list_any (same_name h) s.0 ≡ false

other-zones : (h : Labels) (zones : List ZoneState) → AllByRecursion (λ (z : ZoneState). same_name z.apex h ≡ false) zones → AllByRecursion (IsOther h) (zone_sets zones)
other-zones h [] all = tt
other-zones h (z ∷ zones) all = (pass-none (same_name h) (z.apex ∷ []) (same_name-turned h z.apex ∙ all.0, tt), other-zones h zones all.1)

other-links : (h : Labels) (links : List LinkState) → AllByRecursion (λ (l : LinkState). list_any (same_name h) (names_of l.rules) ≡ false) links → AllByRecursion (IsOther h) (link_sets links)
other-links h [] all = tt
other-links h (l ∷ links) all = (all.0, other-links h links all.1)

abbrev AnyNames : List Labels → Type 0
AnyNames names = Unit {0}

any-names : (sets : List HomeSet) → AllByRecursion (λ (s : HomeSet). AnyNames s.0) sets
any-names [] = tt
any-names (s ∷ sets) = (tt, any-names sets)

-- the rows of a zone, and of a link, if there is one
abbrev rows_in : Option ZoneState → RecordSet
rows_in o = elim o [ None ↦ [] | Some z ↦ z.rows ]

abbrev shown_in : Option LinkState → RecordSet
shown_in o = elim o [ None ↦ [] | Some l ↦ shown_rows l.rules l.rows ]

-- a name of the link
abbrev pub has_name : Labels → LinkState → Bool
has_name h link = list_any (same_name h) (names_of link.rules)

pub at_name-home : (state : State) → AreAtHome state → (name : Labels) → at_name name (records state) ≡ at_name name (set_at state (home_of state name))
at_name-home state at name = ap (at_name name) (records-sets state) ∙ by (home (home_names state) name) refl
  where
    hs : List Labels
    hs = home_names state

    named : Key → Bool
    named key = same_name name key.owner

    all : RecordSet
    all = united [] (shown_sets (home_sets state))

    are : AreSetsAtHome hs (home_sets state)
    are = sets-at_home state at

    here : (h : Labels) → home hs name ≡ Some h → (s : HomeSet) → Stands (home_sets state) s → list_any (same_name h) s.0 ≡ true → at_name name all ≡ at_name name s.1
    here h is s stands own = only-stands hs named (home_sets state) s stands are (λ names apart. elsewhere-other hs name h is names (other-any h s.0 names own apart))

    link : (h : Labels) → home hs name ≡ Some h → position (λ (z : ZoneState). same_name z.apex h) state.zones ≡ None → (o : Option ℕ) → position (has_name h) state.links ≡ o → at_name name all ≡ at_name name (set_at state (option_map (λ i. homes.Link i) o))
    link h is no_zone None no_link =
        only-clear named (shown_sets (home_sets state))
        (clear-sets hs named (λ names. list_any (same_name h) names ≡ false) (elsewhere-other hs name h is) (home_sets state) are
        (all-both (IsOther h) (zone_sets state.zones) (link_sets state.links)
        (other-zones h state.zones (all-fail (λ (z : ZoneState). same_name z.apex h) state.zones (none_from (λ (z : ZoneState). same_name z.apex h) state.zones no_zone)))
        (other-links h state.links (all-fail (has_name h) state.links (none_from (has_name h) state.links no_link)))))
    link h is no_zone (Some i) found =
        let f = found_from (has_name h) state.links i found in
        let s = stands (home_sets state) (zone_sets state.zones ++ link_sets f.before) (link_set f.here) (link_sets f.behind) (link-parts state.zones state.links f.before f.here f.behind f.parts) (sets-apart state at.apart) in
        here h is (link_set f.here) s f.passes
        ∙ ap (λ o. at_name name (shown_in o)) (sym (slice_get-found (has_name h) state.links i f))

    zone : (h : Labels) → home hs name ≡ Some h → (o : Option ℕ) → position (λ (z : ZoneState). same_name z.apex h) state.zones ≡ o
        → at_name name all ≡ at_name name (set_at state (elim o [ Some i ↦ Some (homes.Zone i) | None ↦ option_map (λ i. homes.Link i) (position (has_name h) state.links) ]))
    zone h is None no_zone = link h is no_zone (position (has_name h) state.links) refl
    zone h is (Some i) found =
        let f = found_from (λ (z : ZoneState). same_name z.apex h) state.zones i found in
        let s = stands (home_sets state) (zone_sets f.before) (zone_set f.here) (zone_sets f.behind ++ link_sets state.links) (zone-parts state.zones f.before f.here f.behind state.links f.parts) (sets-apart state at.apart) in
        here h is (zone_set f.here) s (or-left (same_name h f.here.apex) false (same_name-turned h f.here.apex ∙ f.passes))
        ∙ ap (λ o. at_name name (rows_in o)) (sym (slice_get-found (λ (z : ZoneState). same_name z.apex h) state.zones i f))

    by : (o : Option Labels) → home hs name ≡ o
        → at_name name all ≡ at_name name (set_at state (elim o [ None ↦ None | Some h ↦ elim (position (λ (z : ZoneState). same_name z.apex h) state.zones) [ Some i ↦ Some (homes.Zone i) | None ↦ option_map (λ i. homes.Link i) (position (has_name h) state.links) ] ]))
    by None is = only-clear named (shown_sets (home_sets state)) (clear-sets hs named AnyNames (λ names h. elsewhere-none hs name is names) (home_sets state) are (any-names (home_sets state)))
    by (Some h) is = zone h is (position (λ (z : ZoneState). same_name z.apex h) state.zones) refl

-- ---- no key comes from two homes

apart-one : (homes : List Labels) (a b : HomeSet) → IsSetAtHome homes a → IsSetAtHome homes b → share_a_name a.0 b.0 ≡ false → share_a_key a.1 b.1 ≡ false
apart-one homes a b at_a at_b apart = by a.1 at_a.inside
  where
    by : (rows : RecordSet) → list_all (λ e. owns homes a.0 e.0.owner) rows ≡ true → list_any (λ e. is_some (shown_at e.0 b.1)) rows ≡ false
    by [] h = refl
    by (e ∷ rows) h =
        let none : shown_at e.0 b.1 ≡ None = not_shown homes b e.0 at_b (owns-one homes a.0 b.0 e.0.owner apart (and-left (owns homes a.0 e.0.owner) (list_all (λ x. owns homes a.0 x.0.owner) rows) h)) in
        ap (λ o. is_some o || list_any (λ x. is_some (shown_at x.0 b.1)) rows) none ∙ by rows (and-right (owns homes a.0 e.0.owner) (list_all (λ x. owns homes a.0 x.0.owner) rows) h)

apart-all : (homes : List Labels) (a : HomeSet) (sets : List HomeSet) → IsSetAtHome homes a → AreSetsAtHome homes sets → AllByRecursion (λ y. share_a_name a.0 y ≡ false) (named_sets sets) → AllByRecursion (λ y. share_a_key a.1 y ≡ false) (shown_sets sets)
apart-all homes a [] at all apart = tt
apart-all homes a (b ∷ sets) at all apart = (apart-one homes a b at all.0 apart.0, apart-all homes a sets at all.1 apart.1)

sets-distinct : (homes : List Labels) (sets : List HomeSet) → AreSetsAtHome homes sets → IsDistinct share_a_name (named_sets sets) → IsDistinct share_a_key (shown_sets sets)
unfolding IsDistinct
sets-distinct homes [] all apart = tt
sets-distinct homes (a ∷ sets) all apart = (apart-all homes a sets all.0 all.1 apart.0, sets-distinct homes sets all.1 apart.1)

pub keys-one : KeysHaveOnePlace
keys-one state at = subst (IsDistinct share_a_key) (sets-shown state) (sets-distinct (home_names state) (home_sets state) (sets-at_home state at) (sets-apart state at.apart))
