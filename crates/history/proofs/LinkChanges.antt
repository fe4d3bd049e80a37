-- Where links alone change, exactly that is shown otherwise which each of them shows otherwise.
use Rattle.std.proofs.Common.{◌≡◌, ℕ, Bool, true, false, cond, not, ◌||◌, List, [], ◌∷◌, ◌++◌, append_assoc, map, fold, refl, sym, ap, subst, ◌∙◌, Some}
use Rattle.std.specs.Prelude.{slice_get, flat_map}
use Rattle.std.specs.List.{list_any, AllByRecursion, AllZip, IsDistinct}
use Rattle.std.proofs.lemmas.List.{map-append}
use Rattle.std.proofs.lemmas.List.Concat.{flat_map-append}
use Rattle.push_base.specs.Cases.{changed_at}
use Rattle.dnsname.specs.Names.{Labels}
use Rattle.rrset.specs.RecordSet.{RecordSet, only, changes}
use Rattle.rrset.specs.declared.record.Changed.{Changed}
use Rattle.rrset.specs.declared.record.Key.{Key}
use Rattle.rrset.specs.declared.record.Shown.{Shown}
use Rattle.rrset.proofs.InOrder.{in_order-only}
use Rattle.rrset.proofs.SameRows.{changes-self}
use Rattle.rrset.proofs.Selected.{fails}
use Rattle.zoneupdate.specs.Zones.{ZoneState}
use Rattle.linkcache.specs.Links.{IsLink}
use Rattle.reversemap.specs.Reverse.{is_under}
use Rattle.linkcache.specs.Rows.{LinkRows, names_of, shown_rows}
use Rattle.linkcache.specs.Sound.{AreLinkRows}
use Rattle.linkcache.proofs.ShownNames.{all-under}
use Rattle.linkcache.proofs.ShownParts.{in_order-shown}
use Rattle.history.specs.Homes.{NamedHome, clashes}
use Rattle.history.specs.States.{State, LinkState, home_names, records}
use Rattle.history.specs.AtHome.{IsAtHome, AreAtHome, homes_in, named_zones, named_link, named_links}
use Rattle.history.specs.Laws.{AreElsewhere, shown_by, with_change, gathered, IsLater, each_changed, LinksChangeForThemselves, LinksChangeTogether}
use Rattle.history.proofs.Distinct.{all-both}
use Rattle.history.proofs.HomeSets.{HomeSet, zone_set, link_set, zone_sets, link_sets, home_sets, shown_sets, named_sets, map-twice, link-labels, names-are, sets-apart, records-sets, link-parts, zone-at_home, IsSetAtHome, Stands, stands, changes-stands}
use Rattle.history.proofs.LinksAtHome.{names-of_link, link-at_home, sets-at_home}
use Rattle.history.proofs.NamesApart.{share_a_name, home_labels}
use Rattle.history.proofs.PairChanges.{HomePair, olds, news, each_of, IsPairAtHome, ArePairsAtHome, changes-pairs}
use Rattle.history.proofs.Positions.{Standing, standing_at, changed_at-standing}
use Rattle.history.proofs.UnitedParts.{united, Clear, changes-one}

-- ---- one link, by what the other homes show

-- keys under one of some names
abbrev under : List Labels → Key → Bool
under names key = is_under names key.owner

abbrev AllUnder : List Labels → RecordSet → Type 0
AllUnder names set = AllByRecursion (λ (e : Key × Shown). is_under names e.0.owner ≡ true) set

all_pass : (names : List Labels) (set : RecordSet) → AllUnder names set → only (under names) set ≡ set
all_pass names [] all = refl
all_pass names (e ∷ es) all = ap (λ b. cond b (e ∷ only (under names) es) (only (under names) es)) all.0 ∙ ap (λ l. e ∷ l) (all_pass names es all.1)

none_fail : (names : List Labels) (set : RecordSet) → AllUnder names set → only (fails (under names)) set ≡ []
none_fail names [] all = refl
none_fail names (e ∷ es) all = ap (λ b. cond (not b) (e ∷ only (fails (under names)) es) (only (fails (under names)) es)) all.0 ∙ none_fail names es all.1

none_under : (names : List Labels) (set : RecordSet) → list_any (λ e. is_under names e.0.owner) set ≡ false → only (under names) set ≡ []
none_under names [] none = refl
none_under names (e ∷ es) none = by (under names e.0) refl none (none_under names es)
  where
    by : (b : Bool) → under names e.0 ≡ b → (b || list_any (λ x. is_under names x.0.owner) es) ≡ false → (list_any (λ x. is_under names x.0.owner) es ≡ false → only (under names) es ≡ []) → cond b (e ∷ only (under names) es) (only (under names) es) ≡ []
    by true is n rest = absurd cc
    by false is n rest = rest n

clear : (names : List Labels) (sets : List RecordSet) → AreElsewhere names sets → Clear (under names) sets
clear names [] other = tt
clear names (s ∷ sets) other = (none_under names s other.0, clear names sets other.1)

shown_by-parts : (first last : List LinkState) (link : LinkState) → shown_by (first ++ link ∷ last) ≡ shown_by first ++ shown_rows link.rules link.rows ∷ shown_by last
shown_by-parts [] last link = refl
shown_by-parts (l ∷ first) last link = ap (λ sets. shown_rows l.rules l.rows ∷ sets) (shown_by-parts first last link)

parted : (zones : List ZoneState) (first last : List LinkState) (link : LinkState) (now : ℕ)
    → records (record { zones = zones; links = first ++ link ∷ last; now = now }) ≡ united [] ((map (λ z. z.rows) zones ++ shown_by first) ++ shown_rows link.rules link.rows ∷ shown_by last)
parted zones first last link now =
    ap (λ (sets : List RecordSet). united [] (map (λ (z : ZoneState). z.rows) zones ++ sets)) (shown_by-parts first last link)
    ∙ ap (united []) (sym (append_assoc (map (λ (z : ZoneState). z.rows) zones) (shown_by first) (shown_rows link.rules link.rows ∷ shown_by last)))

pub link_changes : LinksChangeForThemselves
link_changes zones first last link later now later_now sound sound_later in_zones in_first in_last =
    (λ i. changes (parted zones first last link now i) (parted zones first last (record link { rows = later }) later_now i))
    ∙ changes-one (under names) (rows_of ++ shown_by first) (shown_rows link.rules link.rows) (shown_rows link.rules later) (shown_by last)
    (all-both (λ (s : RecordSet). only (under names) s ≡ []) rows_of (shown_by first) (clear names rows_of in_zones) (clear names (shown_by first) in_first))
    (clear names (shown_by last) in_last)
    (none_fail names (shown_rows link.rules link.rows) old_under ∙ sym (none_fail names (shown_rows link.rules later) new_under))
    (in_order-only (under names) (shown_rows link.rules link.rows) (in_order-shown link.rules link.rows)) (in_order-only (under names) (shown_rows link.rules later) (in_order-shown link.rules later))
    ∙ (λ i. changes (all_pass names (shown_rows link.rules link.rows) old_under i) (all_pass names (shown_rows link.rules later) new_under i))
  where
    names : List Labels
    names = names_of link.rules

    rows_of : List RecordSet
    rows_of = map (λ (z : ZoneState). z.rows) zones

    old_under : AllUnder names (shown_rows link.rules link.rows)
    old_under = all-under link.rules link.rows sound

    new_under : AllUnder names (shown_rows link.rules later)
    new_under = all-under link.rules later sound_later

-- ---- one link of homes that stand apart

pub link_changes-at : (state : State) (i : ℕ) (link : LinkState) (later : LinkRows) → AreAtHome state → slice_get state.links i ≡ Some link → AreLinkRows link.rules later
    → changes (records state) (records (record state { links = changed_at i (λ l. record l { rows = later }) state.links })) ≡ changes (shown_rows link.rules link.rows) (shown_rows link.rules later)
link_changes-at state i link later home found sound =
    (λ j. changes (records-sets state j) (now j))
    ∙ changes-stands (home_names state) (home_sets state) (link_set link) here (sets-at_home state home) (shown_rows link.rules later) new
  where
    at : Standing state.links i link
    at = standing_at state.links i link found

    changed : LinkState
    changed = record link { rows = later }

    here : Stands (home_sets state) (link_set link)
    here = stands (home_sets state) (zone_sets state.zones ++ link_sets at.before) (link_set link) (link_sets at.behind) (link-parts state.zones state.links at.before link at.behind at.parts) (sets-apart state home.apart)

    now : records (record state { links = changed_at i (λ l. record l { rows = later }) state.links }) ≡ united [] (shown_sets ((zone_sets state.zones ++ link_sets at.before) ++ link_set changed ∷ link_sets at.behind))
    now =
        ap (λ (ls : List LinkState). records (record state { links = ls })) (changed_at-standing (λ l. record l { rows = later }) state.links i link at)
        ∙ records-sets (record state { links = at.before ++ changed ∷ at.behind })
        ∙ ap (λ (ss : List HomeSet). united [] (shown_sets ss)) (link-parts state.zones (at.before ++ changed ∷ at.behind) at.before changed at.behind refl)

    parts : homes_in state ≡ (named_zones state.zones ++ named_links at.before) ++ (named_link link ++ named_links at.behind)
    parts =
        ap (λ (ls : List LinkState). named_zones state.zones ++ named_links ls) at.parts
        ∙ ap (λ (l : List NamedHome). named_zones state.zones ++ l) (flat_map-append named_link at.before (link ∷ at.behind))
        ∙ sym (append_assoc (named_zones state.zones) (named_links at.before) (named_link link ++ named_links at.behind))

    new : IsSetAtHome (home_names state) (names_of link.rules, shown_rows link.rules later)
    new = subst (λ (hs : List Labels). IsSetAtHome hs (names_of link.rules, shown_rows link.rules later)) (names-are state)
        (link-at_home (homes_in state) (named_zones state.zones ++ named_links at.before) (named_link link) (named_links at.behind) link.rules later (names-of_link link) (link-labels link) parts home.apart.apart sound)

-- ---- all links

abbrev zone_pairs : List ZoneState → List HomePair
zone_pairs zones = map (λ (z : ZoneState). (z.apex ∷ [], (z.rows, z.rows))) zones

abbrev link_pairs : List LinkState → List LinkState → List HomePair
link_pairs (l ∷ ls) (m ∷ ms) = (names_of l.rules, (shown_rows l.rules l.rows, shown_rows m.rules m.rows)) ∷ link_pairs ls ms
link_pairs _ _ = []

-- what the pairs of links are, link by link
record ArePairs (links later : List LinkState) : Type 0 where
  pub named : map (λ (s : HomePair). s.0) (link_pairs links later) ≡ named_sets (link_sets links)
  pub old : olds (link_pairs links later) ≡ shown_by links
  pub new : news (link_pairs links later) ≡ shown_by later
  pub each : each_of (link_pairs links later) ≡ each_changed links later

are_pairs : (links later : List LinkState) → AllZip IsLater links later → ArePairs links later
are_pairs [] [] zip = record { named = refl; old = refl; new = refl; each = refl }
are_pairs [] (m ∷ later) zip = absurd zip
are_pairs (l ∷ links) [] zip = absurd zip
are_pairs (l ∷ links) (m ∷ later) zip =
    let rest = are_pairs links later zip.1 in
    record {
      named = ap (λ hs. names_of l.rules ∷ hs) rest.named;
      old = ap (λ sets. shown_rows l.rules l.rows ∷ sets) rest.old;
      new = ap (λ sets. shown_rows m.rules m.rows ∷ sets) rest.new;
      each = ap (λ cs. changes (shown_rows l.rules l.rows) (shown_rows m.rules m.rows) ∷ cs) rest.each;
    }

zone_pairs-at_home : (homes : List Labels) (zones : List ZoneState) → AllByRecursion (IsAtHome homes) zones → ArePairsAtHome homes (zone_pairs zones)
zone_pairs-at_home homes [] at = tt
zone_pairs-at_home homes (z ∷ zones) at = (record { old = zone-at_home homes z at.0; new = zone-at_home homes z at.0 }, zone_pairs-at_home homes zones at.1)

link_pairs-at_home : (homes front : List NamedHome) (links later : List LinkState) → homes ≡ front ++ named_links links → IsDistinct clashes homes → AllByRecursion IsLink links → AllZip IsLater links later → ArePairsAtHome (home_labels homes) (link_pairs links later)
link_pairs-at_home homes front [] [] parts apart are zip = tt
link_pairs-at_home homes front [] (m ∷ later) parts apart are zip = absurd zip
link_pairs-at_home homes front (l ∷ links) [] parts apart are zip = absurd zip
link_pairs-at_home homes front (l ∷ links) (m ∷ later) parts apart are zip = (
  record {
    old = link-at_home homes front (named_link l) (named_links links) l.rules l.rows (names-of_link l) (link-labels l) parts apart are.0.sound;
    new = subst (λ (ns : List Labels). IsSetAtHome (home_labels homes) (ns, shown_rows m.rules m.rows)) zip.0.names
        (link-at_home homes front (named_link l) (named_links links) m.rules m.rows (names-of_link l) (link-labels l ∙ sym zip.0.names) parts apart zip.0.sound);
  },
  link_pairs-at_home homes (front ++ named_link l) links later (parts ∙ sym (append_assoc front (named_link l) (named_links links))) apart are.1 zip.1,
)

-- zones that don't change add nothing
zones-add_none : (zones : List ZoneState) (each : List (List Changed)) → flat_map (λ (cs : List Changed). cs) (map (λ (z : ZoneState). changes z.rows z.rows) zones ++ each) ≡ flat_map (λ (cs : List Changed). cs) each
zones-add_none [] each = refl
zones-add_none (z ∷ zones) each = (λ i. changes-self z.rows i ++ zones-add_none zones each i)

pub links_change-together : LinksChangeTogether
links_change-together state later now home zip =
    (λ i. changes (united [] (old_sets i)) (united [] (new_sets i)))
    ∙ changes-pairs (home_names state) pairs at_home apart
    ∙ ap gathered each
    ∙ ap (λ (cs : List Changed). map (λ (e : Key × Changed). e.1) (fold with_change [] cs)) (zones-add_none state.zones (each_changed state.links later))
  where
    zones : List HomePair
    zones = zone_pairs state.zones

    links : List HomePair
    links = link_pairs state.links later

    pairs : List HomePair
    pairs = zones ++ links

    are : ArePairs state.links later
    are = are_pairs state.links later zip

    twice : {Y : Type 0} (g : HomePair → Y) → map g pairs ≡ map (λ (z : ZoneState). g (z.apex ∷ [], (z.rows, z.rows))) state.zones ++ map g links
    twice g = map-append g zones links ∙ ap (λ l. l ++ map g links) (map-twice (λ (z : ZoneState). (z.apex ∷ [], (z.rows, z.rows))) g state.zones)

    rows : List RecordSet
    rows = map (λ (z : ZoneState). z.rows) state.zones

    old_sets : rows ++ shown_by state.links ≡ olds pairs
    old_sets = sym (twice (λ s. s.1.0) ∙ ap (λ (l : List RecordSet). rows ++ l) are.old)

    new_sets : rows ++ shown_by later ≡ news pairs
    new_sets = sym (twice (λ s. s.1.1) ∙ ap (λ (l : List RecordSet). rows ++ l) are.new)

    each : each_of pairs ≡ map (λ (z : ZoneState). changes z.rows z.rows) state.zones ++ each_changed state.links later
    each = twice (λ s. changes s.1.0 s.1.1) ∙ ap (λ (l : List (List Changed)). map (λ (z : ZoneState). changes z.rows z.rows) state.zones ++ l) are.each

    named : map (λ (s : HomePair). s.0) pairs ≡ named_sets (home_sets state)
    named =
        twice (λ s. s.0) ∙ ap (λ (l : List (List Labels)). map (λ (z : ZoneState). z.apex ∷ []) state.zones ++ l) are.named
        ∙ sym (map-append (λ (s : HomeSet). s.0) (zone_sets state.zones) (link_sets state.links) ∙ ap (λ (l : List (List Labels)). l ++ named_sets (link_sets state.links)) (map-twice zone_set (λ (s : HomeSet). s.0) state.zones))

    apart : IsDistinct share_a_name (map (λ (s : HomePair). s.0) pairs)
    apart = subst (IsDistinct share_a_name) (sym named) (sets-apart state home.apart)

    at_home : ArePairsAtHome (home_names state) pairs
    at_home = all-both (IsPairAtHome (home_names state)) zones links (zone_pairs-at_home (home_names state) state.zones home.zones)
        (subst (λ (hs : List Labels). ArePairsAtHome hs links) (names-are state) (link_pairs-at_home (homes_in state) (named_zones state.zones) state.links later refl home.apart.apart home.links zip))
