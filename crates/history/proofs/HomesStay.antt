-- Each name keeps its home, since no entry changes the name of a home.
use Rattle.std.proofs.Common.{◌≡◌, ℕ, Bool, true, false, cond, ltb, List, [], ◌∷◌, ◌++◌, map, Option, Some, None, Result, Ok, Err, refl, sym, ap, ◌∙◌}
use Rattle.std.specs.Prelude.{position, option_map, flat_map}
use Rattle.std.specs.List.{list_any}
use Rattle.push_base.specs.Cases.{◌>>=◌}
use Rattle.dnsname.specs.Names.{Labels, same_name, home}
use Rattle.dnswire.specs.declared.message.Update.{Update}
use Rattle.rrset.specs.RecordSet.{RecordSet}
use Rattle.zoneupdate.specs.Updates.{judged}
use Rattle.zoneupdate.specs.Zones.{ZoneState}
use Rattle.history.specs.Entries.{Concern, a_zone, a_link, all_links, concern}
use Rattle.history.specs.AtHome.{AreAtHome}
use Rattle.history.specs.Laws.{EntriesKeepHomes}
use Rattle.linkcache.specs.Rows.{names_of}
use Rattle.history.specs.States.{State, LinkState, LinkRules, home_names, home_of, zone_of, zone_asked, with_rows, updated, after, after_by, link_after, link_at_moment}
use Rattle.history.specs.declared.entry.Entry.{Entry}
use Rattle.history.specs.declared.entry.Entry.TheVariants as entries
use Rattle.history.specs.declared.entry.Home.{Home}
use Rattle.history.specs.declared.entry.Home.TheVariants as homes
use Rattle.history.proofs.HomeSets.{map-twice}
use Rattle.history.proofs.Positions.{position-map, map-changed_at}
use Rattle.history.proofs.StatesAtHome.{rules_of, names-by, home-after}
use Rattle.history.proofs.UpdateSteps.{asked_step, zone_step, updated-steps}

abbrev pub apexes : List ZoneState → List Labels
apexes zones = map (λ (z : ZoneState). z.apex) zones

-- ---- the home of a name depends on the names of homes alone

abbrev has_name : Labels → LinkRules → Bool
has_name h rules = list_any (same_name h) (names_of rules)

abbrev home_by : List Labels → List LinkRules → Option Labels → Option Home
home_by zones links o = elim o [ None ↦ None | Some h ↦ elim (position (λ n. same_name n h) zones) [ Some i ↦ Some (homes.Zone i) | None ↦ option_map (λ i. homes.Link i) (position (has_name h) links) ] ]

home_of-names : (state : State) (name : Labels) → home_of state name ≡ home_by (apexes state.zones) (rules_of state.links) (home (apexes state.zones ++ flat_map names_of (rules_of state.links)) name)
home_of-names state name = by (home (home_names state) name) ∙ ap (λ (ns : List Labels). home_by (apexes state.zones) (rules_of state.links) (home (apexes state.zones ++ ns) name)) (sym (names-by state.links))
  where
    by : (o : Option Labels) → elim o [ None ↦ None | Some h ↦ elim (position (λ (z : ZoneState). same_name z.apex h) state.zones) [ Some i ↦ Some (homes.Zone i) | None ↦ option_map (λ i. homes.Link i) (position (λ (l : LinkState). has_name h l.rules) state.links) ] ] ≡ home_by (apexes state.zones) (rules_of state.links) o
    by None = refl
    by (Some h) = λ i. elim (sym (position-map (λ (z : ZoneState). z.apex) (λ n. same_name n h) state.zones) i) as (λ _. Option Home) [ Some k ↦ Some (homes.Zone k) | None ↦ option_map (λ k. homes.Link k) (sym (position-map (λ (l : LinkState). l.rules) (has_name h) state.links) i) ]

pub home_of-same : (a b : State) → apexes a.zones ≡ apexes b.zones → rules_of a.links ≡ rules_of b.links → (name : Labels) → home_of a name ≡ home_of b name
home_of-same a b zones links name = home_of-names a name ∙ (λ i. home_by (zones i) (links i) (home (zones i ++ flat_map names_of (links i)) name)) ∙ sym (home_of-names b name)

-- ---- entries keep the names of homes

with_rows-apexes : (apex : Labels) (rows : RecordSet) (zones : List ZoneState) → apexes (map (λ (z : ZoneState). cond (same_name z.apex apex) (record z { rows = rows }) z) zones) ≡ apexes zones
with_rows-apexes apex rows [] = refl
with_rows-apexes apex rows (z ∷ zones) = λ i. one (same_name z.apex apex) i ∷ with_rows-apexes apex rows zones i
  where
    one : (b : Bool) → (cond b (record z { rows = rows }) z).apex ≡ z.apex
    one true = refl
    one false = refl

abbrev SameNames : State → State → Type 0
SameNames a b = (apexes a.zones ≡ apexes b.zones) × (rules_of a.links ≡ rules_of b.links)

-- the state that an update leads to, if it isn't refused
abbrev made : State → Result State ℕ → State
made state r = elim r as (λ _. State) [ Err code ↦ state | Ok later ↦ later ]

same-updated : (state : State) (update : Update) → SameNames (after state (entries.Update update)) state
same-updated state update = steps
  where
    judged_so : (apex : Labels) (r : Result RecordSet ℕ) → SameNames (made state (r >>= λ rows. Ok (with_rows state apex rows))) state
    judged_so apex (Err code) = (refl, refl)
    judged_so apex (Ok rows) = (with_rows-apexes apex rows state.zones, refl)

    zone : (o : Option ZoneState) → SameNames (made state (zone_step state update o)) state
    zone None = (refl, refl)
    zone (Some z) = judged_so z.apex (judged (home_names state) z update)

    asked : (r : Result Labels ℕ) → SameNames (made state (asked_step state update r)) state
    asked (Err code) = (refl, refl)
    asked (Ok apex) = zone (zone_of state apex)

    steps : SameNames (made state (updated state update)) state
    steps = let names = asked (zone_asked update.zones) in (
      ap (λ (x : Result State ℕ). apexes (made state x).zones) (updated-steps state update) ∙ names.0,
      ap (λ (x : Result State ℕ). rules_of (made state x).links) (updated-steps state update) ∙ names.1,
    )

same_names-by : (entry : Entry) (state : State) (homes : Concern) → SameNames (after_by entry state homes) state
same_names-by entry state (a_zone update) = same-updated state update
same_names-by entry state (a_link link) = (refl, map-changed_at (λ (l : LinkState). l.rules) (link_after entry state.now) (λ l. refl) link state.links)
same_names-by entry state (all_links t) = by (ltb state.now t)
  where
    by : (b : Bool) → SameNames (cond b (record state { now = t; links = map (link_at_moment t) state.links }) state) state
    by true = (refl, map-twice (link_at_moment t) (λ (l : LinkState). l.rules) state.links)
    by false = (refl, refl)

pub same_names-after : (state : State) (entry : Entry) → SameNames (after state entry) state
same_names-after state entry = same_names-by entry state (concern entry)

pub home_of-after : (state : State) → AreAtHome state → (entry : Entry) (name : Labels) → home_of (after state entry) name ≡ home_of state name
home_of-after state home entry name = let names = same_names-after state entry in home_of-same (after state entry) state names.0 names.1 name

pub homes-kept : EntriesKeepHomes
homes-kept state entry home = (home-after state home entry, home_of-after state home entry)
