-- Each state of a history has its records at home, if the start has.
use Rattle.std.proofs.Common.{◌≡◌, ℕ, zero, suc, Bool, true, false, cond, ltb, List, [], ◌∷◌, ◌++◌, map, Option, Some, None, Result, Ok, Err, refl, sym, ap, subst, ◌∙◌}
use Rattle.std.specs.Prelude.{position, flat_map}
use Rattle.std.specs.List.{AllByRecursion}
use Rattle.std.proofs.lemmas.List.Folds.{flat_map-map}
use Rattle.push_base.specs.Cases.{◌>>=◌, changed_at}
use Rattle.dnsname.specs.Names.{Labels}
use Rattle.dnswire.specs.declared.message.Update.{Update}
use Rattle.rrset.specs.Rcodes.{notauth}
use Rattle.rrset.specs.RecordSet.{RecordSet, changes}
use Rattle.zoneupdate.specs.Updates.{judged}
use Rattle.zoneupdate.specs.Zones.{ZoneState}
use Rattle.linkcache.specs.Links.{IsLink}
use Rattle.linkcache.specs.Rows.{names_of}
use Rattle.history.specs.Entries.{Concern, a_zone, a_link, all_links, concern}
use Rattle.history.specs.Homes.{NamedHome}
use Rattle.history.specs.AtHome.{IsAtHome, AreAtHome, StandApart, named_zones, named_link, named_links}
use Rattle.history.specs.States.{State, LinkState, LinkRules, home_names, zone_asked, with_rows, updated, after, after_by, link_after, link_at_moment}
use Rattle.history.specs.declared.entry.Entry.{Entry}
use Rattle.history.specs.declared.entry.Entry.TheVariants as entries
use Rattle.history.proofs.HomeSets.{map-twice}
use Rattle.history.proofs.OneLink.{link-after, link-moment}
use Rattle.history.proofs.Positions.{Found, found_from, map-changed_at}
use Rattle.history.proofs.UpdateSteps.{named, asked_step, zone_step, updated-steps, updated-found, zone_of-none, accepted-found}

-- ---- an update

pub home-updated : (state : State) → AreAtHome state → (update : Update) → AreAtHome (after state (entries.Update update))
home-updated state home update = by (updated state update) refl
  where
    kept : AreAtHome state
    kept = home

    absurd_step : {X : Type 0} (code : ℕ) (later : State) → updated state update ≡ Err code → updated state update ≡ Ok later → X
    absurd_step code later no_ ok = let wrong : ◌≡◌ {A = Result State ℕ} (Err code) (Ok later) = sym no_ ∙ ok in absurd cc

    found : (apex : Labels) (i : ℕ) (f : Found (named apex) state.zones i) (later : State) → zone_asked update.zones ≡ Ok apex → updated state update ≡ Ok later → (r : Result RecordSet ℕ) → judged (home_names state) f.here update ≡ r → AreAtHome (after state (entries.Update update))
    found apex i f later asked ok (Err code) step = absurd_step code later (updated-found state update apex i f asked ∙ ap (λ (r : Result RecordSet ℕ). r >>= λ rows. Ok (with_rows state f.here.apex rows)) step) ok
    found apex i f later asked ok (Ok rows) step =
        let made = accepted-found state home update apex i f rows (changes f.here.rows rows) asked step refl in
        subst AreAtHome (sym made.later) made.home

    place : (apex : Labels) (o : Option ℕ) (later : State) → zone_asked update.zones ≡ Ok apex → updated state update ≡ Ok later → position (named apex) state.zones ≡ o → AreAtHome (after state (entries.Update update))
    place apex None later asked ok at = absurd_step notauth later (updated-steps state update ∙ ap (asked_step state update) asked ∙ ap (zone_step state update) (zone_of-none state apex at)) ok
    place apex (Some i) later asked ok at = let f = found_from (named apex) state.zones i at in found apex i f later asked ok (judged (home_names state) f.here update) refl

    asked : (r : Result Labels ℕ) (later : State) → updated state update ≡ Ok later → zone_asked update.zones ≡ r → AreAtHome (after state (entries.Update update))
    asked (Err code) later ok is = absurd_step code later (updated-steps state update ∙ ap (asked_step state update) is) ok
    asked (Ok apex) later ok is = place apex (position (named apex) state.zones) later is ok refl

    by : (r : Result State ℕ) → updated state update ≡ r → AreAtHome (after state (entries.Update update))
    by (Err code) is = subst AreAtHome (sym (ap (λ (r : Result State ℕ). elim r as (λ _. State) [ Err code ↦ state | Ok later ↦ later ]) is)) kept
    by (Ok later) is = asked (zone_asked update.zones) later is refl

-- ---- other entries, which change links alone

-- what links show by
abbrev pub rules_of : List LinkState → List LinkRules
rules_of links = map (λ (l : LinkState). l.rules) links

pub names-by : (links : List LinkState) → flat_map names_of (rules_of links) ≡ flat_map (λ (l : LinkState). names_of l.rules) links
names-by links = flat_map-map names_of (λ (l : LinkState). l.rules) links

-- later links with the same rules
pub home-relinked : (state : State) → AreAtHome state → (links : List LinkState) (now : ℕ) → rules_of links ≡ rules_of state.links → AllByRecursion IsLink links → AreAtHome (record { zones = state.zones; links = links; now = now })
home-relinked state home links now same are = record {
  apart = subst StandApart (ap (λ (l : List NamedHome). named_zones state.zones ++ l) (sym named)) home.apart;
  zones = subst (λ (hs : List Labels). AllByRecursion (IsAtHome hs) state.zones) (ap (λ (l : List Labels). map (λ (z : ZoneState). z.apex) state.zones ++ l) (sym names)) home.zones;
  links = are;
}
  where
    named_by : LinkRules → List NamedHome
    named_by rules = named_link (record { rules = rules; rows = [] })

    named : named_links links ≡ named_links state.links
    named = sym (flat_map-map named_by (λ (l : LinkState). l.rules) links) ∙ ap (flat_map named_by) same ∙ flat_map-map named_by (λ (l : LinkState). l.rules) state.links

    names : flat_map (λ (l : LinkState). names_of l.rules) links ≡ flat_map (λ (l : LinkState). names_of l.rules) state.links
    names = sym (names-by links) ∙ ap (flat_map names_of) same ∙ names-by state.links

-- each link, and one of them, after a step that keeps a link one
pub links-each : (f : LinkState → LinkState) → ((l : LinkState) → IsLink l → IsLink (f l)) → (links : List LinkState) → AllByRecursion IsLink links → AllByRecursion IsLink (map f links)
links-each f keeps [] are = tt
links-each f keeps (l ∷ links) are = (keeps l are.0, links-each f keeps links are.1)

pub links-one : (f : LinkState → LinkState) → ((l : LinkState) → IsLink l → IsLink (f l)) → (i : ℕ) (links : List LinkState) → AllByRecursion IsLink links → AllByRecursion IsLink (changed_at i f links)
links-one f keeps i [] are = tt
links-one f keeps zero (l ∷ links) are = (keeps l are.0, are.1)
links-one f keeps (suc i) (l ∷ links) are = (are.0, links-one f keeps i links are.1)

-- whatever homes the entry concerns
home-by : (entry : Entry) (state : State) → AreAtHome state → (homes : Concern) → AreAtHome (after_by entry state homes)
home-by entry state home (a_zone update) = home-updated state home update
home-by entry state home (a_link link) =
    home-relinked state home (changed_at link (link_after entry state.now) state.links) state.now (map-changed_at (λ (l : LinkState). l.rules) (link_after entry state.now) (λ l. refl) link state.links)
    (links-one (link_after entry state.now) (link-after entry state.now) link state.links home.links)
home-by entry state home (all_links t) = by (ltb state.now t)
  where
    by : (b : Bool) → AreAtHome (cond b (record state { now = t; links = map (link_at_moment t) state.links }) state)
    by true = home-relinked state home (map (link_at_moment t) state.links) t (map-twice (link_at_moment t) (λ (l : LinkState). l.rules) state.links) (links-each (link_at_moment t) (link-moment t) state.links home.links)
    by false = home

pub home-after : (state : State) → AreAtHome state → (entry : Entry) → AreAtHome (after state entry)
home-after state home entry = home-by entry state home (concern entry)
