-- Homes that are kept stay kept: as their names and those of their zones and links stay the same, or one more is added.
use Rattle.std.proofs.Common.{◌≡◌, ℕ, zero, suc, false, is_none, List, [], ◌∷◌, ◌++◌, map, Option, Some, None, refl, sym, ap, subst, ◌∙◌, append_assoc}
use Rattle.std.specs.Prelude.{IsPermutation, slice_get}
use Rattle.std.specs.List.{AllByRecursion}
use Rattle.std.proofs.lemmas.List.{map-append}
use Rattle.std.proofs.lemmas.List.Concat.{flat_map-append}
use Rattle.std.proofs.lemmas.List.Sorted.{IsPermutation-append_left, IsPermutation-middle, IsPermutation-push_more, IsPermutation-sym}
use Rattle.push_base.specs.Cases.{changed_at}
use Rattle.dnsname.specs.Names.{Labels}
use Rattle.zoneupdate.specs.Zones.{ZoneState}
use Rattle.zoneupdate.specs.KeptZones.{ZoneKept}
use Rattle.reversemap.specs.BothKinds.{IsApart}
use Rattle.linkcache.specs.Links.{LinkState, LinkKept}
use Rattle.linkcache.specs.Plans.{LinkPlan}
use Rattle.linkcache.specs.declared.rules.LinkRules.{LinkRules}
use Rattle.history.specs.Homes.{NamedHome, clashes, home_fault}
use Rattle.history.specs.Plans.{may_stand_together}
use Rattle.history.specs.Kept.{HomesKept, HasNoRow, at_moment, state_of}
use Rattle.history.specs.AtHome.{AreNamesOf, StandApart, homes_in, named_zones, named_link, named_links}
use Rattle.history.specs.HeldPlans.{AreKept, led_to, zone_changed, link_changed, links_changed}
use Rattle.history.specs.States.{State, with_reverse}
use Rattle.history.specs.declared.entry.HomeKind.TheVariants as kinds
use Rattle.history.specs.declared.planning.HeldPlan.{HeldPlan}
use Rattle.history.specs.declared.planning.HeldPlan.TheVariants as plans
use Rattle.history.proofs.Distinct.{all-apart, all-permuted}
use Rattle.history.proofs.Elements.{same_some}
use Rattle.history.proofs.Positions.{Standing, standing_at, changed_at-standing, map-changed_at, flat_map-changed_at}
use Rattle.history.proofs.Starts.{reverse-apart}
use Rattle.history.proofs.Together.{IsAdded, added-one, names-apart, together-more}

-- ---- the same names

pub kept-named : (old new : HomesKept) → AreKept old → new.names ≡ old.names → homes_in (state_of new) ≡ homes_in (state_of old) → AreKept new
kept-named old new kept names homes = record {
  names = subst (λ (hs : List NamedHome). IsPermutation new.names hs) (sym homes) (subst (λ (ns : List NamedHome). IsPermutation ns (homes_in (state_of old))) (sym names) kept.names);
  together = ap may_stand_together names ∙ kept.together;
}

-- a plan leaves the names
names-changed : (ps : List LinkPlan) (ls : List LinkState) → named_links (links_changed ps ls) ≡ named_links ls
names-changed [] [] = refl
names-changed [] (l ∷ ls) = refl
names-changed (p ∷ ps) [] = refl
names-changed (p ∷ ps) (l ∷ ls) = ap (λ hs. named_link l ++ hs) (names-changed ps ls)

pub led-zones : (state : State) (plan : HeldPlan) → named_zones (led_to state plan).zones ≡ named_zones state.zones
led-zones state (plans.Zone i changed) = map-changed_at (λ (z : ZoneState). (z.apex, kinds.Zone)) (zone_changed changed) (λ z. refl) i state.zones
led-zones state (plans.Link i plan) = refl
led-zones state (plans.Moment later each) = refl

pub led-links : (state : State) (plan : HeldPlan) → named_links (led_to state plan).links ≡ named_links state.links
led-links state (plans.Zone i changed) = refl
led-links state (plans.Link i plan) = flat_map-changed_at named_link (link_changed plan) (λ l. refl) i state.links
led-links state (plans.Moment later each) = names-changed each.items state.links

pub kept-led : (old new : HomesKept) (t later : ℕ) (plan : HeldPlan) → AreKept old → new.names ≡ old.names → at_moment new later ≡ led_to (at_moment old t) plan → AreKept new
kept-led old new t later plan kept names led =
    kept-named old new kept names (ap homes_in led ∙ (λ i. led-zones (at_moment old t) plan i ++ led-links (at_moment old t) plan i))

-- ---- one more

one_more : {X : Type 0} (xs front behind : List X) (x : X) → IsPermutation xs (front ++ behind) → IsPermutation (xs ++ x ∷ []) (front ++ x ∷ behind)
one_more xs front behind x moved =
    IsPermutation-push_more xs (front ++ behind) (front ++ x ∷ behind) x moved (IsPermutation-sym (front ++ x ∷ behind) (x ∷ (front ++ behind)) (IsPermutation-middle front x behind))

-- names with a home more are those of the homes with one more
pub names-zone : (names : List NamedHome) (state : State) (zone : ZoneState) → AreNamesOf names state → AreNamesOf (names ++ (zone.apex, kinds.Zone) ∷ []) (record state { zones = state.zones ++ zone ∷ [] })
names-zone names state zone are =
    subst (IsPermutation (names ++ new ∷ [])) (sym parts)
    (one_more names (named_zones state.zones) (named_links state.links) new are)
  where
    new : NamedHome
    new = (zone.apex, kinds.Zone)

    parts : named_zones (state.zones ++ zone ∷ []) ++ named_links state.links ≡ named_zones state.zones ++ new ∷ named_links state.links
    parts = ap (λ (hs : List NamedHome). hs ++ named_links state.links) (map-append (λ (z : ZoneState). (z.apex, kinds.Zone)) state.zones (zone ∷ [])) ∙ append_assoc (named_zones state.zones) (new ∷ []) (named_links state.links)

pub names-link : (names : List NamedHome) (state : State) (link : LinkState) → link.rules.reverses ≡ [] → AreNamesOf names state → AreNamesOf (names ++ (link.rules.domain, kinds.Link) ∷ []) (record state { links = state.links ++ link ∷ [] })
names-link names state link none are = subst (IsPermutation (names ++ new ∷ [])) (sym parts) (IsPermutation-append_left (new ∷ []) names (homes_in state) are)
  where
    new : NamedHome
    new = (link.rules.domain, kinds.Link)

    parts : named_zones state.zones ++ named_links (state.links ++ link ∷ []) ≡ homes_in state ++ new ∷ []
    parts =
        ap (λ (hs : List NamedHome). named_zones state.zones ++ hs)
        (flat_map-append named_link state.links (link ∷ []) ∙ ap (λ (rs : List Labels). named_links state.links ++ (new ∷ map (λ r. (r, kinds.Reverse)) rs ++ [])) none)
        ∙ sym (append_assoc (named_zones state.zones) (named_links state.links) (new ∷ []))

pub names-reverse : (names : List NamedHome) (state : State) (i : ℕ) (link : LinkState) (domain : Labels) → slice_get state.links i ≡ Some link → AreNamesOf names state
    → AreNamesOf (names ++ (domain, kinds.Reverse) ∷ []) (record state { links = changed_at i (with_reverse domain) state.links })
names-reverse names state i link domain found are =
    subst (IsPermutation (names ++ new ∷ [])) (sym later)
    (one_more names (named_zones state.zones ++ (named_links at.before ++ named_link link)) (named_links at.behind) new (subst (IsPermutation names) now are))
  where
    at : Standing state.links i link
    at = standing_at state.links i link found

    new : NamedHome
    new = (domain, kinds.Reverse)

    zones : List NamedHome
    zones = named_zones state.zones

    before : List NamedHome
    before = named_links at.before

    behind : List NamedHome
    behind = named_links at.behind

    now : homes_in state ≡ (zones ++ (before ++ named_link link)) ++ behind
    now =
        ap (λ (ls : List LinkState). zones ++ named_links ls) at.parts
        ∙ ap (λ (hs : List NamedHome). zones ++ hs) (flat_map-append named_link at.before (link ∷ at.behind) ∙ sym (append_assoc before (named_link link) behind))
        ∙ sym (append_assoc zones (before ++ named_link link) behind)

    own : named_link (with_reverse domain link) ≡ named_link link ++ new ∷ []
    own = ap (λ (hs : List NamedHome). (link.rules.domain, kinds.Link) ∷ hs) (map-append (λ r. (r, kinds.Reverse)) link.rules.reverses (domain ∷ []))

    later : zones ++ named_links (changed_at i (with_reverse domain) state.links) ≡ (zones ++ (before ++ named_link link)) ++ new ∷ behind
    later =
        ap (λ (ls : List LinkState). zones ++ named_links ls) (changed_at-standing (with_reverse domain) state.links i link at)
        ∙ ap (λ (hs : List NamedHome). zones ++ hs) (flat_map-append named_link at.before (with_reverse domain link ∷ at.behind) ∙ ap (λ (hs : List NamedHome). before ++ (hs ++ behind)) own ∙ ap (λ (hs : List NamedHome). before ++ hs) (append_assoc (named_link link) (new ∷ []) behind) ∙ sym (append_assoc before (named_link link) (new ∷ behind)))
        ∙ sym (append_assoc zones (before ++ named_link link) (new ∷ behind))

pub kept-zone : (homes : HomesKept) (zone : ZoneKept) → AreKept homes → home_fault homes.names (zone.state.apex, kinds.Zone) ≡ None → AreKept (record homes { zones = homes.zones ++ zone ∷ []; names = homes.names ++ (zone.state.apex, kinds.Zone) ∷ [] })
kept-zone homes zone kept none = record {
  names = subst (λ (zs : List ZoneState). AreNamesOf (homes.names ++ (zone.state.apex, kinds.Zone) ∷ []) (record (state_of homes) { zones = zs })) (sym (map-append (λ (z : ZoneKept). z.state) homes.zones (zone ∷ []))) (names-zone homes.names (state_of homes) zone.state kept.names);
  together = together-more homes.names (zone.state.apex, kinds.Zone) kept.together none;
}

pub kept-link : (homes : HomesKept) (link : LinkKept) → AreKept homes → link.state.rules.reverses ≡ [] → home_fault homes.names (link.state.rules.domain, kinds.Link) ≡ None
    → AreKept (record homes { links = homes.links ++ link ∷ []; names = homes.names ++ (link.state.rules.domain, kinds.Link) ∷ [] })
kept-link homes link kept alone none = record {
  names = subst (λ (ls : List LinkState). AreNamesOf (homes.names ++ (link.state.rules.domain, kinds.Link) ∷ []) (record (state_of homes) { links = ls })) (sym (map-append (λ (l : LinkKept). l.state) homes.links (link ∷ []))) (names-link homes.names (state_of homes) link.state alone kept.names);
  together = together-more homes.names (link.state.rules.domain, kinds.Link) kept.together none;
}

-- the link that there is
link-there : (o : Option LinkState) → HasNoRow o → (link : LinkState) × (o ≡ Some link)
link-there None none = absurd none
link-there (Some link) none = (link, refl)

pub kept-reverse : (homes : HomesKept) (i : ℕ) (domain : Labels) (links : List LinkKept) (names : List NamedHome) → AreKept homes → HasNoRow (slice_get (state_of homes).links i) → home_fault homes.names (domain, kinds.Reverse) ≡ None
    → map (λ (l : LinkKept). l.state) links ≡ changed_at i (with_reverse domain) (state_of homes).links → names ≡ homes.names ++ (domain, kinds.Reverse) ∷ [] → AreKept (record { zones = homes.zones; links = links; names = names })
kept-reverse homes i domain links names kept there none links_is names_is =
    let link = link-there (slice_get (state_of homes).links i) there in
    record {
      names = subst (λ (ns : List NamedHome). AreNamesOf ns (state_of (record { zones = homes.zones; links = links; names = names }))) (sym names_is)
          (subst (λ (ls : List LinkState). AreNamesOf (homes.names ++ (domain, kinds.Reverse) ∷ []) (record (state_of homes) { links = ls })) (sym links_is) (names-reverse homes.names (state_of homes) i link.0 domain link.1 kept.names));
      together = ap may_stand_together names_is ∙ together-more homes.names (domain, kinds.Reverse) kept.together none;
    }

-- a reverse domain without a fault stands apart from the domain of each link
pub apart-kept : (homes : HomesKept) (domain : Labels) → AreKept homes → home_fault homes.names (domain, kinds.Reverse) ≡ None → (i : ℕ) (link : LinkState) → slice_get (state_of homes).links i ≡ Some link → IsApart link.rules.domain domain
apart-kept homes domain kept none i link found =
    reverse-apart link.rules.domain domain (each (state_of homes).links i found (all-apart Apart (named_zones (state_of homes).zones) (named_links (state_of homes).links) (all-permuted Apart homes.names (homes_in (state_of homes)) kept.names added.apart)).1) added.fit
  where
    Apart : NamedHome → Type 0
    Apart h = clashes h (domain, kinds.Reverse) ≡ false

    added : IsAdded homes.names (domain, kinds.Reverse)
    added = added-one homes.names (domain, kinds.Reverse) (ap is_none none)

    each : (links : List LinkState) (i : ℕ) → slice_get links i ≡ Some link → AllByRecursion Apart (named_links links) → Apart (link.rules.domain, kinds.Link)
    each [] i e all = cc
    each (l ∷ links) zero e all = subst (λ (k : LinkState). Apart (k.rules.domain, kinds.Link)) (same_some l link e) all.0
    each (l ∷ links) (suc i) e all = each links i e (all-apart Apart (named_link l) (named_links links) all).1

pub kept-zone-as : (homes : HomesKept) (zones : List ZoneKept) (names : List NamedHome) (zone : ZoneKept) → AreKept homes → home_fault homes.names (zone.state.apex, kinds.Zone) ≡ None → zones ≡ homes.zones ++ zone ∷ [] → names ≡ homes.names ++ (zone.state.apex, kinds.Zone) ∷ []
    → AreKept (record { zones = zones; links = homes.links; names = names })
kept-zone-as homes zones names zone kept none zones_is names_is = subst AreKept (λ i. record { zones = sym zones_is i; links = homes.links; names = sym names_is i }) (kept-zone homes zone kept none)

pub kept-link-as : (homes : HomesKept) (links : List LinkKept) (names : List NamedHome) (link : LinkKept) (domain : Labels) (cap : ℕ) → AreKept homes → home_fault homes.names (domain, kinds.Link) ≡ None → link.state.rules ≡ record { domain = domain; reverses = []; cap = cap } → links ≡ homes.links ++ link ∷ []
    → names ≡ homes.names ++ (domain, kinds.Link) ∷ [] → AreKept (record { zones = homes.zones; links = links; names = names })
kept-link-as homes links names link domain cap kept none rules links_is names_is =
    let same : link.state.rules.domain ≡ domain = ap (λ (r : LinkRules). r.domain) rules in
    subst AreKept (λ i. record { zones = homes.zones; links = sym links_is i; names = (ap (λ d. homes.names ++ (d, kinds.Link) ∷ []) same ∙ sym names_is) i })
    (kept-link homes link kept (ap (λ (r : LinkRules). r.reverses) rules) (ap (λ d. home_fault homes.names (d, kinds.Link)) same ∙ none))

-- ---- they stand apart

pub stand-apart : (homes : HomesKept) (t : ℕ) → AreKept homes → StandApart (homes_in (at_moment homes t))
stand-apart homes t kept = names-apart homes.names (at_moment homes t) kept.together kept.names
