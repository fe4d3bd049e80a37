-- The names of homes are names, as each of them tells.
use Rattle.std.proofs.Common.{◌≡◌, ℕ, ◌+◌, ◌<◌, true, List, [], ◌∷◌, length, get_or, drop, map, sym, ap, subst, ◌∙◌}
use Rattle.std.specs.Prelude.{IsTrue}
use Rattle.std.specs.List.{AllByRecursion}
use Rattle.std.proofs.lemmas.List.{drop_more}
use Rattle.dnsname.specs.Names.{Labels, is_name, IsName}
use Rattle.dnsname.proofs.Decisions.{is_name-Decides}
use Rattle.zoneupdate.specs.KeptZones.{ZoneKept}
use Rattle.linkcache.specs.Links.{LinkState, LinkKept, IsLink}
use Rattle.linkcache.specs.Rows.{names_of}
use Rattle.linkcache.specs.declared.rules.LinkRules.{LinkRules}
use Rattle.history.specs.Homes.{NamedHome}
use Rattle.history.specs.Kept.{HomesKept, state_of}
use Rattle.history.specs.AtHome.{homes_in, named_zones, named_link, named_links}
use Rattle.history.specs.declared.entry.HomeKind.TheVariants as kinds
use Rattle.history.specs.States.{State}
use Rattle.history.proofs.Distinct.{all-both, all-apart, all-as}

module _ {X : Type 0} (name_of : X → Labels) where
  abbrev pub AreNamed : List X → Type 0
  AreNamed homes = AllByRecursion (λ h. IsTrue (is_name (name_of h))) homes

  -- one home more has a name
  pub named-turn : (homes : List X) (i : ℕ) (home : X) (name : Labels) → i < length homes → home ≡ get_or homes i home → name ≡ name_of home → IsName name → (AreNamed (drop i homes) → AreNamed homes) → AreNamed (drop (i + 1) homes) → AreNamed homes
  named-turn homes i home name h is apex named back rest =
      let here : is_name (name_of (get_or homes i home)) ≡ true = ap is_name (ap name_of (sym is) ∙ sym apex) ∙ (is_name-Decides name).1 named in
      back (subst AreNamed (sym (drop_more homes i home h)) (here, rest))

-- ---- all homes

abbrev pub IsNamed : NamedHome → Type 0
IsNamed home = IsTrue (is_name home.0)

named-zones : (zones : List ZoneKept) → AreNamed (λ (z : ZoneKept). z.state.apex) zones → AllByRecursion IsNamed (named_zones (map (λ (z : ZoneKept). z.state) zones))
named-zones [] h = tt
named-zones (z ∷ zones) h = (h.0, named-zones zones h.1)

-- all names of a link are names
abbrev pub AreLinkNames : LinkRules → Type 0
AreLinkNames rules = AllByRecursion (λ n. IsTrue (is_name n)) (names_of rules)

pub link-names : (link : LinkState) → IsLink link → AreLinkNames link.rules
link-names link is = ((is_name-Decides link.rules.domain).1 is.name, all-as IsName (λ n. IsTrue (is_name n)) (λ n named. (is_name-Decides n).1 named) link.rules.reverses is.reverses)

-- a turn of the way through links
pub links-turn : (links : List LinkKept) (i : ℕ) (link : LinkKept) → i < length links → link ≡ get_or links i link → IsLink link.state → (AllByRecursion (λ (l : LinkKept). AreLinkNames l.state.rules) (drop i links) → AllByRecursion (λ (l : LinkKept). AreLinkNames l.state.rules) links)
    → AllByRecursion (λ (l : LinkKept). AreLinkNames l.state.rules) (drop (i + 1) links) → AllByRecursion (λ (l : LinkKept). AreLinkNames l.state.rules) links
links-turn links i link h is sound back rest =
    back (subst (AllByRecursion (λ (l : LinkKept). AreLinkNames l.state.rules)) (sym (drop_more links i link h)) (subst (λ (l : LinkKept). AreLinkNames l.state.rules) is (link-names link.state sound), rest))

reverses-named : (reverses : List Labels) → AllByRecursion (λ n. IsTrue (is_name n)) reverses → AllByRecursion IsNamed (map (λ r. (r, kinds.Reverse)) reverses)
reverses-named [] h = tt
reverses-named (r ∷ reverses) h = (h.0, reverses-named reverses h.1)

named-links : (links : List LinkKept) → AllByRecursion (λ (l : LinkKept). AreLinkNames l.state.rules) links → AllByRecursion IsNamed (named_links (map (λ (l : LinkKept). l.state) links))
named-links [] h = tt
named-links (l ∷ links) h =
    all-both IsNamed (named_link l.state) (named_links (map (λ (k : LinkKept). k.state) links)) (h.0.0, reverses-named l.state.rules.reverses h.0.1) (named-links links h.1)

pub named-homes : (homes : HomesKept) (zones : List ZoneKept) (links : List LinkKept) → zones ≡ homes.zones → links ≡ homes.links → AreNamed (λ (z : ZoneKept). z.state.apex) zones → AllByRecursion (λ (l : LinkKept). AreLinkNames l.state.rules) links
    → AllByRecursion IsNamed (homes_in (state_of homes))
named-homes homes zones links zones_is links_is h g =
    all-both IsNamed (named_zones (state_of homes).zones) (named_links (state_of homes).links)
    (named-zones homes.zones (subst (λ zs. AreNamed (λ (z : ZoneKept). z.state.apex) zs) zones_is h))
    (named-links homes.links (subst (AllByRecursion (λ (l : LinkKept). AreLinkNames l.state.rules)) links_is g))

named-reverses : (reverses : List Labels) → AllByRecursion IsNamed (map (λ r. (r, kinds.Reverse)) reverses) → AllByRecursion (λ n. IsTrue (is_name n)) reverses
named-reverses [] h = tt
named-reverses (r ∷ reverses) h = (h.0, named-reverses reverses h.1)

links-named : (links : List LinkState) → AllByRecursion IsNamed (named_links links) → AllByRecursion (λ l. AreLinkNames l.rules) links
links-named [] h = tt
links-named (l ∷ links) h = let parts = all-apart IsNamed (named_link l) (named_links links) h in ((parts.0.0, named-reverses l.rules.reverses parts.0.1), links-named links parts.1)

-- the names of the links of a state
pub names-links : (state : State) → AllByRecursion IsNamed (homes_in state) → AllByRecursion (λ l. AreLinkNames l.rules) state.links
names-links state h = links-named state.links (all-apart IsNamed (named_zones state.zones) (named_links state.links) h).1
