-- A start of homes that stand apart has each record at home: zones with their two first records, and links without a row.
use Rattle.std.proofs.Common.{◌≡◌, ℕ, zero, suc, Bool, true, false, cond, not, ◌||◌, List, [], ◌∷◌, ◌++◌, map, filter, refl, sym, ap, subst, ◌∙◌, arith}
use Rattle.std.specs.Prelude.{All, IsTrue, Option, Some, None, flat_map}
use Rattle.std.specs.List.{list_any, AllByRecursion, IsDistinct}
use Rattle.std.proofs.lemmas.Map.Keys.{IsDistinct-head}
use Rattle.dnsname.specs.Names.{Labels, same_name, ends_in, is_name, IsName}
use Rattle.dnsname.proofs.Decisions.{is_name-Decides}
use Rattle.dnsname.proofs.Suffixes.{true-EndsIn, ends_in-length, ends_in-all}
use Rattle.rrset.specs.KeyedRows.{is_rising}
use Rattle.zoneupdate.specs.KeptZones.{ZoneKept, lies_under}
use Rattle.zoneupdate.specs.Zones.{ZoneState, new_zone, first_soa, first_ns, is_inside}
use Rattle.zoneupdate.proofs.Filters.{and-left, and-right, and-both, not-true, not_both, or-left, or-right}
use Rattle.zoneupdate.proofs.Homes.{is_inside-under}
use Rattle.zoneupdate.proofs.Owners.{same_name-itself}
use Rattle.zoneupdate.proofs.RecordSets.{set-put_rrs}
use Rattle.zoneupdate.proofs.SomeAndAll.{any_all, all_itself}
use Rattle.reversemap.specs.Reverse.{is_reverse_domain}
use Rattle.reversemap.specs.BothKinds.{IsApart, AreApart}
use Rattle.linkcache.specs.Links.{IsLink}
use Rattle.linkcache.specs.Rows.{names_of}
use Rattle.linkcache.specs.Sound.{AreLinkRows}
use Rattle.linkcache.specs.Within.{IsWithin}
use Rattle.history.specs.AtHome.{IsAtHome, named_zones, named_link, named_links}
use Rattle.history.specs.Homes.{clashes}
use Rattle.history.specs.declared.entry.HomeFault.{HomeFault}
use Rattle.history.specs.declared.entry.HomeFault.TheVariants.{Form}
use Rattle.history.specs.declared.entry.HomeKind.TheVariants as kinds
use Rattle.history.proofs.Distinct.{all-as, all-apart, distinct-apart, distinct-front}
use Rattle.history.proofs.TellingNames.{AreLinkNames}
use Rattle.history.proofs.Together.{IsFit, clashes-turned, not-under}
use Rattle.history.specs.Laws.{StartsAreAtHome}
use Rattle.history.specs.Kept.{HomesKept, state_of}
use Rattle.history.specs.Plans.{IsStart}
use Rattle.history.specs.States.{LinkState, home_names}
use Rattle.history.proofs.RowsAtHome.{inside-put_rrs}

-- ---- a home is its own home

none_under : (homes : List Labels) (apex : Labels) (b : Bool) → list_any (λ u. ends_in apex u) (filter (lies_under apex) homes) ≡ b → not b ≡ true
none_under homes apex false e = refl
none_under homes apex true e = any_all (λ u. ends_in apex u) (lies_under apex) (not true) wrong (filter (lies_under apex) homes) e (all_itself (lies_under apex) homes)
  where
    wrong : (u : Labels) → ends_in apex u ≡ true → lies_under apex u ≡ true → not true ≡ true
    wrong u ends under =
        let long = ends_in-length apex u ends in
        let same = ends_in-all u apex (and-left (ends_in u apex) (not (same_name u apex)) under) long in
        absurd (not_both (same_name u apex) same (not-true (same_name u apex) (and-right (ends_in u apex) (not (same_name u apex)) under)))

pub inside-itself : (homes : List Labels) (apex : Labels) → list_any (same_name apex) homes ≡ true → is_inside homes apex apex ≡ true
inside-itself homes apex is_home =
    is_inside-under homes apex (filter (lies_under apex) homes) (record { is_home = is_home; are_under = refl }) apex
    ∙ and-both (ends_in apex apex) (not (list_any (λ u. ends_in apex u) (filter (lies_under apex) homes))) (true-EndsIn apex apex ([], apex, refl, refl)) (none_under homes apex (list_any (λ u. ends_in apex u) (filter (lies_under apex) homes)) refl)

-- ---- the first records

pub at_home-new : (homes : List Labels) (apex : Labels) (serial : ℕ) (writable : Bool) → list_any (same_name apex) homes ≡ true → IsAtHome homes (new_zone apex serial writable)
at_home-new homes apex serial writable is_home =
    let inside = inside-itself homes apex is_home in
    record {
      set = set-put_rrs (first_soa apex serial ∷ first_ns apex ∷ []) [] refl;
      inside = inside-put_rrs homes apex (first_soa apex serial ∷ first_ns apex ∷ []) [] (inside, (inside, tt)) refl;
    }

abbrev pub IsNew : ZoneState → Type 0
IsNew z = (serial : ℕ) × (z ≡ new_zone z.apex serial z.writable)

at_home-start : (homes : List Labels) (zones : List ZoneState) → All IsNew zones → ((q : Labels → Bool) → list_any q (map (λ (z : ZoneState). z.apex) zones) ≡ true → list_any q homes ≡ true) → AllByRecursion (IsAtHome homes) zones
at_home-start homes [] new among = tt
at_home-start homes (z ∷ zones) new among =
    let others = map (λ (y : ZoneState). y.apex) zones in
    let (serial, is) = new 0 z (omega arith) in (
      subst (IsAtHome homes) (sym is) (at_home-new homes z.apex serial z.writable (among (same_name z.apex) (or-left (same_name z.apex z.apex) (list_any (same_name z.apex) others) (same_name-itself z.apex)))),
      at_home-start homes zones (λ k d h. new (suc k) d (omega arith)) (λ q h. among q (or-right (q z.apex) (list_any q others) h)),
    )

-- ---- a link without a row

-- a reverse domain that doesn't clash with the domain, and has the form of one, stands apart from it
pub reverse-apart : (domain reverse : Labels) → clashes (domain, kinds.Link) (reverse, kinds.Reverse) ≡ false → IsFit (reverse, kinds.Reverse) → IsApart domain reverse
reverse-apart domain reverse apart fit = record {
  form = formed (is_reverse_domain reverse) fit;
  over = not-under (domain, kinds.Link) (reverse, kinds.Reverse) refl apart;
  under = not-under (reverse, kinds.Reverse) (domain, kinds.Link) refl (clashes-turned (reverse, kinds.Reverse) (domain, kinds.Link) ∙ apart);
}
  where
    formed : (b : Bool) → cond {A = Option HomeFault} b None (Some Form) ≡ None → b ≡ true
    formed true e = refl
    formed false e = cc

reverses-apart : (domain : Labels) (reverses : List Labels) → AllByRecursion (λ y. clashes (domain, kinds.Link) y ≡ false) (map (λ r. (r, kinds.Reverse)) reverses) → AllByRecursion IsFit (map (λ r. (r, kinds.Reverse)) reverses) → AreApart domain reverses
reverses-apart domain [] apart fit = tt
reverses-apart domain (r ∷ reverses) apart fit = (reverse-apart domain r apart.0 fit.0, reverses-apart domain reverses apart.1 fit.1)

pub new-link : (link : LinkState) → AreLinkNames link.rules → IsDistinct clashes (named_link link) → AllByRecursion IsFit (named_link link) → link.rows ≡ [] → IsLink link
new-link link named apart fit none = record {
  name = (is_name-Decides link.rules.domain).0 named.0;
  reverses = all-as (λ n. IsTrue (is_name n)) IsName (λ n is. (is_name-Decides n).0 is) link.rules.reverses named.1;
  apart = reverses-apart link.rules.domain link.rules.reverses (IsDistinct-head clashes (link.rules.domain, kinds.Link) (map (λ r. (r, kinds.Reverse)) link.rules.reverses) apart) fit.1;
  order = ap is_rising none;
  sound = subst (AreLinkRows link.rules) (sym none) tt;
  within = subst (IsWithin link.rules) (sym none) (record { few = omega arith; owners = λ owner. omega arith });
}

links-start : (links : List LinkState) → All (λ (l : LinkState). l.rows ≡ []) links → AllByRecursion (λ l. AreLinkNames l.rules) links → IsDistinct clashes (named_links links) → AllByRecursion IsFit (named_links links) → AllByRecursion IsLink links
links-start [] new named apart fit = tt
links-start (l ∷ links) new named apart fit =
    let fits = all-apart IsFit (named_link l) (named_links links) fit in (
      new-link l named.0 (distinct-apart clashes (named_link l) (named_links links) apart) fits.0 (new 0 l (omega arith)),
      links-start links (λ k d h. new (suc k) d (omega arith)) named.1 (distinct-front clashes (named_link l) (named_links links) apart).1 fits.1,
    )

-- a start of homes that stand apart
pub start-home : StartsAreAtHome
start-home state start apart named = record {
  apart = apart;
  zones = at_home-start (home_names state) state.zones start.zones (λ q h. any-front q (map (λ (z : ZoneState). z.apex) state.zones) (flat_map (λ (l : LinkState). names_of l.rules) state.links) h);
  links =
      links-start state.links start.links named (distinct-front clashes (named_zones state.zones) (named_links state.links) apart.apart).1
      (all-apart IsFit (named_zones state.zones) (named_links state.links) apart.fit).1;
}
  where
    any-front : (q : Labels → Bool) (a b : List Labels) → list_any q a ≡ true → list_any q (a ++ b) ≡ true
    any-front q [] b h = cc
    any-front q (x ∷ a) b h = by (q x) refl h (λ more. any-front q a b more)
      where
        by : (t : Bool) → q x ≡ t → (t || list_any q a) ≡ true → (list_any q a ≡ true → list_any q (a ++ b) ≡ true) → (q x || list_any q (a ++ b)) ≡ true
        by true is h rest = or-left (q x) (list_any q (a ++ b)) is
        by false is h rest = or-right (q x) (list_any q (a ++ b)) (rest h)

-- homes of one new zone
pub one_zone-start : (before after : HomesKept) (zone : ZoneKept) → before ≡ record { zones = []; links = []; names = [] } → after ≡ record before { zones = before.zones ++ zone ∷ []; names = before.names ++ (zone.state.apex, kinds.Zone) ∷ [] } → IsNew zone.state
    → IsStart (state_of after)
one_zone-start before after zone none is new =
    subst (λ (homes : HomesKept). IsStart (state_of homes)) (sym (is ∙ ap (λ (homes : HomesKept). record homes { zones = homes.zones ++ zone ∷ []; names = homes.names ++ (zone.state.apex, kinds.Zone) ∷ [] }) none))
    (record { zones = only_one; links = λ k d h. absurd (omega arith); now = refl })
  where
    only_one : All IsNew (zone.state ∷ [])
    only_one zero d h = new
    only_one (suc k) d h = absurd (omega arith)

pub is_new : (zone : ZoneState) (apex : Labels) (serial : ℕ) (writable : Bool) → zone ≡ new_zone apex serial writable → IsNew zone
is_new zone apex serial writable is = (serial, is ∙ (λ i. new_zone (sym is i).apex serial (sym is i).writable))
