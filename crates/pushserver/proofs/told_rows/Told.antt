-- What a tellable state shows is told: at each name, the records of its home.
--     RowsTell rows, ZonesTell zones      rows of a zone, and of all zones, that can be told
--     tellable-told      what tellable homes show together is told
use Rattle.std.proofs.Common.{◌≡◌, ℕ, zero, suc, ◌≤◌, Bool, true, false, cond, leb, List, [], ◌∷◌, filter, Option, Some, None, refl, sym, subst, le-leb}
use Rattle.std.specs.Prelude.{slice_get, IsTrue}
use Rattle.std.specs.List.{list_all, AllByRecursion}
use Rattle.push_base.specs.Limits.{max_octets_at_name}
use Rattle.dnsname.specs.Names.{Labels, same_name}
use Rattle.rrset.specs.RecordSet.{RecordSet, is_record_set, at_name, size_of}
use Rattle.rrset.specs.declared.record.Key.{Key}
use Rattle.rrset.specs.declared.record.Shown.{Shown}
use Rattle.dsotlv.specs.Notices.{last_ttl}
use Rattle.coalesce.specs.Laws.{is_sent_so, is_side, can_be_sent}
use Rattle.zoneupdate.specs.Zones.{ZoneState}
use Rattle.zoneupdate.proofs.Filters.{and-left, and-right, and-both}
use Rattle.zoneupdate.proofs.RecordSets.{set-only}
use Rattle.linkcache.specs.Links.{LinkState, IsLink}
use Rattle.linkcache.specs.Rows.{shown_rows}
use Rattle.linkcache.proofs.ShownSizes.{shown_fits}
use Rattle.history.specs.States.{State, home_names, home_of, records}
use Rattle.history.specs.AtHome.{IsAtHome}
use Rattle.history.specs.Laws.{set_at}
use Rattle.history.specs.declared.entry.Home.{Home}
use Rattle.history.specs.declared.entry.Home.TheVariants as homes
use Rattle.history.proofs.ShownAtHome.{set-records, at_name-home}
use Rattle.pushserver.specs.Rows.{AreTold, is_tellable, IsTellable}
use Rattle.pushserver.proofs.told_rows.Fitting.{HaveRoom, tellable-parts}
use Rattle.pushserver.proofs.told_rows.HeardRows.{AreHeard, link-shows}

-- ---- one zone

-- the rows of a zone can be told
pub record RowsTell (rows : RecordSet) : Type 0 where
  pub set : is_record_set rows ≡ true
  pub tellable : list_all is_tellable rows ≡ true
  pub room : HaveRoom rows

pub sent-from : (name : Labels) (e : Key × Shown) → same_name name e.0.owner ≡ true → is_tellable e ≡ true → is_sent_so name e ≡ true
sent-from name e at h =
    let both = tellable-parts e h in
    let is = both.0 in
    and-both _ _ (and-both _ _ (and-both _ _ (and-both _ _ (and-both _ _ (and-both _ _ at is.owner) is.class) is.width) is.kind) is.shape) both.1

ttl-from : (e : Key × Shown) → is_tellable e ≡ true → leb e.1.ttl last_ttl ≡ true
ttl-from e h = (tellable-parts e h).0.ttl

-- what follows of the elements that pass a test holds of those that are picked out by it
all-picked : {X : Type 0} (f p g : X → Bool) → ((x : X) → p x ≡ true → f x ≡ true → g x ≡ true) → (xs : List X) → list_all f xs ≡ true → list_all g (filter p xs) ≡ true
all-picked f p g follows [] h = refl
all-picked {X} f p g follows (x ∷ xs) h = by (p x) refl (all-picked f p g follows xs (and-right (f x) (list_all f xs) h))
  where
    by : (b : Bool) → p x ≡ b → list_all g (filter p xs) ≡ true → list_all g (cond b (x ∷ filter p xs) (filter p xs)) ≡ true
    by true is rest = and-both (g x) (list_all g (filter p xs)) (follows x is (and-left (f x) (list_all f xs) h)) rest
    by false is rest = rest

abbrev IsTold : Labels → RecordSet → Type 0
IsTold name rows = IsTrue (is_side name rows) × IsTrue (can_be_sent rows)

-- records that can be told, of which those of the name are a set with room
rows-told : (name : Labels) (rows : RecordSet) → is_record_set (at_name name rows) ≡ true → list_all is_tellable rows ≡ true → size_of (at_name name rows) ≤ max_octets_at_name → IsTold name (at_name name rows)
rows-told name rows set tellable room = (
  and-both (is_record_set (at_name name rows)) (list_all (is_sent_so name) (at_name name rows)) set
      (all-picked is_tellable (λ e. same_name name e.0.owner) (is_sent_so name) (sent-from name) rows tellable),
  and-both (list_all (λ e. leb e.1.ttl last_ttl) (at_name name rows)) (leb (size_of (at_name name rows)) max_octets_at_name)
      (all-picked is_tellable (λ e. same_name name e.0.owner) (λ e. leb e.1.ttl last_ttl) (λ e _. ttl-from e) rows tellable)
      (le-leb _ _ room),
)

none-told : (name : Labels) → IsTold name (at_name name [])
none-told name = (refl, refl)

-- ---- all zones

abbrev pub ZonesTell : List ZoneState → Type 0
ZonesTell zones = AllByRecursion (λ z. RowsTell z.rows) zones

zones-tell : (homes : List Labels) (zones : List ZoneState) → AllByRecursion (IsAtHome homes) zones → AllByRecursion (λ z. IsTrue (list_all is_tellable z.rows)) zones
    → AllByRecursion (λ z. (name : Labels) → size_of (at_name name z.rows) ≤ max_octets_at_name) zones → ZonesTell zones
zones-tell homes [] home rows sizes = tt
zones-tell homes (z ∷ zones) home rows sizes = (record { set = home.0.set; tellable = rows.0; room = sizes.0 }, zones-tell homes zones home.1 rows.1 sizes.1)

pub told-zones : (state : State) → IsTellable state → ZonesTell state.zones
told-zones state is = zones-tell (home_names state) state.zones is.home.zones is.rows is.sizes

pub tell-rows : (zones : List ZoneState) → ZonesTell zones → AllByRecursion (λ z. IsTrue (list_all is_tellable z.rows)) zones
tell-rows [] tell = tt
tell-rows (z ∷ zones) tell = (tell.0.tellable, tell-rows zones tell.1)

pub tell-sizes : (zones : List ZoneState) → ZonesTell zones → AllByRecursion (λ z. (name : Labels) → size_of (at_name name z.rows) ≤ max_octets_at_name) zones
tell-sizes [] tell = tt
tell-sizes (z ∷ zones) tell = (tell.0.room, tell-sizes zones tell.1)

tell-at : (zones : List ZoneState) → ZonesTell zones → (i : ℕ) (z : ZoneState) → slice_get zones i ≡ Some z → RowsTell z.rows
tell-at [] tell zero z e = absurd cc
tell-at [] tell (suc i) z e = absurd cc
tell-at (y ∷ zones) tell zero z e = let same : y ≡ z = cc in subst (λ (y : ZoneState). RowsTell y.rows) same tell.0
tell-at (y ∷ zones) tell (suc i) z e = tell-at zones tell.1 i z e

-- ---- a link

-- a link whose rows are as datagrams bring them
record LinkTells (link : LinkState) : Type 0 where
  pub tellable : list_all is_tellable (shown_rows link.rules link.rows) ≡ true
  pub room : HaveRoom (shown_rows link.rules link.rows)

link-tells : (links : List LinkState) → AllByRecursion IsLink links → AreHeard links → (i : ℕ) (l : LinkState) → slice_get links i ≡ Some l → LinkTells l
link-tells [] are heard zero l e = absurd cc
link-tells [] are heard (suc i) l e = absurd cc
link-tells (k ∷ links) are heard zero l e =
    let same : k ≡ l = cc in
    subst LinkTells same (record { tellable = link-shows k are.0 heard.0; room = shown_fits k.rules k.rows are.0.apart are.0.sound are.0.within })
link-tells (k ∷ links) are heard (suc i) l e = link-tells links are.1 heard.1 i l e

-- ---- each home

module _ (state : State) (is : IsTellable state) (name : Labels) where
  abbrev shown_of_home : Option Home → RecordSet
  shown_of_home home = at_name name (set_at state home)

  home-told : (home : Option Home) → is_record_set (shown_of_home home) ≡ true → IsTold name (shown_of_home home)
  home-told None set = none-told name
  home-told (Some (homes.Zone i)) set = by (slice_get state.zones i) refl set
    where
      by : (o : Option ZoneState) → slice_get state.zones i ≡ o → is_record_set (at_name name (elim o as (λ _. RecordSet) [ None ↦ [] | Some z ↦ z.rows ])) ≡ true
          → IsTold name (at_name name (elim o as (λ _. RecordSet) [ None ↦ [] | Some z ↦ z.rows ]))
      by None e set = none-told name
      by (Some z) e set = let tell = tell-at state.zones (told-zones state is) i z e in rows-told name z.rows set tell.tellable (tell.room name)
  home-told (Some (homes.Link i)) set = by (slice_get state.links i) refl set
    where
      by : (o : Option LinkState) → slice_get state.links i ≡ o → is_record_set (at_name name (elim o as (λ _. RecordSet) [ None ↦ [] | Some l ↦ shown_rows l.rules l.rows ])) ≡ true
          → IsTold name (at_name name (elim o as (λ _. RecordSet) [ None ↦ [] | Some l ↦ shown_rows l.rules l.rows ]))
      by None e set = none-told name
      by (Some l) e set = let tell = link-tells state.links is.home.links is.heard i l e in rows-told name (shown_rows l.rules l.rows) set tell.tellable (tell.room name)

  told-at : IsTold name (at_name name (records state))
  told-at =
      let same = at_name-home state is.home name in
      let set = set-only (λ key. same_name name key.owner) (records state) (set-records state is.home) in
      subst (IsTold name) (sym same) (home-told (home_of state name) (subst (λ (rows : RecordSet). is_record_set rows ≡ true) same set))

pub tellable-told : (state : State) → IsTellable state → AreTold (records state)
tellable-told state is name = told-at state is name
