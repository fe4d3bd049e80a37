-- All records of homes that are kept, and those of one home that a question asks for.
use Rattle.std.proofs.Common.{◌≡◌, ℕ, zero, suc, List, [], ◌∷◌, map, fold, Option, Some, None, Result, Ok, Err, refl, sym, ap, ◌∙◌}
use Rattle.std.specs.Prelude.{slice_get, IfOk}
use Rattle.std.proofs.lemmas.List.Sums.{fold-append}
use Rattle.rrset.specs.RecordSet.{RecordSet, at_name, matching, union}
use Rattle.rrset.specs.declared.record.Rr.{Rr}
use Rattle.rrset.specs.declared.record.Question.{Question}
use Rattle.zoneupdate.specs.KeptZones.{ZoneKept}
use Rattle.zoneupdate.specs.Zones.{ZoneState}
use Rattle.linkcache.specs.Links.{LinkState, LinkKept}
use Rattle.linkcache.specs.Rows.{shown_rows}
use Rattle.history.specs.Kept.{HomesKept, states_at, at_moment, state_of}
use Rattle.history.specs.AtHome.{AreAtHome}
use Rattle.history.specs.Laws.{set_at}
use Rattle.history.specs.LinkSteps.{zone_rows, link_rows}
use Rattle.history.specs.States.{State, home_of, records}
use Rattle.history.specs.declared.entry.Home.{Home}
use Rattle.history.specs.declared.entry.Home.TheVariants as homes
use Rattle.history.proofs.HomeSets.{map-twice}
use Rattle.history.proofs.Present.{rrs_of, matching-at_name}
use Rattle.history.proofs.ShownAtHome.{at_name-home}

-- ---- all

zone-sets : (zones : List ZoneKept) → map (λ (z : ZoneKept). z.state.rows) zones ≡ map (λ (z : ZoneState). z.rows) (map (λ (z : ZoneKept). z.state) zones)
zone-sets zones = sym (map-twice (λ (z : ZoneKept). z.state) (λ (z : ZoneState). z.rows) zones)

link-sets : (links : List LinkKept) → map (λ (l : LinkKept). shown_rows l.state.rules l.state.rows) links ≡ map (λ (l : LinkState). shown_rows l.rules l.rows) (map (λ (l : LinkKept). l.state) links)
link-sets links = sym (map-twice (λ (l : LinkKept). l.state) (λ (l : LinkState). shown_rows l.rules l.rows) links)

pub records-united : (zones : List ZoneKept) (links : List LinkKept) (start first all : RecordSet) → start ≡ [] → first ≡ fold union start (map (λ (z : ZoneKept). z.state.rows) zones)
    → all ≡ fold union first (map (λ (l : LinkKept). shown_rows l.state.rules l.state.rows) links) → (t : ℕ) → all ≡ records (states_at zones links t)
records-united zones links start first all none zones_put links_put t =
    links_put ∙ (λ i. fold union ((zones_put ∙ (λ j. fold union (none j) (zone-sets zones j))) i) (link-sets links i))
    ∙ sym (fold-append union [] (map (λ (z : ZoneState). z.rows) (map (λ (z : ZoneKept). z.state) zones)) (map (λ (l : LinkState). shown_rows l.rules l.rows) (map (λ (l : LinkKept). l.state) links)))

-- ---- those that a question asks for

-- those of all records are those of the home
matching-home : (state : State) (question : Question) → AreAtHome state → matching question (set_at state (home_of state question.name)) ≡ matching question (records state)
matching-home state question home =
    sym (matching-at_name question (set_at state (home_of state question.name))) ∙ ap (matching question) (sym (at_name-home state home question.name)) ∙ matching-at_name question (records state)

set-zone : (zones : List ZoneKept) (i : ℕ) → zone_rows (slice_get zones i) ≡ elim (slice_get (map (λ (z : ZoneKept). z.state) zones) i) as (λ _. RecordSet) [ None ↦ [] | Some z ↦ z.rows ]
set-zone [] i = refl
set-zone (z ∷ zones) zero = refl
set-zone (z ∷ zones) (suc i) = set-zone zones i

set-link : (links : List LinkKept) (i : ℕ) → link_rows (slice_get links i) ≡ elim (slice_get (map (λ (l : LinkKept). l.state) links) i) as (λ _. RecordSet) [ None ↦ [] | Some l ↦ shown_rows l.rules l.rows ]
set-link [] i = refl
set-link (l ∷ links) zero = refl
set-link (l ∷ links) (suc i) = set-link links i

-- what a home shows that is kept
abbrev pub kept_set : HomesKept → Option Home → RecordSet
kept_set kept None = []
kept_set kept (Some (homes.Zone i)) = zone_rows (slice_get kept.zones i)
kept_set kept (Some (homes.Link i)) = link_rows (slice_get kept.links i)

set-kept : (kept : HomesKept) (t : ℕ) (home : Option Home) → kept_set kept home ≡ set_at (at_moment kept t) home
set-kept kept t None = refl
set-kept kept t (Some (homes.Zone i)) = set-zone kept.zones i
set-kept kept t (Some (homes.Link i)) = set-link kept.links i

pub matching-kept : (homes : HomesKept) (question : Question) (home : Option Home) (rrs : List Rr) → home ≡ home_of (state_of homes) question.name → rrs ≡ rrs_of (matching question (kept_set homes home))
    → (t : ℕ) → AreAtHome (at_moment homes t) → rrs ≡ rrs_of (matching question (records (at_moment homes t)))
matching-kept homes question home rrs is found t at_home =
    found ∙ ap (λ set. rrs_of (matching question set)) (set-kept homes t home ∙ ap (set_at (at_moment homes t)) is) ∙ ap rrs_of (matching-home (at_moment homes t) question at_home)

pub matching-table : {E : Type 0} (question : Question) (rows found : RecordSet) (r : Result (List Rr) E) → found ≡ at_name question.name rows → IfOk r (λ rrs. rrs ≡ rrs_of (matching question found)) → IfOk r (λ rrs. rrs ≡ rrs_of (matching question rows))
matching-table question rows found (Err e) is all = tt
matching-table question rows found (Ok rrs) is all = all ∙ ap (λ set. rrs_of (matching question set)) is ∙ ap rrs_of (matching-at_name question rows)

-- ---- what is told of lists is told of the homes

pub all-kept : {V E : Type 0} (items : V → RecordSet) (homes : HomesKept) (zones : List ZoneKept) (links : List LinkKept) (r : Result V E) → zones ≡ homes.zones → links ≡ homes.links
    → IfOk r (λ all. (t : ℕ) → items all ≡ records (states_at zones links t)) → IfOk r (λ all. (t : ℕ) → items all ≡ records (at_moment homes t))
all-kept items homes zones links (Err e) zones_is links_is all = tt
all-kept items homes zones links (Ok v) zones_is links_is all = λ t. all t ∙ (λ i. records (states_at (zones_is i) (links_is i) t))

-- the records that a zone or a link gives
pub matching-zone : {E : Type 0} (kept : HomesKept) (zones : List ZoneKept) (question : Question) (i : ℕ) (home : Option Home) (r : Result (List Rr) E) → zones ≡ kept.zones → home ≡ home_of (state_of kept) question.name → home ≡ Some (homes.Zone i)
    → IfOk r (λ rrs. rrs ≡ rrs_of (matching question (zone_rows (slice_get zones i)))) → IfOk r (λ rrs. (t : ℕ) → AreAtHome (at_moment kept t) → rrs ≡ rrs_of (matching question (records (at_moment kept t))))
matching-zone kept zones question i home (Err e) zones_is is at found = tt
matching-zone kept zones question i home (Ok rrs) zones_is is at found = matching-kept kept question (Some (homes.Zone i)) rrs (sym at ∙ is) (found ∙ ap (λ zs. rrs_of (matching question (zone_rows (slice_get zs i)))) zones_is)

pub matching-link : {E : Type 0} (kept : HomesKept) (links : List LinkKept) (question : Question) (i : ℕ) (home : Option Home) (r : Result (List Rr) E) → links ≡ kept.links → home ≡ home_of (state_of kept) question.name → home ≡ Some (homes.Link i)
    → IfOk r (λ rrs. rrs ≡ rrs_of (matching question (link_rows (slice_get links i)))) → IfOk r (λ rrs. (t : ℕ) → AreAtHome (at_moment kept t) → rrs ≡ rrs_of (matching question (records (at_moment kept t))))
matching-link kept links question i home (Err e) links_is is at found = tt
matching-link kept links question i home (Ok rrs) links_is is at found = matching-kept kept question (Some (homes.Link i)) rrs (sym at ∙ is) (found ∙ ap (λ ls. rrs_of (matching question (link_rows (slice_get ls i)))) links_is)
