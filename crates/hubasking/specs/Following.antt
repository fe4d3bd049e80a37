-- How what links are asked follows the reasons for it, one step after the other.
--     LeadsAt, LeadFrom link sessions links before now      what is asked of a link now leads to what there will be reason to ask, as what was asked before does; of each link
--     StillTo place links askings      the rows of the first links that are reconfirmed weren't heard since
--     doubts_in askings      the rows of each link that were reconfirmed
--     AreStill links doubts, StillBut touched links doubts      none of them was heard since; none but of links that a call touched
--     EndsBut touched at links      of no link but those a row ends by a moment
--     HearsBut touched link read reasons      of no link but those a hearing says something
--     Rested later place sessions      the first sessions that ask nothing have no reasons
--     ClearsAt later place old new      the session of a place has none where it asks nothing
--     RefreshesAt hub link old new      rows of a link that were heard since, or went, aren't reconfirmed any more
use Rattle.std.specs.Prelude.{◌≡◌, ◌⊎◌, ℕ, ◌+◌, zero, suc, true, false, List, [], ◌∷◌, map, Option, Some, None, Result, Ok, Err, slice_get}
use Rattle.std.specs.List.{AllByRecursion, AllZip}
use Rattle.push_base.specs.Cases.{changed_at}
use Rattle.rrset.specs.declared.record.Hearing.{Hearing}
use Rattle.linkcache.specs.Links.{LinkState}
use Rattle.linkcache.specs.Rows.{at_moment}
use Rattle.linkask.specs.Reasons.{LinkAsking, Reconfirmed, still_reconfirmed}
use Rattle.linkreasons.specs.AllReasons.{AllReasons, KeepsBounds, askings_of, in_session, only_reasons, reasons_on, still_doubted, with_any_of}
use Rattle.linkreasons.specs.Changing.{names_at}
use Rattle.linkreasons.specs.declared.reason.Reason.{Reason}
use Rattle.pushserver.specs.Hubs.{state_now}
use Rattle.pushserver.specs.KeptHubs.{KeptHub}
use Rattle.pushserver.specs.declared.given.Why.{Why}
use Rattle.hubasking.specs.KeptReasons.{rests}
use Rattle.hubasking.specs.declared.following.Touched.{Touched}
use Rattle.hubasking.specs.declared.following.Touched.TheVariants.{Nothing, Link, Links}

pub record LeadsAt (link : ℕ) (sessions : List (ℕ × List Reason)) (l : LinkState) (before now : LinkAsking) : Type 0 where
  pub still : still_reconfirmed l.rows now.reconfirmed ≡ still_reconfirmed l.rows before.reconfirmed
  pub wanted : with_any_of (reasons_on link sessions (still_reconfirmed l.rows before.reconfirmed)) now.wanted ≡ with_any_of (reasons_on link sessions (still_reconfirmed l.rows before.reconfirmed)) before.wanted

abbrev pub LeadFrom : ℕ → List (ℕ × List Reason) → List LinkState → List LinkAsking → List LinkAsking → Type 0
LeadFrom link sessions [] [] [] = Unit {0}
LeadFrom link sessions (l ∷ ls) (b ∷ befores) (a ∷ askings) = LeadsAt link sessions l b a × LeadFrom (link + 1) sessions ls befores askings
LeadFrom link sessions _ _ _ = ⊥

abbrev pub StillTo : ℕ → List LinkState → List LinkAsking → Type 0
StillTo (suc place) (l ∷ ls) (a ∷ askings) = (still_reconfirmed l.rows a.reconfirmed ≡ a.reconfirmed) × StillTo place ls askings
StillTo _ _ _ = Unit {0}

abbrev pub Rested : KeptHub → ℕ → List (ℕ × List Reason) → Type 0
Rested later (suc place) (e ∷ es) = (rests later e.0 ≡ true → e.1 ≡ []) × Rested later place es
Rested later _ _ = Unit {0}

-- ---- rows that weren't heard since

abbrev pub doubts_in : List LinkAsking → List Reconfirmed
doubts_in askings = map (λ a. a.reconfirmed) askings

abbrev pub AreStill : List LinkState → List Reconfirmed → Type 0
AreStill links doubts = AllZip (λ l d. still_reconfirmed l.rows d ≡ d) links doubts

-- but those of one link
abbrev pub StillBeside : ℕ → List LinkState → List Reconfirmed → Type 0
StillBeside zero (l ∷ ls) (d ∷ ds) = AreStill ls ds
StillBeside (suc link) (l ∷ ls) (d ∷ ds) = (still_reconfirmed l.rows d ≡ d) × StillBeside link ls ds
StillBeside _ _ _ = Unit {0}

abbrev pub StillBut : Touched → List LinkState → List Reconfirmed → Type 0
StillBut Nothing links doubts = AreStill links doubts
StillBut (Link link) links doubts = StillBeside link links doubts
StillBut Links links doubts = Unit {0}

abbrev pub StaysAt : ℕ → Option LinkState → Type 0
StaysAt at None = Unit {0}
StaysAt at (Some l) = at_moment l.rows at ≡ l.rows

abbrev pub EndsBut : Touched → ℕ → List LinkState → Type 0
EndsBut Nothing at links = AllByRecursion (λ l. at_moment l.rows at ≡ l.rows) links
EndsBut (Link link) at links = ⊥
EndsBut Links at links = Unit {0}

-- those of a link of which a hearing says something
abbrev pub HearsBut : Touched → ℕ → Result Hearing Why → AllReasons → Type 0
HearsBut Nothing link (Ok hearing) reasons = names_at (slice_get reasons.links link) hearing.rrs ≡ false
HearsBut Nothing link (Err why) reasons = Unit {0}
HearsBut (Link other) link read reasons = other ≡ link
HearsBut Links link read reasons = ⊥

-- ---- steps

-- the reasons of a session go
pub record Clears (number : ℕ) (old new : AllReasons) : Type 0 where
  pub sessions : new.sessions ≡ in_session number (λ _. []) old.sessions
  pub askings : askings_of new ≡ only_reasons new.sessions (askings_of old)
  pub bounds : KeepsBounds old new

abbrev pub ClearsFound : KeptHub → Option (ℕ × List Reason) → AllReasons → AllReasons → Type 0
ClearsFound later None old new = new ≡ old
ClearsFound later (Some e) old new = ((rests later e.0 ≡ true → e.1 ≡ []) × (new ≡ old)) ⊎ ((rests later e.0 ≡ true) × Clears e.0 old new)

abbrev pub ClearsAt : KeptHub → ℕ → AllReasons → AllReasons → Type 0
ClearsAt later place old new = ClearsFound later (slice_get old.sessions place) old new

-- rows of a link that were heard since, or went, aren't reconfirmed any more
pub record Refreshes (link : ℕ) (l : LinkState) (old new : AllReasons) : Type 0 where
  pub sessions : new.sessions ≡ old.sessions
  pub askings : askings_of new ≡ only_reasons new.sessions (changed_at link (still_doubted l.rows) (askings_of old))
  pub bounds : KeepsBounds old new

abbrev pub RefreshesFound : ℕ → Option LinkState → AllReasons → AllReasons → Type 0
RefreshesFound link None old new = new ≡ old
RefreshesFound link (Some l) old new = Refreshes link l old new

abbrev pub RefreshesAt : KeptHub → ℕ → AllReasons → AllReasons → Type 0
RefreshesAt hub link old new = RefreshesFound link (slice_get (state_now hub).links link) old new
