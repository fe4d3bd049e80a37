-- Homes and their past as they are kept.
--     HomesKept      zones and links, and the names of all
--     at_moment homes moment, state_of homes      the state that they are at a moment, and at the moment 0
--     Past      a start state with its number, and the entries since
--     state_now past, point_of past      the state after all entries; how many there ever were
--     longer entry past, forgotten count past      an entry is made; the oldest are forgotten
--     has_room past from size      one more fits behind the entries from a point on
--     Appends keep old entry new      an entry is made, and none from a point on is forgotten
--     IsPastOf start history past      the past stands for a history
--     held_for state entry      the state that a plan which is held leads to
--     GivesFault result fault      what adding a home answers
--     HasNoRow link      there is such a link, and it has heard nothing
use Rattle.std.specs.Prelude.{◌≡◌, ℕ, ◌+◌, ◌-◌, ◌≤◌, Bool, true, List, [], ◌∷◌, ◌++◌, map, drop, length, Option, Some, None, Result, Ok, Err, IsTrue, is_some, if◌then◌else◌}
use Rattle.rrset.specs.RecordSet.{RecordSet}
use Rattle.zoneupdate.specs.KeptZones.{ZoneKept}
use Rattle.linkcache.specs.Links.{LinkKept}
use Rattle.history.specs.Homes.{NamedHome}
use Rattle.history.specs.States.{State, LinkState, state_at, records, accepts, after, entry_size, journal_has_room}
use Rattle.history.specs.Totals.{totals, and_one}
use Rattle.history.specs.Plans.{Plan, refuse, idle, accept}
use Rattle.history.specs.declared.entry.Entry.{Entry}
use Rattle.history.specs.declared.entry.Totals.{Totals}
use Rattle.history.specs.declared.entry.HomeFault.{HomeFault}
use Rattle.history.specs.declared.entry.HomeFault.TheVariants.{NoMemory}
use Rattle.history.specs.declared.plan.Planned.{Planned}
use Rattle.history.specs.declared.plan.Planned.TheVariants as plans

-- zones and links, each in the order in which they were added, and the names of all in that order
pub record HomesKept : Type 0 where
  pub zones : List ZoneKept
  pub links : List LinkKept
  pub names : List NamedHome

-- the state that zones and links are at a moment
abbrev pub states_at : List ZoneKept → List LinkKept → ℕ → State
states_at zones links moment = record { zones = map (λ z. z.state) zones; links = map (λ l. l.state) links; now = moment }

abbrev pub at_moment : HomesKept → ℕ → State
at_moment homes moment = states_at homes.zones homes.links moment

abbrev pub state_of : HomesKept → State
state_of homes = at_moment homes 0

-- a start state with its number, the entries since, and how many entries of each group there ever were
pub record Past : Type 0 where
  pub start : State
  pub number : ℕ
  pub history : List Entry
  pub counts : Totals

-- the state after all entries
abbrev pub state_now : Past → State
state_now past = state_at past.start past.history (length past.history)

-- the records that are shown now
abbrev pub records_now : Past → RecordSet
records_now past = records (state_now past)

-- the newest point: how many entries there ever were
abbrev pub point_of : Past → ℕ
point_of past = past.number + length past.history

-- an entry is made
abbrev pub longer : Entry → Past → Past
longer entry past = record past { history = past.history ++ entry ∷ []; counts = and_one entry past.counts }

-- so many of the oldest entries are forgotten: the start is the state behind them
abbrev pub forgotten : ℕ → Past → Past
forgotten count past = record past { start = state_at past.start past.history count; number = past.number + count; history = drop count past.history }

-- the entries from a point on, and one more of a size, are within the two numbers
abbrev pub has_room : Past → ℕ → ℕ → Bool
has_room past from size = journal_has_room (drop (from - past.number) past.history) size

-- an entry is made, none from a point on is forgotten, and those that are left are within the two numbers
pub record Appends (keep : ℕ) (old : Past) (entry : Entry) (new : Past) : Type 0 where
  pub count : ℕ
  pub within : old.number + count ≤ keep
  pub is : new ≡ forgotten count (longer entry old)
  pub fits : journal_has_room (drop count old.history) (entry_size entry) ≡ true

-- the past stands for a history: its start is the state at its number, its entries are those from there on, and all were counted
pub record IsPastOf (start : State) (history : List Entry) (past : Past) : Type 0 where
  pub begins : past.number ≤ length history
  pub start_is : past.start ≡ state_at start history past.number
  pub entries : past.history ≡ drop past.number history
  pub counts_are : past.counts ≡ totals history

-- the state that an entry leads to, if it is accepted
abbrev pub held_for : State → Entry → Option State
held_for state entry = if accepts state entry then Some (after state entry) else None

-- a past, and the state that the plan which is held leads to
pub record PointsKept : Type 0 where
  pub past : Past
  pub held : Option State

-- the plan of this entry is held, and accepts it
abbrev pub IsHeld : PointsKept → Entry → Type 0
IsHeld points entry = (points.held ≡ held_for (state_now points.past) entry) × IsTrue (is_some points.held)

-- what a plan answers
abbrev pub told_plan : Plan → Planned
told_plan (refuse code) = plans.Refuse code
told_plan idle = plans.Idle
told_plan (accept changed) = plans.Accept changed

-- what adding a home answers: its fault, always where it has one; memory is wanted only where it has none
abbrev pub GivesFault : {X : Type 0} → Result X HomeFault → Option HomeFault → Type 0
GivesFault (Ok done) fault = fault ≡ None
GivesFault (Err NoMemory) fault = fault ≡ None
GivesFault (Err other) fault = fault ≡ Some other

-- there is such a link, and it has heard nothing
abbrev pub HasNoRow : Option LinkState → Type 0
HasNoRow None = ⊥
HasNoRow (Some link) = link.rows ≡ []
