-- What a plan answers, and which homes may stand together.
--     planned state entry      refused, idle, or all keys that will be shown otherwise
--     may_stand_together homes      each home was added without a fault
--     IsStart state      what a history begins with
use Rattle.std.specs.Prelude.{◌≡◌, ℕ, Bool, true, ◌&&◌, List, [], ◌∷◌, ◌++◌, Ok, Err, is_none, All, if◌then◌else◌}
use Rattle.rrset.specs.RecordSet.{changes}
use Rattle.rrset.specs.declared.record.Changed.{Changed}
use Rattle.zoneupdate.specs.Zones.{new_zone}
use Rattle.history.specs.Homes.{NamedHome, home_fault}
use Rattle.history.specs.Entries.{Concern, a_zone, concern}
use Rattle.history.specs.States.{State, updated, accepts_by, after_by, records}
use Rattle.history.specs.declared.entry.Entry.{Entry}

pub data Plan : Type 0 where
  refuse : ℕ → Plan
  idle : Plan
  accept : List Changed → Plan

-- an update that is refused, another entry that isn't accepted, or all keys that will be shown otherwise
abbrev pub planned_by : Entry → State → Concern → Plan
planned_by entry state (a_zone update) = elim (updated state update) [ Err code ↦ refuse code | Ok later ↦ accept (changes (records state) (records later)) ]
planned_by entry state homes = if accepts_by entry state homes then accept (changes (records state) (records (after_by entry state homes))) else idle

abbrev pub planned : State → Entry → Plan
planned state entry = planned_by entry state (concern entry)

-- homes, each of which was added to those before it without a fault
abbrev pub were_added : List NamedHome → List NamedHome → Bool
were_added before [] = true
were_added before (h ∷ hs) = is_none (home_fault before h) && were_added (before ++ h ∷ []) hs

abbrev pub may_stand_together : List NamedHome → Bool
may_stand_together homes = were_added [] homes

-- zones with their two first records, links without a row, and the moment 0
pub record IsStart (state : State) : Type 0 where
  pub zones : All (λ z. (serial : ℕ) × (z ≡ new_zone z.apex serial z.writable)) state.zones
  pub links : All (λ l. l.rows ≡ []) state.links
  pub now : state.now ≡ 0
