-- Zones as they are kept, and what an update is planned to change.
--     ZoneKept      a zone, and the nodes in which its records stand, which tell its room
--     IsKept state      what else every zone that is kept has
--     IsUnder homes apex under      the homes that lie under an apex
--     Judges state verdict judged      the verdict is that of the update step
--     IsPlanOf state changed      the keys are those that an accepted update changes
use Rattle.std.specs.Prelude.{◌≡◌, ℕ, ◌≤◌, Bool, not, ◌&&◌, List, length, filter, Result, Ok, Err, IsTrue}
use Rattle.std.specs.List.{list_any}
use Rattle.push_base.specs.Limits.{max_home_octets}
use Rattle.dnsname.specs.Names.{Labels, octets, same_name, ends_in}
use Rattle.rrset.specs.RecordSet.{RecordSet, changes}
use Rattle.rrset.specs.declared.record.Changed.{Changed}
use Rattle.rrset.specs.declared.record.Shown.{Shown}
use Rattle.nametable.specs.Nodes.{Nodes, HasRoomFor, keys_put}
use Rattle.dnswire.specs.declared.message.Update.{Update}
use Rattle.zoneupdate.specs.declared.plan.Verdict.{Verdict}
use Rattle.zoneupdate.specs.declared.plan.Verdict.TheVariants.{Refuse, Accept}
use Rattle.zoneupdate.specs.Zones.{ZoneState, is_zone}
use Rattle.zoneupdate.specs.Updates.{judged, is_within_limits}

-- a zone, and the nodes in which its records stand, of which callers need the room alone
pub record ZoneKept : Type 0 where
  pub state : ZoneState
  pub nodes : Nodes Shown

-- a zone within its limits; its name has at most 200 octets
pub record IsKept (state : ZoneState) : Type 0 where
  pub zone : IsTrue (is_zone state)
  pub limits : IsTrue (is_within_limits state.rows)
  pub short : length (octets state.apex) ≤ max_home_octets

-- a home lies under another, and isn't the same
abbrev pub lies_under : Labels → Labels → Bool
lies_under apex name = ends_in name apex && not (same_name name apex)

-- the apex is one of the homes, and these lie under it
pub record IsUnder (homes : List Labels) (apex : Labels) (under : List Labels) : Type 0 where
  pub is_home : IsTrue (list_any (same_name apex) homes)
  pub are_under : under ≡ filter (lies_under apex) homes

-- the verdict is that of the update step: its RCODE, or the keys that will be shown otherwise
abbrev pub Judges : ZoneState → Verdict → Result RecordSet ℕ → Type 0
Judges state (Refuse code) step = step ≡ Err code
Judges state (Accept changed) step = (rows : RecordSet) × (step ≡ Ok rows) × (changed ≡ changes state.rows rows)

-- there is room for all keys that an accepted plan puts
abbrev pub HasRoom : Nodes Shown → Verdict → Type 0
HasRoom nodes (Refuse code) = Unit {0}
HasRoom nodes (Accept changed) = HasRoomFor (keys_put changed) nodes

-- the update step leads from the zone to these rows, and the keys are those shown otherwise in them
pub record Leads (state : ZoneState) (changed : List Changed) (rows : RecordSet) : Type 0 where
  pub homes : List Labels
  pub update : Update
  pub step : judged homes state update ≡ Ok rows
  pub keys : changed ≡ changes state.rows rows

-- an update was accepted with these keys
abbrev pub IsPlanOf : ZoneState → List Changed → Type 0
IsPlanOf state changed = (rows : RecordSet) × Leads state changed rows
