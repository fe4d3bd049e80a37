-- Records by names, and their owners, which are counted.
--     owners_in rows      the owner of each row
--     AreOwners state rows      these are counted
--     HasPlacesToPut places change      what a change puts has an owner that can be counted
--     RecordsState      the rows, the nodes in which they stand, and the octets of names at which owners can be counted
--     HasRoomForChanges changed state      there is room for the keys that changes put
use Rattle.std.specs.Prelude.{◌≡◌, ℕ, ◌+◌, ◌<◌, ◌^◌, true, List, length, map, is_some}
use Rattle.std.specs.List.{AllByRecursion}
use Rattle.dnsname.specs.Names.{Labels}
use Rattle.rrset.specs.KeyedRows.{Rows}
use Rattle.rrset.specs.declared.record.Changed.{Changed}
use Rattle.rrset.specs.declared.record.Shown.{Shown}
use Rattle.nametable.specs.Nodes.{HasRoomFor, Nodes, keys_put}
use Rattle.recordindex.specs.Endings.{AreCounted, SuffixesState, HasRoomFor as HasPlacesFor}

abbrev pub owners_in : Rows Shown → List Labels
owners_in rows = map (λ e. e.0.owner) rows

abbrev pub AreOwners : SuffixesState → Rows Shown → Type 0
AreOwners state rows = AreCounted (owners_in rows) state

abbrev pub HasPlacesToPut : List (List ℕ) → Changed → Type 0
HasPlacesToPut places change = is_some change.after ≡ true → HasPlacesFor change.key.owner places

-- the rows, and, of which callers need the room alone, where they stand, and where owners can be counted
pub record RecordsState : Type 0 where
  pub rows : Rows Shown
  pub nodes : Nodes Shown
  pub places : List (List ℕ)

pub record HasRoomForChanges (changed : List Changed) (state : RecordsState) : Type 0 where
  pub keys : HasRoomFor (keys_put changed) state.nodes
  pub owners : AllByRecursion (HasPlacesToPut state.places) changed
  pub few : length state.rows + length changed < 2 ^ 63
