-- Links as they are kept.
--     LinkState      what a link shows by, and the rows of what it has heard
--     LinkKept      the same, with room for further rows and for the moments at which they end
--     HasRoom cs link      changes of rows take no memory
--     IsLink link      what always holds of a link
--     IsKept link moments      and of the moments at which its rows end
use Rattle.std.specs.Prelude.{ℕ, ◌≤◌, List, length, IsTrue}
use Rattle.std.specs.List.{AllByRecursion}
use Rattle.clockqueue.specs.Deadlines.{Deadlines}
use Rattle.dnsname.specs.Names.{IsName}
use Rattle.reversemap.specs.BothKinds.{AreApart}
use Rattle.rrset.specs.KeyedRows.{is_rising}
use Rattle.nametable.specs.Nodes.{Nodes, HasRoomFor}
use Rattle.rrset.specs.declared.record.Key.{Key}
use Rattle.linkcache.specs.Rows.{LinkRows}
use Rattle.linkcache.specs.Plans.{keys_put}
use Rattle.linkcache.specs.declared.plan.RowChange.{RowChange}
use Rattle.linkcache.specs.declared.row.HeardRow.{HeardRow}
use Rattle.linkcache.specs.declared.rules.LinkRules.{LinkRules}
use Rattle.linkcache.specs.Sound.{AreLinkRows}
use Rattle.linkcache.specs.Within.{IsWithin}
use Rattle.linkcache.specs.Ends.{AreEnds}

pub record LinkState : Type 0 where
  pub rules : LinkRules
  pub rows : LinkRows

-- a link, the names under which its rows stand, of which callers need the room alone, and how many new moments are sure to have room
pub record LinkKept : Type 0 where
  pub state : LinkState
  pub nodes : Nodes HeardRow
  pub spare : ℕ

-- there is room for the keys that changes put, and for as many moments as there are changes
pub record HasRoom (cs : List RowChange) (link : LinkKept) : Type 0 where
  pub keys : HasRoomFor (keys_put cs) link.nodes
  pub moments : length cs ≤ link.spare

-- the domain and the reverse domains are names that stand apart; keys rise, each row is one of a usable record, and they are few enough and not too large
pub record IsLink (link : LinkState) : Type 0 where
  pub name : IsName link.rules.domain
  pub reverses : AllByRecursion IsName link.rules.reverses
  pub apart : AreApart link.rules.domain link.rules.reverses
  pub order : IsTrue (is_rising link.rows)
  pub sound : AreLinkRows link.rules link.rows
  pub within : IsWithin link.rules link.rows

-- the moments are the ends of the rows
pub record IsKept (link : LinkState) (moments : Deadlines Key) : Type 0 where
  pub sound : IsLink link
  pub ends : AreEnds moments link.rows
