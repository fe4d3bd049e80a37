use Rattle.std.proofs.Common.{◌≡◌, ◌+◌, ◌<◌, ◌^◌, length}
use Rattle.std.specs.List.{AllByRecursion}
use Rattle.rrset.specs.RecordSet.{with_changes}
use Rattle.rrset.specs.Tables.{HasLowerOwner}
use Rattle.nametable.specs.Nodes.{HasRoomFor, keys_put}
use Rattle.recordindex.specs.Endings.{room_of}
use Rattle.recordindex.specs.Owners.{AreOwners, HasPlacesToPut}
use Rattle.recordindex.proofs.changing.make_all.Given as goal

abbrev pub invariant-changes : goal.invariant-changes
invariant-changes g l = record {
  lower : AllByRecursion (λ c. HasLowerOwner c.key) l.change-iterator.rest.items;
  room : HasRoomFor (keys_put l.change-iterator.rest.items) l.index.nodes;
  places : AllByRecursion (HasPlacesToPut (room_of l.suffixes.kept)) l.change-iterator.rest.items;
  few : l.suffixes.total + length l.change-iterator.rest.items < 2 ^ 63;
  owners : AreOwners l.suffixes l.index.rows;
  rows : with_changes l.change-iterator.rest.items l.index.rows ≡ with_changes l.fn.changed.items l.fn.index.rows;
  steps : l.steps + length l.change-iterator.rest.items ≡ l.fn.steps + length l.fn.changed.items;
}
