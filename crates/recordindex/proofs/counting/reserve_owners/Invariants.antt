use Rattle.std.proofs.Common.{◌≡◌, List, take}
use Rattle.std.specs.List.{AllByRecursion}
use Rattle.dnsname.specs.Names.{Labels}
use Rattle.recordindex.specs.Endings.{AreCounted, room_of}
use Rattle.recordindex.specs.Owners.{HasPlacesToPut}
use Rattle.recordindex.proofs.counting.reserve_owners.Given as goal

abbrev pub invariant-changes : goal.invariant-changes
invariant-changes l = record {
  owners : (owners : List Labels) → AreCounted owners l.fn.suffixes → AreCounted owners l.suffixes;
  total : l.suffixes.total ≡ l.fn.suffixes.total;
  room : (owners : List Labels) → AreCounted owners l.fn.suffixes → AllByRecursion (HasPlacesToPut (room_of l.suffixes.kept)) (take l.change-index l.changed);
}
