use Rattle.std.proofs.Common.{◌≡◌, take}
use Rattle.recordindex.specs.Owners.{AreOwners}
use Rattle.recordindex.proofs.counting.count_owners.Given as goal

abbrev pub invariant-rows : goal.invariant-rows
invariant-rows l = record {
  owners : AreOwners l.suffixes (take l.row-index l.rows);
  total : l.suffixes.total ≡ l.row-index;
}
