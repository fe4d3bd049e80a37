use Rattle.std.proofs.Common.{◌≡◌, ◌+◌, ◌≤◌, length}
use Rattle.coalesce.specs.Waiting.{CanBePacked, names_waiting, nets_in}
use Rattle.coalesce.proofs.Pushing.{IsAhead}
use Rattle.coalesce.proofs.push_front.front_of.Given as goal

abbrev pub invariant-names : goal.invariant-names
invariant-names g l = record {
  can : CanBePacked l.index.rows (names_waiting l.rest);
  within : length l.rest ≤ length l.fn.names;
  ahead : IsAhead (nets_in l.questions l.index.rows (names_waiting l.fn.names)) (nets_in l.questions l.index.rows (names_waiting l.rest)) l.size;
  counted : l.count ≡ length l.fn.names;
  later : l.fn.steps ≤ l.steps;
  most : l.steps + length l.rest ≤ l.fn.steps + length l.fn.names;
}

abbrev pub decreases-names : goal.decreases-names
decreases-names g l = length l.rest
