use Rattle.std.proofs.Common.{suc, length, ◌≤◌}
use Rattle.replay.proofs.steps.DeliveryTurns.{Delivering}
use Rattle.replay.proofs.stepping.deliver.Given as goal

abbrev pub decreases-rounds : goal.decreases-rounds
decreases-rounds l = l.left

-- the rounds so far lead to the whole
abbrev pub invariant-rounds : goal.invariant-rounds
invariant-rounds l = record {
  so_far : Delivering l.fn.client l.fn.octets (suc l.left) l.client l.rest;
  shorter : length l.rest ≤ length l.fn.octets;
}
