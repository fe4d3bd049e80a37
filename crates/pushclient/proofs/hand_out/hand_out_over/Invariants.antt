use Rattle.std.proofs.Common.{◌≤◌, ◌^◌, ◌-◌, length}
use Rattle.pushclient.proofs.OutputTurns.{HandingOut}
use Rattle.pushclient.proofs.hand_out.hand_out_over.Given as goal

-- no vector has as many octets
abbrev pub decreases-pieces : goal.decreases-pieces
decreases-pieces l = 2 ^ 63 - length l.octets.items

-- the pieces so far, and what is left to send
abbrev pub invariant-pieces : goal.invariant-pieces
invariant-pieces l = record {
  so_far : HandingOut l.fn.client l.client l.octets.items;
  wide : 1 ≤ length l.buffer;
}
