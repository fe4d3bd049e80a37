use Rattle.std.proofs.Common.{suc}
use Rattle.pushserver.specs.Simulation.{GivesStand}
use Rattle.replay.specs.KeptExchanges.{noted_if}
use Rattle.replay.proofs.exchanges.Emitting.{Turning}
use Rattle.replay.proofs.exchanging.emit.Given as goal

abbrev pub decreases-turns : goal.decreases-turns
decreases-turns l = l.left

-- what was given so far leads to the whole
abbrev pub invariant-turns : goal.invariant-turns
invariant-turns l = record {
  law : GivesStand;
  turning : Turning l.fn.most l.fn.hub l.fn.session (suc l.left) l.budget l.fn.octets.items (noted_if l.fn.notes l.fn.filled.items) l.hub l.octets.items (noted_if l.fn.notes l.filled.items) l.reacted;
}
