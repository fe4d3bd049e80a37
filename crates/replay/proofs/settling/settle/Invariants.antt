use Rattle.std.proofs.Common.{suc}
use Rattle.replay.specs.KeptWorlds.{seat_kept}
use Rattle.replay.proofs.passings.Settlings.{Settling}
use Rattle.replay.proofs.settling.settle.Given as goal

-- the rounds so far lead to the whole
abbrev pub invariant-rounds : goal.invariant-rounds
invariant-rounds l = Settling l.fn.session l.fn.hub (seat_kept l.fn.seat) (suc l.left) l.hub (seat_kept l.seat) l.over

abbrev pub decreases-rounds : goal.decreases-rounds
decreases-rounds l = l.left
