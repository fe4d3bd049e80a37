use Rattle.std.proofs.Common.{suc}
use Rattle.replay.proofs.steps.StepTurns.{Stepping}
use Rattle.replay.proofs.stepping.step_on.Given as goal

abbrev pub decreases-steps : goal.decreases-steps
decreases-steps l = l.left

-- the steps so far lead to the whole
abbrev pub invariant-steps : goal.invariant-steps
invariant-steps l = Stepping l.fn.client (suc l.left) l.client
