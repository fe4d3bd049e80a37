use Rattle.browsing.proofs.Reactions.{Reacting}
use Rattle.browsing.proofs.hearing.react.Given as goal

abbrev pub decreases-steps : goal.decreases-steps
decreases-steps l = l.left

-- the steps so far lead to the whole
abbrev pub invariant-steps : goal.invariant-steps
invariant-steps l = Reacting l.fn.client l.left l.client
