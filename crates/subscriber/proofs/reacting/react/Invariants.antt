use Rattle.std.proofs.Common.{string_bytes}
use Rattle.subscriber.proofs.MessageTurns.{Reacting}
use Rattle.subscriber.proofs.reacting.react.Given as goal

abbrev pub decreases-steps : goal.decreases-steps
decreases-steps l = l.left

-- the steps so far lead to the whole
abbrev pub invariant-steps : goal.invariant-steps
invariant-steps l = Reacting l.fn.client l.fn.messages l.left l.client l.messages (string_bytes l.text)
