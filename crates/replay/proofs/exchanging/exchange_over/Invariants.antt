use Rattle.std.proofs.Common.{suc}
use Rattle.replay.proofs.exchanges.Rounds.{Rounds}
use Rattle.replay.proofs.exchanging.exchange_over.Given as goal

abbrev pub decreases-rounds : goal.decreases-rounds
decreases-rounds l = l.left

-- the rounds so far lead to the whole
abbrev pub invariant-rounds : goal.invariant-rounds
invariant-rounds l = Rounds l.fn.hub l.fn.session l.fn.octets (suc l.left) l.hub l.rest l.answer.items
