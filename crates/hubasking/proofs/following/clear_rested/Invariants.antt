use Rattle.hubasking.proofs.Clearing.{ClearedTo}
use Rattle.hubasking.proofs.following.clear_rested.Given as goal

abbrev pub invariant-sessions : goal.invariant-sessions
invariant-sessions l = ClearedTo l.hub l.fn.reasons l.reasons l.place
