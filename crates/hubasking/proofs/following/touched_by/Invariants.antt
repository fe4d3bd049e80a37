use Rattle.pushserver.specs.Hubs.{state_now}
use Rattle.hubasking.proofs.Touching.{StayTo}
use Rattle.hubasking.proofs.following.touched_by.Given as goal

abbrev pub invariant-links : goal.invariant-links
invariant-links l = StayTo l.at l.link (state_now l.hub).links
