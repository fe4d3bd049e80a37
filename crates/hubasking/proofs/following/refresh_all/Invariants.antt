use Rattle.pushserver.specs.Hubs.{state_now}
use Rattle.hubasking.proofs.Refreshing.{RefreshedTo}
use Rattle.hubasking.proofs.following.refresh_all.Given as goal

abbrev pub invariant-links : goal.invariant-links
invariant-links l = RefreshedTo (state_now l.hub).links l.fn.reasons l.reasons l.link
