-- A hub begins.
use Rattle.history.specs.Kept.{state_of}
use Rattle.pushserver.specs.PlainHubs.{new_hub}
use Rattle.hubasking.proofs.Beginning.{begins-asking, begins-kept}
use Rattle.hubasking.proofs.hub.Hub.new.Goals as goal

pub invariant_of-result : goal.invariant_of-result
invariant_of-result c = begins-kept c.args.homes c.args.timers c.in_ok-hub.hub c.in_ok-reasons.reasons c.in_ok-links.links (new_hub (state_of c.args.homes) c.args.timers) c.in_ok-hub.ensures.kept c.in_ok-hub.ensures.stands c.in_ok-links.ensures c.in_ok-reasons.ensures

pub returns-clause-kept : goal.returns-clause-kept
returns-clause-kept c = begins-asking c.args.homes c.args.timers c.in_ok-hub.hub c.in_ok-reasons.reasons c.in_ok-links.links c.in_ok-hub.ensures.kept c.in_ok-links.ensures c.in_ok-reasons.ensures
