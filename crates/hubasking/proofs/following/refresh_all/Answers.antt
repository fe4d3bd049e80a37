-- One link after the other is refreshed.
use Rattle.std.proofs.Common.{ℕ, ◌≤◌, subst}
use Rattle.pushserver.specs.Hubs.{state_now}
use Rattle.hubasking.proofs.Refreshing.{refresh-begins, refresh-turn, refresh-ends}
use Rattle.hubasking.proofs.following.refresh_all.Goals as goal

pub links-init : goal.links-init
links-init c = refresh-begins (state_now c.args.hub.now).links c.args.reasons.now c.requires.bounds

pub links-preserved : goal.links-preserved
links-preserved c =
    refresh-turn c.reasons_are_followed.ensures.fewer (state_now c.args.hub.now).links c.args.reasons.now c.links.reasons c.refresh_at.new.reasons c.links.link c.links.invariant c.refresh_at.ensures

pub returns-clause-sessions : goal.returns-clause-sessions
returns-clause-sessions c = c.links.invariant.sessions

pub returns-clause-leads : goal.returns-clause-leads
returns-clause-leads c = c.links.invariant.leads

pub returns-clause-links : goal.returns-clause-links
returns-clause-links c = refresh-ends (state_now c.args.hub.now).links c.args.reasons.now c.links.reasons c.links.link (subst (λ (n : ℕ). n ≤ c.links.link) c.links-link-end.ensures c.links-test.false) c.links.invariant
