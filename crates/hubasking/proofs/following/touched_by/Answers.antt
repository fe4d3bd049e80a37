-- One link after the other is asked when a row of it ends.
use Rattle.std.proofs.Common.{ℕ, ◌≤◌, length, sym, subst, ◌∙◌}
use Rattle.std.specs.Prelude.{slice_get}
use Rattle.history.specs.States.{State}
use Rattle.pushserver.specs.Hubs.{state_now}
use Rattle.hubasking.specs.Following.{StaysAt}
use Rattle.hubasking.specs.KeptReasons.{MatchesLink}
use Rattle.hubasking.proofs.Clearing.{zip-length}
use Rattle.hubasking.proofs.Touching.{stays-begin, stays-end, stays-turn}
use Rattle.hubasking.proofs.following.touched_by.Goals as goal

pub links-init : goal.links-init
links-init c = stays-begin c.args.at (state_now c.args.hub.now).links

pub links-preserved : goal.links-preserved
links-preserved c =
    stays-turn c.args.at c.links.link (state_now c.args.hub.now).links c.links.invariant (subst (λ (s : State). StaysAt c.args.at (slice_get s.links c.links.link)) c.homes-homes.ensures (c.ends_at.ensures c.if-ends_at.false))

pub returns : goal.returns
returns c =
    stays-end c.args.at c.links.link (state_now c.args.hub.now).links
    (subst (λ (n : ℕ). n ≤ c.links.link) (c.links-link-end.ensures ∙ sym (zip-length MatchesLink (state_now c.args.hub.now).links c.args.reasons.now.links c.requires.links)) c.links-test.false) c.links.invariant
