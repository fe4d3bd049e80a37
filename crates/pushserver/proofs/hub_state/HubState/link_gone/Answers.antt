-- A link's going that is offered.
use Rattle.std.proofs.Common.{Bool, List, sym, ap, subst, ◌∙◌}
use Rattle.push_base.specs.Counted.{CountsUpTo}
use Rattle.rrset.specs.declared.record.Changed.{Changed}
use Rattle.pushserver.specs.Watched.{allowed}
use Rattle.pushserver.proofs.Stepping.{gone-changes}
use Rattle.pushserver.specs.HubState.{kept_of}
use Rattle.pushserver.specs.KeptHubs.{KeptHub, Forgets}
use Rattle.pushserver.specs.Offering.{is_made}
use Rattle.pushserver.proofs.Offering.{gone-offered}
use Rattle.pushserver.proofs.hub_state.HubState.link_gone.Goals as goal

pub returns-clause-gone : goal.returns-clause-gone
returns-clause-gone g c = c.is_made.ensures ∙ ap is_made c.in_ok-offered.ensures.offered ∙ sym (ap (λ (r : Bool × KeptHub). r.0) (gone-offered (kept_of c.args.self.now) c.args.link))

pub returns-clause-hub : goal.returns-clause-hub
returns-clause-hub g c = subst (λ (k : KeptHub). Forgets k (kept_of c.offer.new.self)) (sym (ap (λ (r : Bool × KeptHub). r.1) (gone-offered (kept_of c.args.self.now) c.args.link))) c.in_ok-offered.ensures.hub

pub returns-in_err-offered-clause-steps : goal.returns-in_err-offered-clause-steps
returns-in_err-offered-clause-steps g c =
    subst (λ (cs : List Changed). CountsUpTo (allowed (kept_of c.args.self.now) cs) c.args.steps.now c.offer.new.steps) (gone-changes (kept_of c.args.self.now) c.args.link) c.offer.ensures.steps

pub returns-clause-steps : goal.returns-clause-steps
returns-clause-steps g c =
    subst (λ (cs : List Changed). CountsUpTo (allowed (kept_of c.args.self.now) cs) c.args.steps.now c.offer.new.steps) (gone-changes (kept_of c.args.self.now) c.args.link) c.offer.ensures.steps
