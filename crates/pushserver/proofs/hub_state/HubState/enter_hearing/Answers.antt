-- A hearing that is offered.
use Rattle.std.proofs.Common.{List, sym, ap, subst, ◌∙◌}
use Rattle.push_base.specs.Counted.{CountsUpTo}
use Rattle.rrset.specs.declared.record.Changed.{Changed}
use Rattle.pushserver.specs.Watched.{allowed}
use Rattle.pushserver.proofs.Stepping.{hear-changes}
use Rattle.pushserver.specs.declared.given.Heard.{Heard}
use Rattle.pushserver.specs.HubState.{kept_of}
use Rattle.pushserver.specs.KeptHubs.{KeptHub, Forgets}
use Rattle.pushserver.specs.Offering.{heard_of}
use Rattle.pushserver.proofs.Offering.{hear-offered}
use Rattle.pushserver.proofs.hub_state.HubState.enter_hearing.Goals as goal

pub returns-clause-heard : goal.returns-clause-heard
returns-clause-heard g c = λ datagram reads.
    c.heard_of.ensures ∙ ap heard_of c.in_ok-offered.ensures.offered ∙ sym (ap (λ (r : Heard × KeptHub). r.0) (hear-offered (kept_of c.args.self.now) c.args.link datagram c.args.hearing reads))

pub returns-clause-hub : goal.returns-clause-hub
returns-clause-hub g c = λ datagram reads.
    subst (λ (k : KeptHub). Forgets k (kept_of c.offer.new.self)) (sym (ap (λ (r : Heard × KeptHub). r.1) (hear-offered (kept_of c.args.self.now) c.args.link datagram c.args.hearing reads))) c.in_ok-offered.ensures.hub

pub returns-in_err-offered-clause-steps : goal.returns-in_err-offered-clause-steps
returns-in_err-offered-clause-steps g c = λ datagram reads.
    subst (λ (cs : List Changed). CountsUpTo (allowed (kept_of c.args.self.now) cs) c.args.steps.now c.offer.new.steps) (hear-changes (kept_of c.args.self.now) c.args.link datagram c.args.hearing reads) c.offer.ensures.steps

pub returns-clause-steps : goal.returns-clause-steps
returns-clause-steps g c = λ datagram reads.
    subst (λ (cs : List Changed). CountsUpTo (allowed (kept_of c.args.self.now) cs) c.args.steps.now c.offer.new.steps) (hear-changes (kept_of c.args.self.now) c.args.link datagram c.args.hearing reads) c.offer.ensures.steps
