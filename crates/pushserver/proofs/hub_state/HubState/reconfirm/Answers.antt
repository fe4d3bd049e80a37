-- A reconfirmation that is offered.
use Rattle.std.proofs.Common.{sym, subst, ◌∙◌}
use Rattle.pushserver.specs.HubState.{kept_of}
use Rattle.pushserver.specs.KeptHubs.{KeptHub, Forgets}
use Rattle.pushserver.specs.Giving.{reconfirm}
use Rattle.pushserver.proofs.ForgottenEntries.{forgets-same}
use Rattle.pushserver.proofs.Offering.{reconfirm-offered, reconfirm-none}
use Rattle.pushserver.proofs.hub_state.HubState.reconfirm.Goals as goal

pub returns-clause-hub : goal.returns-clause-hub
returns-clause-hub g c =
    subst (λ (k : KeptHub). Forgets k (kept_of c.offer.new.self)) (sym (reconfirm-offered (kept_of c.args.self.now) c.args.rr.now c.in-Some.link c.in-Some.key (sym c.in_ok-link.ensures ∙ c.in-Some.is))) c.in_ok-offer.ensures.hub

pub returns-in_default-clause-hub : goal.returns-in_default-clause-hub
returns-in_default-clause-hub g c = forgets-same (reconfirm (kept_of c.args.self.now) c.args.rr.now) (kept_of c.args.self.now) (sym (reconfirm-none (kept_of c.args.self.now) c.args.rr.now (sym c.in_ok-link.ensures ∙ c.in_default.is)))
