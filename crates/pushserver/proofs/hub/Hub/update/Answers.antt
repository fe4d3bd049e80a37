-- The hub stands for the plain one afterwards.
use Rattle.std.proofs.Common.{arith, subst}
use Rattle.push_base.specs.Counted.{CountsUpTo}
use Rattle.pushserver.specs.Hubs.{update}
use Rattle.pushserver.specs.HubState.{kept_of}
use Rattle.pushserver.specs.KeptHubs.{KeptHub}
use Rattle.pushserver.specs.Watched.{allowed, update_changes}
use Rattle.pushserver.proofs.Observed.{are_octets}
use Rattle.pushserver.proofs.Soundness.{sound}
use Rattle.pushserver.proofs.HubSteps.{keeps-hub, same-hub, update-stands, seen}
use Rattle.pushserver.proofs.hub.Hub.update.Goals as goal

pub update-requires : goal.update-requires
update-requires g c = sound c.self.inside.keeping c.self.invariant

pub invariant_of-self : goal.invariant_of-self
invariant_of-self g c = same-hub c.self.inside.keeping c.update.new.self c.update.ensures.index c.update.ensures.watched c.in_err-update.ensures.err c.self.invariant

pub invariant_of-self-2 : goal.invariant_of-self-2
invariant_of-self-2 g c =
    let octets = are_octets c.args.message.now (λ i h. omega (arith, c.type_inv.message i)) in
    keeps-hub c.self.inside.keeping c.update.new.self (λ hub. (update hub c.args.message.now).1) c.update.ensures.index c.update.ensures.watched
    (λ hub stands. (update-stands (kept_of c.self.inside.keeping) (kept_of c.update.new.self) c.args.message.now c.in_ok-update.field-0 octets c.in_ok-update.ensures.code c.in_ok-update.ensures.hub hub stands).1) c.self.invariant

pub returns-clause-ok : goal.returns-clause-ok
returns-clause-ok g c = λ hub stands.
    update-stands (kept_of c.self.inside.keeping) (kept_of c.update.new.self) c.args.message.now c.in_ok-update.field-0 (are_octets c.args.message.now (λ i h. omega (arith, c.type_inv.message i))) c.in_ok-update.ensures.code c.in_ok-update.ensures.hub hub
    (seen (kept_of c.self.inside.keeping) c.args.self.now c.self.view_is hub stands)

pub returns-clause-kept : goal.returns-clause-kept
returns-clause-kept g c = rw (← c.self.view_is) (c.in_ok-update.ensures.code, c.in_ok-update.ensures.hub)

pub returns-in_err-update-clause-steps : goal.returns-in_err-update-clause-steps
returns-in_err-update-clause-steps g c = subst (λ (k : KeptHub). CountsUpTo (allowed k (update_changes k c.args.message.now)) c.args.steps.now c.update.new.steps) c.self.view_is c.update.ensures.steps

pub returns-clause-steps : goal.returns-clause-steps
returns-clause-steps g c = subst (λ (k : KeptHub). CountsUpTo (allowed k (update_changes k c.args.message.now)) c.args.steps.now c.update.new.steps) c.self.view_is c.update.ensures.steps
