-- The hub stands for the plain one afterwards, and has one hearing more where the link's rows went.
use Rattle.std.proofs.Common.{Bool, Ok, sym, subst}
use Rattle.push_base.specs.Counted.{CountsUpTo}
use Rattle.pushserver.specs.Counting.{AddsGoing}
use Rattle.pushserver.specs.Hubs.{link_gone}
use Rattle.pushserver.specs.HubState.{kept_of}
use Rattle.pushserver.specs.KeptHubs.{KeptHub}
use Rattle.pushserver.specs.Watched.{allowed, gone_changes}
use Rattle.pushserver.proofs.AddedEntries.{gone-adds, going-forgets}
use Rattle.pushserver.proofs.Soundness.{sound}
use Rattle.pushserver.proofs.HubSteps.{keeps-hub, same-hub, gone-stands, seen}
use Rattle.pushserver.proofs.hub.Hub.link_gone.Goals as goal

pub link_gone-requires : goal.link_gone-requires
link_gone-requires g c = sound c.self.inside.keeping c.self.invariant

pub invariant_of-self : goal.invariant_of-self
invariant_of-self g c = same-hub c.self.inside.keeping c.link_gone.new.self c.link_gone.ensures.index c.link_gone.ensures.watched c.in_err-link_gone.ensures.err c.self.invariant

pub invariant_of-self-2 : goal.invariant_of-self-2
invariant_of-self-2 g c =
    keeps-hub c.self.inside.keeping c.link_gone.new.self (λ hub. (link_gone hub c.args.link).1) c.link_gone.ensures.index c.link_gone.ensures.watched
    (λ hub stands. (gone-stands (kept_of c.self.inside.keeping) (kept_of c.link_gone.new.self) c.args.link c.in_ok-link_gone.field-0 c.in_ok-link_gone.ensures.gone c.in_ok-link_gone.ensures.hub hub stands).1) c.self.invariant

pub returns-clause-ok : goal.returns-clause-ok
returns-clause-ok g c = λ hub stands.
    gone-stands (kept_of c.self.inside.keeping) (kept_of c.link_gone.new.self) c.args.link c.in_ok-link_gone.field-0 c.in_ok-link_gone.ensures.gone c.in_ok-link_gone.ensures.hub hub
    (seen (kept_of c.self.inside.keeping) c.args.self.now c.self.view_is hub stands)

pub returns-clause-kept : goal.returns-clause-kept
returns-clause-kept g c = rw (← c.self.view_is) (c.in_ok-link_gone.ensures.gone, c.in_ok-link_gone.ensures.hub)

pub returns-clause-counts : goal.returns-clause-counts
returns-clause-counts g c =
    subst (λ (k : KeptHub). AddsGoing (Ok c.in_ok-link_gone.field-0) k (kept_of c.link_gone.new.self)) c.self.view_is
    (going-forgets (kept_of c.self.inside.keeping) (link_gone (kept_of c.self.inside.keeping) c.args.link).1 (kept_of c.link_gone.new.self) c.in_ok-link_gone.ensures.hub (Ok c.in_ok-link_gone.field-0)
    (subst (λ (b : Bool). AddsGoing (Ok b) (kept_of c.self.inside.keeping) (link_gone (kept_of c.self.inside.keeping) c.args.link).1) (sym c.in_ok-link_gone.ensures.gone) (gone-adds (kept_of c.self.inside.keeping) c.args.link)))

pub returns-in_err-link_gone-clause-steps : goal.returns-in_err-link_gone-clause-steps
returns-in_err-link_gone-clause-steps g c = subst (λ (k : KeptHub). CountsUpTo (allowed k (gone_changes k c.args.link)) c.args.steps.now c.link_gone.new.steps) c.self.view_is c.link_gone.ensures.steps

pub returns-clause-steps : goal.returns-clause-steps
returns-clause-steps g c = subst (λ (k : KeptHub). CountsUpTo (allowed k (gone_changes k c.args.link)) c.args.steps.now c.link_gone.new.steps) c.self.view_is c.link_gone.ensures.steps
