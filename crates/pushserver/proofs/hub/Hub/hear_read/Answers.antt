-- The hub stands for the plain one afterwards, and has one hearing more where the datagram was entered.
use Rattle.std.proofs.Common.{Ok, sym, subst, arith}
use Rattle.push_base.specs.Counted.{CountsUpTo}
use Rattle.dnswire.specs.Reading.{hearing_of}
use Rattle.pushserver.specs.Counting.{AddsHearing}
use Rattle.pushserver.specs.Hubs.{hear}
use Rattle.pushserver.specs.HubState.{kept_of}
use Rattle.pushserver.specs.KeptHubs.{KeptHub}
use Rattle.pushserver.specs.Observing.{SaysWhy}
use Rattle.pushserver.specs.Watched.{allowed, hear_changes}
use Rattle.pushserver.specs.declared.given.Heard.{Heard}
use Rattle.pushserver.proofs.AddedEntries.{hear-adds, hear-says, hearing-forgets}
use Rattle.pushserver.proofs.Observed.{are_octets}
use Rattle.pushserver.proofs.Soundness.{sound}
use Rattle.pushserver.proofs.HubSteps.{keeps-hub, same-hub, hear-stands, seen}
use Rattle.pushserver.proofs.hub.Hub.hear_read.Goals as goal

pub hear-requires-clause-sound : goal.hear-requires-clause-sound
hear-requires-clause-sound g c = sound c.self.inside.keeping c.self.invariant

pub invariant_of-self : goal.invariant_of-self
invariant_of-self g c = same-hub c.self.inside.keeping c.hear.new.self c.hear.ensures.index c.hear.ensures.watched c.in_err-hear.ensures.err c.self.invariant

pub invariant_of-self-2 : goal.invariant_of-self-2
invariant_of-self-2 g c =
    let octets = are_octets c.args.datagram.now (λ i h. omega (arith, c.type_inv.datagram i)) in
    keeps-hub c.self.inside.keeping c.hear.new.self (λ hub. (hear hub c.args.link c.args.datagram.now).1) c.hear.ensures.index c.hear.ensures.watched
    (λ hub stands. (hear-stands (kept_of c.self.inside.keeping) (kept_of c.hear.new.self) c.args.link c.args.datagram.now c.in_ok-hear.field-0 octets c.in_ok-hear.ensures.heard c.in_ok-hear.ensures.hub hub stands).1) c.self.invariant

pub returns-clause-ok : goal.returns-clause-ok
returns-clause-ok g c = λ hub stands.
    hear-stands (kept_of c.self.inside.keeping) (kept_of c.hear.new.self) c.args.link c.args.datagram.now c.in_ok-hear.field-0 (are_octets c.args.datagram.now (λ i h. omega (arith, c.type_inv.datagram i))) c.in_ok-hear.ensures.heard c.in_ok-hear.ensures.hub hub
    (seen (kept_of c.self.inside.keeping) c.args.self.now c.self.view_is hub stands)

pub returns-clause-kept : goal.returns-clause-kept
returns-clause-kept g c = rw (← c.self.view_is) (c.in_ok-hear.ensures.heard, c.in_ok-hear.ensures.hub)

pub returns-clause-unread : goal.returns-clause-unread
returns-clause-unread g c = subst (λ (h : Heard). SaysWhy h (hearing_of c.args.datagram.now)) (sym c.in_ok-hear.ensures.heard) (hear-says (kept_of c.self.inside.keeping) c.args.link c.args.datagram.now)

pub returns-clause-counts : goal.returns-clause-counts
returns-clause-counts g c =
    subst (λ (k : KeptHub). AddsHearing (Ok c.in_ok-hear.field-0) k (kept_of c.hear.new.self)) c.self.view_is
    (hearing-forgets (kept_of c.self.inside.keeping) (hear (kept_of c.self.inside.keeping) c.args.link c.args.datagram.now).1 (kept_of c.hear.new.self) c.in_ok-hear.ensures.hub (Ok c.in_ok-hear.field-0)
    (subst (λ (h : Heard). AddsHearing (Ok h) (kept_of c.self.inside.keeping) (hear (kept_of c.self.inside.keeping) c.args.link c.args.datagram.now).1) (sym c.in_ok-hear.ensures.heard) (hear-adds (kept_of c.self.inside.keeping) c.args.link c.args.datagram.now)))

pub returns-in_err-hear-clause-steps : goal.returns-in_err-hear-clause-steps
returns-in_err-hear-clause-steps g c = subst (λ (k : KeptHub). CountsUpTo (allowed k (hear_changes k c.args.link c.args.datagram.now)) c.args.steps.now c.hear.new.steps) c.self.view_is c.hear.ensures.steps

pub returns-clause-steps : goal.returns-clause-steps
returns-clause-steps g c = subst (λ (k : KeptHub). CountsUpTo (allowed k (hear_changes k c.args.link c.args.datagram.now)) c.args.steps.now c.hear.new.steps) c.self.view_is c.hear.ensures.steps
