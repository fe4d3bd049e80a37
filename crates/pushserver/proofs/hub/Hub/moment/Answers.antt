-- The hub stands for the plain one afterwards.
use Rattle.std.proofs.Common.{◌≡◌, true, subst}
use Rattle.pushserver.specs.Counting.{MayAddMoment}
use Rattle.pushserver.specs.Hubs.{can_enter, moment}
use Rattle.pushserver.specs.HubState.{kept_of}
use Rattle.pushserver.specs.KeptHubs.{KeptHub}
use Rattle.pushserver.proofs.AddedEntries.{moment-adds, moment-forgets}
use Rattle.pushserver.proofs.Soundness.{sound}
use Rattle.pushserver.proofs.HubSteps.{keeps-hub, same-hub, moment-stands, seen}
use Rattle.pushserver.proofs.hub.Hub.moment.Goals as goal

pub moment-requires-clause-sound : goal.moment-requires-clause-sound
moment-requires-clause-sound g c = sound c.self.inside.keeping c.self.invariant

pub invariant_of-self : goal.invariant_of-self
invariant_of-self g c = same-hub c.self.inside.keeping c.moment.new.self c.moment.ensures.index c.moment.ensures.watched c.in_err-moment.ensures.err c.self.invariant

pub invariant_of-self-2 : goal.invariant_of-self-2
invariant_of-self-2 g c =
    keeps-hub c.self.inside.keeping c.moment.new.self (λ hub. moment hub c.args.at) c.moment.ensures.index c.moment.ensures.watched
    (λ hub stands. moment-stands (kept_of c.self.inside.keeping) (kept_of c.moment.new.self) c.args.at c.in_ok-moment.ensures.hub hub stands) c.self.invariant

pub returns-clause-ok : goal.returns-clause-ok
returns-clause-ok g c = λ hub stands. moment-stands (kept_of c.self.inside.keeping) (kept_of c.moment.new.self) c.args.at c.in_ok-moment.ensures.hub hub (seen (kept_of c.self.inside.keeping) c.args.self.now c.self.view_is hub stands)

pub returns-clause-kept : goal.returns-clause-kept
returns-clause-kept g c = rw (← c.self.view_is) c.in_ok-moment.ensures.hub

pub returns-clause-counts : goal.returns-clause-counts
returns-clause-counts g c =
    subst (λ (k : KeptHub). MayAddMoment k (kept_of c.moment.new.self)) c.self.view_is
    (moment-forgets (kept_of c.self.inside.keeping) (moment (kept_of c.self.inside.keeping) c.args.at) (kept_of c.moment.new.self) c.in_ok-moment.ensures.hub (moment-adds (kept_of c.self.inside.keeping) c.args.at))
