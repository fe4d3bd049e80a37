-- The hub stands for the plain one afterwards.
use Rattle.pushserver.specs.Hubs.{stop}
use Rattle.pushserver.specs.HubState.{kept_of}
use Rattle.pushserver.proofs.Soundness.{sound}
use Rattle.pushserver.proofs.HubSteps.{keeps-hub, stop-stands, seen}
use Rattle.pushserver.proofs.hub.Hub.stop.Goals as goal

pub stop-requires : goal.stop-requires
stop-requires c = sound c.self.inside.keeping c.self.invariant

pub invariant_of-self : goal.invariant_of-self
invariant_of-self c = keeps-hub c.self.inside.keeping c.stop.new.self (λ hub. stop hub c.args.session c.args.rcode c.args.delay) c.stop.ensures.index c.stop.ensures.watched (stop-stands (kept_of c.self.inside.keeping) (kept_of c.stop.new.self) c.args.session c.args.rcode c.args.delay c.stop.ensures.hub) c.self.invariant

pub returns-clause-hub : goal.returns-clause-hub
returns-clause-hub c = λ hub stands. stop-stands (kept_of c.self.inside.keeping) (kept_of c.stop.new.self) c.args.session c.args.rcode c.args.delay c.stop.ensures.hub hub (seen (kept_of c.self.inside.keeping) c.args.self.now c.self.view_is hub stands)

pub returns-clause-kept : goal.returns-clause-kept
returns-clause-kept c = rw (← c.self.view_is) c.stop.ensures.hub
