-- The hub stands for the plain one afterwards.
use Rattle.pushserver.specs.Hubs.{disconnect}
use Rattle.pushserver.specs.HubState.{kept_of}
use Rattle.pushserver.proofs.Soundness.{sound}
use Rattle.pushserver.proofs.HubSteps.{keeps-hub, end-stands, seen}
use Rattle.pushserver.proofs.hub.Hub.end.Goals as goal

pub end-requires : goal.end-requires
end-requires c = sound c.self.inside.keeping c.self.invariant

pub invariant_of-self : goal.invariant_of-self
invariant_of-self c = keeps-hub c.self.inside.keeping c.end.new.self (λ hub. disconnect hub c.args.session) c.end.ensures.index c.end.ensures.watched (end-stands (kept_of c.self.inside.keeping) (kept_of c.end.new.self) c.args.session c.end.ensures.hub) c.self.invariant

pub returns-clause-hub : goal.returns-clause-hub
returns-clause-hub c = λ hub stands. end-stands (kept_of c.self.inside.keeping) (kept_of c.end.new.self) c.args.session c.end.ensures.hub hub (seen (kept_of c.self.inside.keeping) c.args.self.now c.self.view_is hub stands)

pub returns-clause-kept : goal.returns-clause-kept
returns-clause-kept c = rw (← c.self.view_is) c.end.ensures.hub
