-- A stop is asked for.
use Rattle.std.proofs.Common.{ap}
use Rattle.pushsession.specs.Sessions.{asked_to_stop}
use Rattle.pushserver.specs.Hubs.{stop}
use Rattle.hubasking.specs.AskingHubs.{AskingHub}
use Rattle.hubasking.proofs.HubCalls.{stood}
use Rattle.hubasking.proofs.Staying.{in-kept, stop-same}
use Rattle.hubasking.proofs.hub.Hub.stop.Goals as goal

pub invariant_of-self : goal.invariant_of-self
invariant_of-self c =
    in-kept c.self.inside.hub c.stop.new.self c.self.inside.reasons c.args.session (asked_to_stop c.args.rcode c.args.delay) (stop-same c.args.rcode c.args.delay) c.stop.ensures.kept
    (stop c.self.invariant.plain c.args.session c.args.rcode c.args.delay) (c.stop.ensures.hub c.self.invariant.plain c.self.invariant.stands) c.self.invariant

pub returns-clause-hub : goal.returns-clause-hub
returns-clause-hub c = λ hub stands. c.stop.ensures.hub hub (stood c.self.inside.hub c.self.inside.reasons c.args.self.now hub c.self.view_is stands)

pub returns-clause-kept : goal.returns-clause-kept
returns-clause-kept c = rw (← c.self.view_is) c.stop.ensures.kept

pub returns-clause-asking : goal.returns-clause-asking
returns-clause-asking c = ap (λ (v : AskingHub). v.askings) c.self.view_is
