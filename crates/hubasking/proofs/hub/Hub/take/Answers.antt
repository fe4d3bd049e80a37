-- A session takes octets.
use Rattle.std.proofs.Common.{refl, ap}
use Rattle.pushsession.specs.Sessions.{with_piece}
use Rattle.pushserver.specs.Hubs.{take_octets}
use Rattle.hubasking.specs.AskingHubs.{AskingHub}
use Rattle.hubasking.proofs.HubCalls.{stood}
use Rattle.hubasking.proofs.Staying.{in-kept}
use Rattle.hubasking.proofs.hub.Hub.take.Goals as goal

pub invariant_of-self : goal.invariant_of-self
invariant_of-self c =
    in-kept c.self.inside.hub c.take.new.self c.self.inside.reasons c.args.session (with_piece c.args.piece.now) (λ s. refl) c.take.ensures.kept
    (take_octets c.self.invariant.plain c.args.session c.args.piece.now) (c.take.ensures.hub c.self.invariant.plain c.self.invariant.stands) c.self.invariant

pub returns-clause-count : goal.returns-clause-count
returns-clause-count c = λ hub stands. c.take.ensures.count hub (stood c.self.inside.hub c.self.inside.reasons c.args.self.now hub c.self.view_is stands)

pub returns-clause-hub : goal.returns-clause-hub
returns-clause-hub c = λ hub stands. c.take.ensures.hub hub (stood c.self.inside.hub c.self.inside.reasons c.args.self.now hub c.self.view_is stands)

pub returns-clause-kept : goal.returns-clause-kept
returns-clause-kept c = rw (← c.self.view_is) c.take.ensures.kept

pub returns-clause-asking : goal.returns-clause-asking
returns-clause-asking c = ap (λ (v : AskingHub). v.askings) c.self.view_is
