-- The hub stands for the plain one afterwards, and memory is wanted only where the plain one may.
use Rattle.std.proofs.Common.{length, subst}
use Rattle.pushserver.specs.Counting.{MayAddChange}
use Rattle.pushserver.specs.Giving.{give}
use Rattle.pushserver.specs.HubState.{kept_of}
use Rattle.pushserver.specs.KeptHubs.{KeptHub, Forgets}
use Rattle.pushserver.proofs.AddedEntries.{give-adds, change-forgets}
use Rattle.pushserver.proofs.GiveSteps.{on_each_err}
use Rattle.pushserver.proofs.Soundness.{sound}
use Rattle.pushserver.proofs.Wanting.{may-want}
use Rattle.pushserver.proofs.HubSteps.{keeps-hub, give-stands, seen}
use Rattle.pushserver.proofs.hub.Hub.give.Goals as goal

pub give-requires : goal.give-requires
give-requires g c = sound c.self.inside.keeping c.self.invariant

pub returns-in_err-give-clause-memory : goal.returns-in_err-give-clause-memory
returns-in_err-give-clause-memory g c = on_each_err c.from_residual.result (λ hub stands.
    may-want (kept_of c.self.inside.keeping) hub c.args.session c.in_err-give.ensures.memory (seen (kept_of c.self.inside.keeping) c.args.self.now c.self.view_is hub stands))

pub invariant_of-self-2 : goal.invariant_of-self-2
invariant_of-self-2 g c =
    keeps-hub c.self.inside.keeping c.give.new.self (λ hub. (give hub c.args.session (length c.args.buf.now)).hub) c.give.ensures.index c.give.ensures.watched
    (λ hub stands. (give-stands (kept_of c.self.inside.keeping) (kept_of c.give.new.self) c.args.session c.args.buf.now c.give.new.buf c.in_ok-give.field-0 c.in_ok-give.ensures.ok hub stands).2) c.self.invariant

pub returns-clause-ok : goal.returns-clause-ok
returns-clause-ok g c = λ hub stands. give-stands (kept_of c.self.inside.keeping) (kept_of c.give.new.self) c.args.session c.args.buf.now c.give.new.buf c.in_ok-give.field-0 c.in_ok-give.ensures.ok hub (seen (kept_of c.self.inside.keeping) c.args.self.now c.self.view_is hub stands)

pub returns-clause-kept : goal.returns-clause-kept
returns-clause-kept g c = subst (λ (k : KeptHub). Forgets (give k c.args.session (length c.args.buf.now)).hub (kept_of c.give.new.self)) c.self.view_is c.in_ok-give.ensures.ok.hub

pub returns-clause-counts : goal.returns-clause-counts
returns-clause-counts g c =
    subst (λ (k : KeptHub). MayAddChange k (kept_of c.give.new.self)) c.self.view_is
    (change-forgets (kept_of c.self.inside.keeping) (give (kept_of c.self.inside.keeping) c.args.session (length c.args.buf.now)).hub (kept_of c.give.new.self) c.in_ok-give.ensures.ok.hub (give-adds c.args.session (length c.args.buf.now) (kept_of c.self.inside.keeping)))
