-- They are the ends that the plain session has.
use Rattle.std.proofs.Common.{Some, None, refl}
use Rattle.pushserver.specs.HubState.{kept_of}
use Rattle.pushserver.proofs.Observed.{ends-seen}
use Rattle.pushserver.proofs.HubSteps.{seen}
use Rattle.pushserver.proofs.hub.Hub.all_filled.Goals as goal

pub returns-in-Some : goal.returns-in-Some
returns-in-Some c = λ hub stands. ends-seen (kept_of c.self.inside.keeping) hub c.args.session (Some c.in-Some.session.now) c.all_filled.result.now c.in-Some.ensures c.all_filled.ensures (seen (kept_of c.self.inside.keeping) c.args.self.now c.self.view_is hub stands)

pub returns-in-None : goal.returns-in-None
returns-in-None c = λ hub stands. ends-seen (kept_of c.self.inside.keeping) hub c.args.session None _ c.in-None.ensures refl (seen (kept_of c.self.inside.keeping) c.args.self.now c.self.view_is hub stands)
