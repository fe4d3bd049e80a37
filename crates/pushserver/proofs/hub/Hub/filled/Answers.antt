-- It is the end that the plain session has.
use Rattle.std.proofs.Common.{Some, None, refl}
use Rattle.pushserver.specs.HubState.{kept_of}
use Rattle.pushserver.proofs.Observed.{filled-seen}
use Rattle.pushserver.proofs.HubSteps.{seen}
use Rattle.pushserver.proofs.hub.Hub.filled.Goals as goal

pub returns-in-Some : goal.returns-in-Some
returns-in-Some c = λ hub stands. filled-seen (kept_of c.self.inside.keeping) hub c.args.session c.args.id (Some c.in-Some.session.now) c.filled.result c.in-Some.ensures c.filled.ensures (seen (kept_of c.self.inside.keeping) c.args.self.now c.self.view_is hub stands)

pub returns-in-None : goal.returns-in-None
returns-in-None c = λ hub stands. filled-seen (kept_of c.self.inside.keeping) hub c.args.session c.args.id None None c.in-None.ensures refl (seen (kept_of c.self.inside.keeping) c.args.self.now c.self.view_is hub stands)
