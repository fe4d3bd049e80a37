-- It is the point that the plain session has.
use Rattle.std.proofs.Common.{Some, None, refl, ap, ◌∙◌}
use Rattle.std.specs.Prelude.{unwrap_or}
use Rattle.pushserver.specs.HubState.{kept_of}
use Rattle.pushserver.proofs.Observed.{told-seen}
use Rattle.pushserver.proofs.HubSteps.{seen}
use Rattle.pushserver.proofs.hub.Hub.as_of.Goals as goal

pub returns-in-Some : goal.returns-in-Some
returns-in-Some c = λ hub stands.
    told-seen (kept_of c.self.inside.keeping) hub c.args.session c.point-newest.result c.args.name.now (Some c.in-Some.session.now) c.unwrap_or.result c.point-newest.ensures c.in-Some.ensures (c.unwrap_or.ensures ∙ ap (λ o. unwrap_or o c.point-newest.result) c.since.ensures)
    (seen (kept_of c.self.inside.keeping) c.args.self.now c.self.view_is hub stands)

pub returns-in-None : goal.returns-in-None
returns-in-None c = λ hub stands. told-seen (kept_of c.self.inside.keeping) hub c.args.session c.point-newest.result c.args.name.now None c.point-newest.result c.point-newest.ensures c.in-None.ensures refl (seen (kept_of c.self.inside.keeping) c.args.self.now c.self.view_is hub stands)
