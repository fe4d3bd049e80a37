-- The plain hub has it, too.
use Rattle.std.proofs.Common.{◌∙◌}
use Rattle.livesessions.specs.NumberedSessions.{session_in}
use Rattle.pushserver.specs.HubState.{kept_of}
use Rattle.pushserver.proofs.Observed.{live-seen, live-is}
use Rattle.pushserver.proofs.HubSteps.{seen}
use Rattle.pushserver.proofs.hub.Hub.live.Goals as goal

pub returns-clause-hub : goal.returns-clause-hub
returns-clause-hub c = λ hub stands.
    live-seen (kept_of c.self.inside.keeping) hub c.args.session c.is_some.result (c.is_some.ensures ∙ live-is (λ s. s.now) c.get.result (session_in c.args.session c.self.inside.keeping.sessions) c.get.ensures) (seen (kept_of c.self.inside.keeping) c.args.self.now c.self.view_is hub stands)
