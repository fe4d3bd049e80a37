-- A session comes.
use Rattle.std.proofs.Common.{ap, ◌∙◌}
use Rattle.hubasking.specs.AskingHubs.{AskingHub}
use Rattle.hubasking.proofs.HubCalls.{stood}
use Rattle.hubasking.proofs.hub.Hub.connect.Goals as goal

pub returns-clause-asking : goal.returns-clause-asking
returns-clause-asking c = c.seated.ensures.askings ∙ ap (λ (v : AskingHub). v.askings) c.self.view_is
