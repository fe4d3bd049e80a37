use Rattle.std.proofs.Common.{[], ap, ◌∙◌}
use Rattle.linkreasons.specs.AllReasons.{without_session}
use Rattle.linkreasons.proofs.Seats.{without-in}
use Rattle.linkreasons.proofs.leaving.end_session.Goals as goal

pub returns-clause-sessions : goal.returns-clause-sessions
returns-clause-sessions c = c.without.ensures ∙ ap (without_session c.args.number) c.clear_all.ensures.sessions ∙ without-in c.args.number (λ _. []) c.args.sessions.now.items
