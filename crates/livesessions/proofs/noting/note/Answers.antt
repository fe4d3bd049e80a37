-- What was noted is taken back.
use Rattle.std.proofs.Common.{◌∙◌}
use Rattle.livesessions.proofs.NotedSessions.{all_back-kept}
use Rattle.livesessions.proofs.noting.note.Goals as goal

pub returns-in-Err-clause-err : goal.returns-in-Err-clause-err
returns-in-Err-clause-err g c = c.take_back.ensures ∙ c.in-Err.ensures.err ∙ all_back-kept c.args.point c.args.sessions.now c.requires.waiting
