use Rattle.hubloops.proofs.Answering.{does_pass}
use Rattle.hublock.proofs.locked.Locked.moment.Goals as goal

pub returns-clause-call : goal.returns-clause-call
returns-clause-call g c = rw (← c.self.view_is) (does_pass c.self.inside.hub c.moment_uncounted-answer.new.self c.args.at c.moment_uncounted-answer.result c.moment_uncounted-answer.ensures.ok c.moment_uncounted-answer.ensures.kept c.moment_uncounted-answer.ensures.same c.moment_uncounted-answer.ensures.room c.moment_uncounted-answer.ensures.asking c.moment_uncounted-answer.ensures.asks)
