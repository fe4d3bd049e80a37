use Rattle.std.proofs.Common.{drop}
use Rattle.subscr.specs.Watching.{watching_of}
use Rattle.pushsession.specs.Watched.{MovesWatches}
use Rattle.pushsession.proofs.watching.unwatch_each.Given as goal

abbrev pub invariant-questions : goal.invariant-questions
invariant-questions l = MovesWatches l.number (watching_of l.fn.watchers) (watching_of l.watchers) l.questions (drop l.entry-index l.questions)
