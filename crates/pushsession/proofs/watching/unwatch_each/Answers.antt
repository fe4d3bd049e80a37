-- One question after the other goes.
use Rattle.std.proofs.Common.{subst}
use Rattle.std.proofs.lemmas.List.{drop_all}
use Rattle.subscr.specs.Watching.{watching_of}
use Rattle.pushsession.specs.Watched.{MovesWatches}
use Rattle.pushsession.proofs.WatchMoves.{moves-next}
use Rattle.pushsession.proofs.watching.unwatch_each.Goals as goal

pub questions-preserved : goal.questions-preserved
questions-preserved c =
    moves-next c.args.number (watching_of c.args.watchers.now) (watching_of c.questions.watchers) (watching_of c.remove.new.self) c.args.questions.now c.questions.entry-index c.entry-item.result c.questions-test.true c.entry-item.is c.questions.invariant c.remove.ensures.less

pub returns : goal.returns
returns c = subst (MovesWatches c.args.number (watching_of c.args.watchers.now) (watching_of c.questions.watchers) c.args.questions.now) (drop_all c.questions.entry-index c.args.questions.now c.questions-test.false) c.questions.invariant
