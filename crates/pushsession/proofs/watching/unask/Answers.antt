-- The question of an ID goes, if there is one.
use Rattle.std.proofs.Common.{sym, subst}
use Rattle.subscr.specs.Watching.{watching_of}
use Rattle.pushsession.specs.Watched.{MovesWatches}
use Rattle.pushsession.proofs.WatchMoves.{moves-less, moves-nothing}
use Rattle.pushsession.proofs.watching.unask.Goals as goal

pub returns-in_err-question-clause-watched : goal.returns-in_err-question-clause-watched
returns-in_err-question-clause-watched c =
    subst (MovesWatches c.args.number (watching_of c.args.watchers.now) (watching_of c.args.watchers.now) c.args.questions.now) (sym c.remove.ensures.others)
    (moves-nothing c.args.number (watching_of c.args.watchers.now) c.args.questions.now c.args.id (sym c.in_err-question.ensures.question))

pub returns-clause-watched : goal.returns-clause-watched
returns-clause-watched c =
    subst (MovesWatches c.args.number (watching_of c.args.watchers.now) (watching_of c.remove-2.new.self) c.args.questions.now) (sym c.remove.ensures.others)
    (moves-less c.args.number (watching_of c.args.watchers.now) (watching_of c.remove-2.new.self) c.args.questions.now c.args.id c.in_ok-question.question c.remove.ensures.asked (sym c.in_ok-question.ensures.question) c.remove-2.ensures.less)
