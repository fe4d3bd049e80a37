-- A question comes, or its name is watched and no longer.
use Rattle.std.proofs.Common.{sym, subst}
use Rattle.dnsname.specs.Names.{Labels}
use Rattle.subscr.specs.Watching.{once_more, watching_of}
use Rattle.pushsession.specs.Watched.{MovesWatches}
use Rattle.pushsession.proofs.WatchMoves.{Pointwise, moves-back, moves-more}
use Rattle.pushsession.proofs.watching.ask.Goals as goal

pub returns-in-Ok-clause-watched : goal.returns-in-Ok-clause-watched
returns-in-Ok-clause-watched c =
    let old = watching_of c.args.watchers.now in
    let new = watching_of c.add.new.self in
    subst (MovesWatches c.args.number old new c.args.questions.now) (sym c.in-Ok.ensures.ok)
    (moves-more c.args.number old new c.args.questions.now c.args.id c.args.question
    (subst (λ (name : Labels). Pointwise new (once_more name c.args.number old)) (sym c.requires.name) c.in_ok-add.ensures.ok))

pub returns-in-Err-clause-watched : goal.returns-in-Err-clause-watched
returns-in-Err-clause-watched c =
    let old = watching_of c.args.watchers.now in
    let new = watching_of c.remove.new.self in
    subst (MovesWatches c.args.number old new c.args.questions.now) (sym c.in-Err.ensures.err)
    (moves-back c.args.number old (watching_of c.add.new.self) new c.args.questions.now c.args.name.now c.in_ok-add.ensures.ok c.remove.ensures.less)
