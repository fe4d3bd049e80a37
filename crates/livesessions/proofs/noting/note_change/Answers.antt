-- Those that watch the name note it, as all would.
use Rattle.std.proofs.Common.{◌≡◌, length, arith}
use Rattle.subscr.specs.Watching.{watching_of}
use Rattle.livesessions.proofs.NotedSessions.{ok-watching, none-watching, change-found, change-asked}
use Rattle.livesessions.proofs.noting.note_change.Goals as goal

pub returns-then-is_empty-clause-ok : goal.returns-then-is_empty-clause-ok
returns-then-is_empty-clause-ok g c =
    let none : length c.at-numbers.result.now ≡ 0 = grind (arith, c.is_empty.ensures, c.if-is_empty.true) in
    none-watching (watching_of c.args.watchers.now) c.args.sessions.now c.at-numbers.result.now c.args.change.now c.args.point c.requires.apart c.requires.watched c.at-numbers.ensures.watching none

pub returns-in_err-old-clause-steps : goal.returns-in_err-old-clause-steps
returns-in_err-old-clause-steps g c =
    change-found (watching_of c.args.watchers.now) c.args.sessions.now c.at-numbers.result.now c.args.change.now.key.owner c.args.steps.now c.at-numbers.new.steps c.requires.apart c.requires.watched c.at-numbers.ensures.watching c.at-numbers.ensures.steps

pub returns-clause-ok : goal.returns-clause-ok
returns-clause-ok g c =
    ok-watching c.note_each.result (watching_of c.args.watchers.now) c.args.sessions.now c.note_each.new.sessions c.at-numbers.result.now c.args.change.now c.args.point c.in_ok-old.old c.requires.apart c.requires.watched c.at-numbers.ensures.watching c.in_ok-old.ensures c.note_each.ensures.ok

pub returns-clause-steps : goal.returns-clause-steps
returns-clause-steps g c =
    change-asked (watching_of c.args.watchers.now) c.args.sessions.now c.at-numbers.result.now c.args.change.now.key.owner c.args.steps.now c.at-numbers.new.steps c.note_each.new.steps c.requires.apart c.requires.watched c.at-numbers.ensures.watching c.at-numbers.ensures.steps c.note_each.ensures.steps
