-- The session of the number notes it, if it is there.
use Rattle.livesessions.proofs.LentSessions.{on_some, absent}
use Rattle.push_base.proofs.Counting.{counts_exactly}
use Rattle.livesessions.proofs.NotedSessions.{ok-noted, err-noted, counts-nothing}
use Rattle.pushsession.specs.Sessions.{noted}
use Rattle.pushsession.specs.Kept.{keeping}
use Rattle.std.proofs.Common.{◌∷◌, [], ◌∙◌}
use Rattle.livesessions.proofs.noting.note_one.Goals as goal

pub returns-in-Some-clause-ok : goal.returns-in-Some-clause-ok
returns-in-Some-clause-ok g c =
    ok-noted c.note.result c.args.old.now c.args.change.now c.in-Some.session.now c.note.new.self c.args.sessions.now (c.get_mut.follows.lender c.note.new.self) c.args.number c.in-Some.ensures.apart c.in-Some.ensures.value
    (on_some c.get_mut.result c.in-Some.session c.in-Some.is (c.get_mut.follows.holds c.note.new.self)) c.note.ensures.ok

pub returns-in-Some-clause-err : goal.returns-in-Some-clause-err
returns-in-Some-clause-err g c =
    err-noted c.note.result c.in-Some.session.now c.note.new.self c.args.sessions.now (c.get_mut.follows.lender c.note.new.self) c.args.number c.in-Some.ensures.apart c.in-Some.ensures.value
    (on_some c.get_mut.result c.in-Some.session c.in-Some.is (c.get_mut.follows.holds c.note.new.self)) c.note.ensures.err

pub returns-in-Some-clause-steps : goal.returns-in-Some-clause-steps
returns-in-Some-clause-steps g c = counts_exactly 1 c.args.steps.now c.note.new.steps c.note.ensures.steps

pub returns-in-None-clause-ok : goal.returns-in-None-clause-ok
returns-in-None-clause-ok g c = λ point is. c.get_mut.follows.holds-at-none ∙ absent c.args.number c.args.sessions.now (noted keeping (c.args.change.now ∷ []) point) c.in-None.ensures.value

pub returns-in-None-clause-steps : goal.returns-in-None-clause-steps
returns-in-None-clause-steps g c = counts-nothing 1 c.args.steps.now
