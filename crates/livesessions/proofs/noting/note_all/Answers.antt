-- One change after the other is noted.
use Rattle.std.proofs.Common.{[], ◌∷◌, refl, ap, ◌∙◌, subst, sym}
use Rattle.subscr.specs.Watching.{watching_of}
use Rattle.pushsession.specs.Sessions.{noted}
use Rattle.pushsession.specs.Kept.{KeptSession, keeping, taken_back}
use Rattle.livesessions.specs.NumberedSessions.{Numbered, all_sessions, AreApart}
use Rattle.livesessions.specs.Watched.{Watches}
use Rattle.livesessions.proofs.NumberedSessions.{apart-all}
use Rattle.livesessions.proofs.Watched.{watched-all}
use Rattle.livesessions.proofs.NotedSessions.{all_back-noted, change-next, change-ends, steps-next, steps-fail, steps-end, on_err}
use Rattle.livesessions.proofs.noting.note_all.Goals as goal

pub note_change-requires-clause-apart : goal.note_change-requires-clause-apart
note_change-requires-clause-apart g c = c.changes.invariant.2

pub note_change-requires-clause-watched : goal.note_change-requires-clause-watched
note_change-requires-clause-watched g c = c.changes.invariant.3

pub changes-preserved : goal.changes-preserved
changes-preserved g c =
    let one = c.in_ok-note_change.ensures.ok in
    let steps = steps-next c.args.steps.now c.changes.steps c.note_change.new.steps c.changes.sessions c.note_change.new.sessions c.args.sessions.now c.args.changed.now c.args.point c.changes.change-index c.change-item.result c.changes-test.true c.change-item.is one c.in_ok-note_change.ensures.steps (c.changes.invariant.4, c.changes.invariant.5) in (
      change-next c.args.sessions.now c.changes.sessions c.note_change.new.sessions c.args.changed.now c.args.point c.changes.change-index c.change-item.result c.changes-test.true c.change-item.is one c.changes.invariant.0,
      ap (all_sessions (taken_back c.args.point)) one ∙ all_back-noted (c.change-item.result ∷ []) c.args.point c.changes.sessions ∙ c.changes.invariant.1,
      subst AreApart (sym one) (apart-all (noted keeping (c.change-item.result ∷ []) c.args.point) c.changes.sessions c.changes.invariant.2),
      subst (λ (xs : Numbered KeptSession). Watches (watching_of c.args.watchers.now) xs) (sym one) (watched-all (noted keeping (c.change-item.result ∷ []) c.args.point) (λ s. refl) (watching_of c.args.watchers.now) c.changes.sessions c.changes.invariant.3),
      steps.0,
      steps.1,
    )

pub returns-in_err-note_change-clause-err : goal.returns-in_err-note_change-clause-err
returns-in_err-note_change-clause-err g c = on_err c.from_residual.result (c.in_err-note_change.ensures.err ∙ c.changes.invariant.1)

pub returns-in_err-note_change-clause-steps : goal.returns-in_err-note_change-clause-steps
returns-in_err-note_change-clause-steps g c =
    steps-fail c.args.steps.now c.changes.steps c.note_change.new.steps c.changes.sessions c.args.sessions.now c.args.changed.now c.changes.change-index c.change-item.result c.changes-test.true c.change-item.is c.in_err-note_change.ensures.steps (c.changes.invariant.4, c.changes.invariant.5)

pub returns-clause-ok : goal.returns-clause-ok
returns-clause-ok g c = change-ends c.args.sessions.now c.changes.sessions c.args.changed.now c.args.point c.changes.change-index c.changes-test.false c.changes.invariant.0

pub returns-clause-steps : goal.returns-clause-steps
returns-clause-steps g c = record { later = c.changes.invariant.4; most = steps-end c.args.steps.now c.changes.steps c.changes.sessions c.args.sessions.now c.args.changed.now c.changes.change-index c.changes.invariant.5 }
