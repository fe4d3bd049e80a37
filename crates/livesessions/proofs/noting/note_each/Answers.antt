-- One session after the other notes it.
use Rattle.std.proofs.Common.{◌∷◌, [], sym, ap, ◌∙◌, arith}
use Rattle.std.proofs.lemmas.List.{drop_all}
use Rattle.pushsession.specs.Sessions.{noted}
use Rattle.pushsession.specs.Kept.{keeping, taken_back}
use Rattle.livesessions.specs.NumberedSessions.{all_sessions}
use Rattle.livesessions.proofs.NotedSessions.{in_turn, turn-next, in_back-noted}
use Rattle.livesessions.proofs.noting.note_each.Goals as goal

pub numbers-preserved : goal.numbers-preserved
numbers-preserved g c = (
  (λ point is. (
    turn-next (noted keeping (c.args.change.now ∷ []) point) c.args.sessions.now c.numbers.sessions c.note_one.new.sessions c.args.numbers.now c.numbers.number-index _ c.numbers-test.true
        (c.in_ok-note_one.ensures.ok point is) (c.numbers.invariant.0 point is).0,
    ap (all_sessions (taken_back point)) (c.in_ok-note_one.ensures.ok point is) ∙ in_back-noted _ (c.args.change.now ∷ []) point c.numbers.sessions ∙ (c.numbers.invariant.0 point is).1,
  )),
  omega (arith, c.numbers.invariant.1, c.in_ok-note_one.ensures.steps.later),
  omega (arith, c.numbers.invariant.2, c.in_ok-note_one.ensures.steps.most),
)

pub returns-clause-ok : goal.returns-clause-ok
returns-clause-ok g c = λ point is. ap (λ l. in_turn (noted keeping (c.args.change.now ∷ []) point) c.numbers.sessions l) (sym (drop_all c.numbers.number-index c.args.numbers.now c.numbers-test.false)) ∙ (c.numbers.invariant.0 point is).0
