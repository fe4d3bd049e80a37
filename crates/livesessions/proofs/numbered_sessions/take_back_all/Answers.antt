-- One session after the other is changed.
use Rattle.std.proofs.Common.{ℕ, ◌<◌, ◌≤◌, sym, subst}
use Rattle.pushsession.specs.Kept.{taken_back}
use Rattle.livesessions.proofs.NumberedSessions.{turn, ends}
use Rattle.livesessions.proofs.numbered_sessions.take_back_all.Goals as goal

pub numbered-preserved : goal.numbered-preserved
numbered-preserved c = turn (taken_back c.args.point) c.args.numbered.now c.numbered.numbered c.numbered.place c.index-numbered-place.result c.take_back.new.self (subst (λ (n : ℕ). c.numbered.place < n) (sym c.numbered.auto.numbered) c.numbered-test.true) c.index-numbered-place.is c.take_back.ensures c.numbered.invariant

pub returns : goal.returns
returns c = ends (taken_back c.args.point) c.args.numbered.now c.numbered.numbered c.numbered.place (subst (λ (n : ℕ). n ≤ c.numbered.place) (sym c.numbered.auto.numbered) c.numbered-test.false) c.numbered.invariant
