-- One wish after the other.
use Rattle.std.proofs.Common.{ℕ, ◌<◌, ◌≤◌, sym, subst}
use Rattle.pushclient.specs.Rule.{dropped_wish}
use Rattle.pushclient.proofs.Turns.{turn, ends}
use Rattle.pushclient.proofs.wishes.drop_wish.Goals as goal

pub wishes-preserved : goal.wishes-preserved
wishes-preserved c = turn (dropped_wish c.args.question.now) c.args.wishes.now c.wishes.wishes c.wishes.place c.index-wishes-place.result c.drop_one.new.wish (subst (λ (n : ℕ). c.wishes.place < n) (sym c.wishes.auto.wishes) c.wishes-test.true) c.index-wishes-place.is c.drop_one.ensures c.wishes.invariant

pub returns : goal.returns
returns c = ends (dropped_wish c.args.question.now) c.args.wishes.now c.wishes.wishes c.wishes.place (subst (λ (n : ℕ). n ≤ c.wishes.place) (sym c.wishes.auto.wishes) c.wishes-test.false) c.wishes.invariant
