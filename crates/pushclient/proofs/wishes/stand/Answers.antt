-- One wish after the other.
use Rattle.std.proofs.Common.{ℕ, ◌<◌, ◌≤◌, sym, subst}
use Rattle.pushclient.specs.Rule.{standing_of, stood_wish}
use Rattle.pushclient.proofs.Turns.{turn, ends}
use Rattle.pushclient.proofs.wishes.stand.Goals as goal

pub wishes-preserved : goal.wishes-preserved
wishes-preserved c = turn (stood_wish c.args.question.now (standing_of c.args.standing)) c.args.wishes.now c.wishes.wishes c.wishes.place c.index-wishes-place.result c.stand_one.new.wish (subst (λ (n : ℕ). c.wishes.place < n) (sym c.wishes.auto.wishes) c.wishes-test.true) c.index-wishes-place.is c.stand_one.ensures c.wishes.invariant

pub returns : goal.returns
returns c = ends (stood_wish c.args.question.now (standing_of c.args.standing)) c.args.wishes.now c.wishes.wishes c.wishes.place (subst (λ (n : ℕ). n ≤ c.wishes.place) (sym c.wishes.auto.wishes) c.wishes-test.false) c.wishes.invariant
