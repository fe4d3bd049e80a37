-- One wish after the other.
use Rattle.std.proofs.Common.{ℕ, ◌<◌, ◌≤◌, sym, subst}
use Rattle.pushclient.specs.Clients.{Wish, unasked}
use Rattle.pushclient.proofs.Turns.{turn, ends}
use Rattle.pushclient.proofs.wishes.unask_all.Goals as goal

pub wishes-preserved : goal.wishes-preserved
wishes-preserved c = turn (λ (w : Wish). unasked w.question) c.args.wishes.now c.wishes.wishes c.wishes.place c.index-wishes-place.result c.unask.new.wish (subst (λ (n : ℕ). c.wishes.place < n) (sym c.wishes.auto.wishes) c.wishes-test.true) c.index-wishes-place.is c.unask.ensures c.wishes.invariant

pub returns : goal.returns
returns c = ends (λ (w : Wish). unasked w.question) c.args.wishes.now c.wishes.wishes c.wishes.place (subst (λ (n : ℕ). n ≤ c.wishes.place) (sym c.wishes.auto.wishes) c.wishes-test.false) c.wishes.invariant
