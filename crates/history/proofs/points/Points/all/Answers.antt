-- The records of the homes are those after all entries.
use Rattle.std.proofs.Common.{ap}
use Rattle.history.specs.Kept.{PointsKept}
use Rattle.history.proofs.Present.{all-present}
use Rattle.history.proofs.points.Points.all.Goals as goal

pub returns : goal.returns
returns c =
    all-present (λ v. v.items) c.self.inside.past c.args.self.now.past c.self.inside.homes c.self.inside.moment c.all.result c.self.invariant.present
    (ap (λ (p : PointsKept). p.past) c.self.view_is) c.all.ensures
