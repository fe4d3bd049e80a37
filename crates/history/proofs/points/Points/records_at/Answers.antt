-- The records of the homes at the point.
use Rattle.std.proofs.Common.{ap}
use Rattle.history.specs.Kept.{PointsKept}
use Rattle.history.proofs.Present.{matching-point}
use Rattle.history.proofs.points.Points.records_at.Goals as goal

pub returns : goal.returns
returns c =
    matching-point c.self.inside.past c.args.self.now.past c.args.point c.in_ok-homes.ensures.0 c.args.question.now c.in_ok-homes.homes c.matching.result (ap (λ (p : PointsKept). p.past) c.self.view_is) c.in_ok-homes.ensures.1 c.matching.ensures
