-- The records of the homes are those after all entries.
use Rattle.std.proofs.Common.{ap}
use Rattle.rrset.specs.Tables.{TableState}
use Rattle.rrset.specs.declared.record.Shown.{Shown}
use Rattle.history.specs.Kept.{PointsKept}
use Rattle.history.proofs.Present.{all-present}
use Rattle.history.proofs.points.Points.table.Goals as goal

pub returns : goal.returns
returns c =
    all-present (λ (v : TableState Shown). v.rows) c.self.inside.past c.args.self.now.past c.self.inside.homes c.self.inside.moment c.table.result c.self.invariant.present
    (ap (λ (p : PointsKept). p.past) c.self.view_is) c.table.ensures
