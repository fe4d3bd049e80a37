use Rattle.std.proofs.Common.{subst}
use Rattle.rrset.specs.RecordSet.{with_values}
use Rattle.coalesce.specs.Sides.{IsOneSide, is_asked}
use Rattle.coalesce.specs.Waiting.{values_of}
use Rattle.coalesce.proofs.OneSide.{only_one_side}
use Rattle.coalesce.proofs.side.Side.records.Goals as goal

pub returns-clause-side : goal.returns-clause-side
returns-clause-side c =
    subst IsOneSide c.self.view_is (only_one_side (is_asked c.self.inside.asking) (with_values (values_of c.self.inside.values.now) c.self.inside.rows.now) c.self.invariant.2)
