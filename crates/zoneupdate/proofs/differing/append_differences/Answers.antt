use Rattle.zoneupdate.proofs.SideBySide.{differences_more}
use Rattle.zoneupdate.proofs.differing.append_differences.Goals as goal

pub rows-preserved : goal.rows-preserved
rows-preserved c = differences_more c.in-Some.row _ _ _ _ c.next.new.self.rest.items _ _ _ _ c.in-Some.ensures.steps.0 c.rows.invariant c.in_ok-from.ensures c.in_ok-behind.ensures
