use Rattle.zoneupdate.proofs.SideBySide.{gone_more, from_more, gone_end}
use Rattle.zoneupdate.proofs.differing.append_gone.Goals as goal

pub rows-preserved : goal.rows-preserved
rows-preserved c = (
  gone_more c.args.key.now c.in-Some.row.now _ c.in-Some.after.now _ _ _ _ c.in-Some.ensures.0 c.in-Some.ensures.1 c.in_ok-change.ensures c.in_ok-push.ensures.items c.rows.invariant.0,
  from_more c.args.key.now c.in-Some.row.now _ c.in-Some.after.now _ c.in-Some.ensures.0 c.in-Some.ensures.1 c.rows.invariant.1,
)

pub returns : goal.returns
returns c = gone_end c.args.key.now _ _ _ _ c.in_default.ensures c.rows.invariant.0 c.rows.invariant.1
