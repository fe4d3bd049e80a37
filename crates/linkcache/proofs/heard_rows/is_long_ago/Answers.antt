use Rattle.std.proofs.Common.{arith}
use Rattle.linkcache.proofs.Numbers.{long_ago}
use Rattle.linkcache.proofs.heard_rows.is_long_ago.Goals as goal

pub returns : goal.returns
returns c = long_ago c.args.moment c.args.now c.saturating_add.result (omega (arith, c.ranges.now.fits)) c.saturating_add.ensures
