use Rattle.coalesce.proofs.OneSide.{only_all}
use Rattle.coalesce.proofs.side.Side.new.Goals as goal

pub returns : goal.returns
returns c = only_all c.args.rows.now
