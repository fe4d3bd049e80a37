use Rattle.std.proofs.Common.{None}
use Rattle.subscr.proofs.Noting.{updated}
use Rattle.subscr.proofs.named.forget.Goals as goal

pub returns : goal.returns
returns c = updated c.args.name.now c.args.names.now c.remove.new.self None c.remove.ensures.updates
