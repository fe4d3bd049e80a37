use Rattle.std.proofs.Common.{◌∙◌}
use Rattle.replay.specs.TwoWorlds.{woven}
use Rattle.replay.proofs.ends.all_clients.Goals as goal

pub returns : goal.returns
returns c = c.in_ok-clients.ensures ∙ (λ i. woven c.args.order.now (c.in_ok-near.ensures i) (c.in_ok-far.ensures i))
