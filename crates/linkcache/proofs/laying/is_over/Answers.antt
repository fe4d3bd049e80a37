use Rattle.std.proofs.Common.{◌∙◌}
use Rattle.linkcache.proofs.HeardSteps.{has-matched}
use Rattle.linkcache.proofs.laying.is_over.Goals as goal

pub returns : goal.returns
returns c = c.is_some.ensures ∙ has-matched (λ row. row.now) c.args.key.now c.args.over.now.rows c.get.result c.get.ensures
