use Rattle.std.proofs.Common.{◌∙◌}
use Rattle.linkcache.proofs.HeardSteps.{has-matched}
use Rattle.linkcache.proofs.laying.has_row.Goals as goal

pub returns : goal.returns
returns c = c.is_some.ensures ∙ has-matched (λ row. row.now) c.args.key.now c.args.rows.now.rows c.get.result c.get.ensures
