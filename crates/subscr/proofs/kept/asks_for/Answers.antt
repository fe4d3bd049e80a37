use Rattle.std.proofs.Common.{◌∙◌}
use Rattle.subscr.proofs.AskedAt.{asks-four}
use Rattle.subscr.proofs.kept.asks_for.Goals as goal

pub returns : goal.returns
returns c = c.has_kind_or_any.ensures ∙ asks-four c.args.key.now c.args.asks.now
