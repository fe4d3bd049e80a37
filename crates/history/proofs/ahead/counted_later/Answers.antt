-- The state behind them is the same.
use Rattle.history.proofs.AheadOfStarts.{ahead-still}
use Rattle.history.proofs.ahead.counted_later.Goals as goal

pub returns : goal.returns
returns c = λ start entries is. ahead-still start entries c.args.count c.args.ahead is c.requires
