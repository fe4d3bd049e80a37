-- A copy of the newest homes is ahead.
use Rattle.history.proofs.AheadOfStarts.{ahead-copied}
use Rattle.history.proofs.ahead.ahead_later.Goals as goal

pub returns-in-None : goal.returns-in-None
returns-in-None c = λ start entries is sum newest. ahead-copied start entries c.args.count c.args.left c.args.moment c.args.homes.now c.copied_ahead.result sum newest c.copied_ahead.ensures.state c.copied_ahead.ensures.count
