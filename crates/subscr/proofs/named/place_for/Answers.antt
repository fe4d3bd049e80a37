use Rattle.subscr.proofs.Ordered.{behind-none}
use Rattle.subscr.proofs.named.place_for.Goals as goal

pub returns-in-None : goal.returns-in-None
returns-in-None c = behind-none c.args.ask.now c.args.asks.now c.in-None.ensures
