use Rattle.history.proofs.Starts.{start-home}
use Rattle.history.proofs.laws.starts_are_at_home.Goals as goal

pub returns : goal.returns
returns c state start apart named = start-home state start apart named
