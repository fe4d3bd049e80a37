use Rattle.pushserver.proofs.Bounds.{sessions_stay_within}
use Rattle.pushserver.proofs.laws.sessions_stay_within.Goals as goal

pub returns : goal.returns
returns c = sessions_stay_within
