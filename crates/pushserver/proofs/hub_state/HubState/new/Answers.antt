-- Nobody is there, and nobody watches.
use Rattle.livesessions.proofs.Watched.{watched-new}
use Rattle.pushserver.proofs.hub_state.HubState.new.Goals as goal

pub returns-clause-watched : goal.returns-clause-watched
returns-clause-watched c = watched-new c.new-3.result c.new-2.result c.new-3.ensures c.new-2.ensures
