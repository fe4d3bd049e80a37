-- What it watched goes with it.
use Rattle.std.proofs.Common.{sym, subst}
use Rattle.subscr.specs.Watching.{watching_of}
use Rattle.pushsession.specs.Kept.{KeptSession}
use Rattle.livesessions.specs.NumberedSessions.{Numbered}
use Rattle.livesessions.specs.Watched.{Watches}
use Rattle.pushserver.proofs.hub_state.HubState.end.Goals as goal

pub returns-clause-watched : goal.returns-clause-watched
returns-clause-watched c = subst (λ (xs : Numbered KeptSession). Watches (watching_of c.unwatch.new.watchers) xs) (sym c.remove.ensures) (c.unwatch.ensures c.requires.watched)
