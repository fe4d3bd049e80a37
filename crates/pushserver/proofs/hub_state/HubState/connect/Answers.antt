-- The next number is new.
use Rattle.std.proofs.Common.{ap, sym, subst}
use Rattle.subscr.specs.Watching.{watching_of}
use Rattle.pushsession.specs.Kept.{KeptSession}
use Rattle.livesessions.specs.NumberedSessions.{Numbered}
use Rattle.livesessions.specs.Watched.{Watches}
use Rattle.livesessions.proofs.NumberedSessions.{below-new}
use Rattle.livesessions.proofs.Watched.{watched-last}
use Rattle.pushserver.proofs.hub_state.HubState.connect.Goals as goal

pub push-requires : goal.push-requires
push-requires c = below-new c.args.self.now.numbers_given c.args.self.now.sessions c.requires.below

pub returns-clause-watched : goal.returns-clause-watched
returns-clause-watched c =
    subst (λ (xs : Numbered KeptSession). Watches (watching_of c.args.self.now.watchers) xs) (sym c.in_ok-push.ensures.ok)
    (watched-last c.args.self.now.numbers_given c.in_ok-session.session (ap (λ (s : KeptSession). s.subscriptions.asked) c.in_ok-session.ensures) (watching_of c.args.self.now.watchers) c.args.self.now.sessions c.requires.watched)
