-- The session of the number alone is changed.
use Rattle.std.proofs.Common.{ap, sym, subst, ◌∙◌}
use Rattle.subscr.specs.Watching.{watching_of}
use Rattle.livesessions.specs.Watched.{Watches}
use Rattle.livesessions.proofs.Watched.{watched-same, stop-asks}
use Rattle.pushsession.specs.Kept.{KeptSession}
use Rattle.pushsession.specs.Sessions.{asked_to_stop}
use Rattle.livesessions.specs.NumberedSessions.{Numbered}
use Rattle.pushserver.specs.HubState.{kept_of}
use Rattle.livesessions.proofs.LentSessions.{on_some, lent-changed, absent}
use Rattle.pushserver.proofs.hub_state.HubState.stop.Goals as goal

pub returns-in-Some-clause-hub : goal.returns-in-Some-clause-hub
returns-in-Some-clause-hub c =
    ap (λ (xs : Numbered KeptSession). record (kept_of c.args.self.now) { sessions = xs })
    (lent-changed c.args.number c.args.self.now.sessions (c.get_mut.follows.lender c.stop.new.self) (asked_to_stop c.args.rcode c.args.delay) c.in-Some.session.now c.stop.new.self c.in-Some.ensures.value c.in-Some.ensures.apart c.stop.ensures
    (on_some c.get_mut.result c.in-Some.session c.in-Some.is (c.get_mut.follows.holds c.stop.new.self)))

pub returns-in_default-clause-hub : goal.returns-in_default-clause-hub
returns-in_default-clause-hub c = ap (λ (xs : Numbered KeptSession). record (kept_of c.args.self.now) { sessions = xs }) (c.get_mut.follows.holds-at-none ∙ absent c.args.number c.args.self.now.sessions (asked_to_stop c.args.rcode c.args.delay) c.in_default.ensures.value)

pub returns-in-Some-clause-watched : goal.returns-in-Some-clause-watched
returns-in-Some-clause-watched c =
    subst (λ (xs : Numbered KeptSession). Watches (watching_of c.args.self.now.watchers) xs) (sym (on_some c.get_mut.result c.in-Some.session c.in-Some.is (c.get_mut.follows.holds c.stop.new.self)))
    (watched-same c.args.number c.in-Some.session.now c.stop.new.self (watching_of c.args.self.now.watchers) c.args.self.now.sessions c.in-Some.ensures.value (ap (λ (s : KeptSession). s.subscriptions.asked) c.stop.ensures ∙ stop-asks c.args.rcode c.args.delay c.in-Some.session.now) c.requires.watched)

pub returns-in_default-clause-watched : goal.returns-in_default-clause-watched
returns-in_default-clause-watched c = subst (λ (xs : Numbered KeptSession). Watches (watching_of c.args.self.now.watchers) xs) (sym c.get_mut.follows.holds-at-none) c.requires.watched
