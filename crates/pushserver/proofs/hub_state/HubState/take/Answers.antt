-- The session of the number alone takes octets.
use Rattle.std.proofs.Common.{ap, sym, subst, ◌∙◌}
use Rattle.subscr.specs.Watching.{watching_of}
use Rattle.livesessions.specs.Watched.{Watches}
use Rattle.livesessions.proofs.Watched.{watched-same}
use Rattle.pushsession.specs.Kept.{KeptSession}
use Rattle.pushsession.specs.Sessions.{with_piece}
use Rattle.livesessions.specs.NumberedSessions.{Numbered}
use Rattle.pushserver.specs.HubState.{kept_of}
use Rattle.livesessions.proofs.LentSessions.{on_some, lent-changed, absent}
use Rattle.pushserver.proofs.GiveSteps.{taken-some, taken-none}
use Rattle.pushserver.proofs.hub_state.HubState.take.Goals as goal

pub returns-in-Some-clause-count : goal.returns-in-Some-clause-count
returns-in-Some-clause-count c = c.take.ensures.count ∙ taken-some (kept_of c.args.self.now) c.args.number c.in-Some.session.now c.args.piece.now c.in-Some.ensures.value

pub returns-in-Some-clause-hub : goal.returns-in-Some-clause-hub
returns-in-Some-clause-hub c =
    ap (λ (xs : Numbered KeptSession). record (kept_of c.args.self.now) { sessions = xs })
    (lent-changed c.args.number c.args.self.now.sessions (c.get_mut.follows.lender c.take.new.self) (with_piece c.args.piece.now) c.in-Some.session.now c.take.new.self c.in-Some.ensures.value c.in-Some.ensures.apart c.take.ensures.taken
    (on_some c.get_mut.result c.in-Some.session c.in-Some.is (c.get_mut.follows.holds c.take.new.self)))

pub returns-in-None-clause-count : goal.returns-in-None-clause-count
returns-in-None-clause-count c = taken-none (kept_of c.args.self.now) c.args.number c.args.piece.now c.in-None.ensures.value

pub returns-in-None-clause-hub : goal.returns-in-None-clause-hub
returns-in-None-clause-hub c = ap (λ (xs : Numbered KeptSession). record (kept_of c.args.self.now) { sessions = xs }) (c.get_mut.follows.holds-at-none ∙ absent c.args.number c.args.self.now.sessions (with_piece c.args.piece.now) c.in-None.ensures.value)

pub returns-in-Some-clause-watched : goal.returns-in-Some-clause-watched
returns-in-Some-clause-watched c =
    subst (λ (xs : Numbered KeptSession). Watches (watching_of c.args.self.now.watchers) xs) (sym (on_some c.get_mut.result c.in-Some.session c.in-Some.is (c.get_mut.follows.holds c.take.new.self)))
    (watched-same c.args.number c.in-Some.session.now c.take.new.self (watching_of c.args.self.now.watchers) c.args.self.now.sessions c.in-Some.ensures.value (ap (λ (s : KeptSession). s.subscriptions.asked) c.take.ensures.taken) c.requires.watched)

pub returns-in-None-clause-watched : goal.returns-in-None-clause-watched
returns-in-None-clause-watched c = subst (λ (xs : Numbered KeptSession). Watches (watching_of c.args.self.now.watchers) xs) (sym c.get_mut.follows.holds-at-none) c.requires.watched
