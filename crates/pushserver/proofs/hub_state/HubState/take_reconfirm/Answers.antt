-- The session is as it was, but for the names that wait since the reconfirmation.
use Rattle.std.proofs.Common.{sym, ap, subst}
use Rattle.subscr.specs.Watching.{watching_of}
use Rattle.pushsession.specs.Kept.{KeptSession}
use Rattle.livesessions.specs.NumberedSessions.{Numbered}
use Rattle.pushserver.specs.HubState.{kept_of}
use Rattle.livesessions.specs.Watched.{Watches}
use Rattle.livesessions.proofs.Watched.{watched-moved, moves-on}
use Rattle.pushserver.proofs.ReconfirmTurns.{ready-request, ready-found, reconfirm-gave}
use Rattle.livesessions.proofs.LentSessions.{on_some}
use Rattle.pushserver.proofs.hub_state.HubState.take_reconfirm.Goals as goal

pub reconfirm-requires-in-Some : goal.reconfirm-requires-in-Some
reconfirm-requires-in-Some g c =
    let ready = c.requires.ready in
    ready-request (kept_of c.args.self.now) c.args.number ready.session ready.there c.args.rr (kept_of c.reconfirm.new.self) c.in_ok-reconfirm.ensures.hub c.in-Some.session.now c.in-Some.ensures.value ready.request

pub returns-in-Some-clause-ok : goal.returns-in-Some-clause-ok
returns-in-Some-clause-ok g c =
    let ready = c.requires.ready in
    reconfirm-gave (kept_of c.args.self.now) c.args.number ready.session ready.there c.args.rr (kept_of c.reconfirm.new.self) c.in_ok-reconfirm.ensures.hub ready.live ready.silent ready.request c.requires.sound.apart
    c.in-Some.session.now c.in-Some.ensures.value c.in-Some.ensures.apart c.now-now.result c.after_reaction.result c.args.buf.now c.after_reaction.new.buf c.reconfirm-in-Some.new.self c.after_reaction.new.session (c.get_mut.follows.lender c.after_reaction.new.session)
    c.now-now.ensures c.reconfirm-in-Some.ensures.session (record { given_is = c.after_reaction.ensures.given; octets = c.after_reaction.ensures.octets; session = c.after_reaction.ensures.session })
    (on_some c.get_mut.result c.in-Some.session c.in-Some.is (c.get_mut.follows.holds c.after_reaction.new.session))

pub returns-in-None-clause-ok : goal.returns-in-None-clause-ok
returns-in-None-clause-ok g c =
    let ready = c.requires.ready in
    absurd (ready-found (kept_of c.args.self.now) c.args.number ready.session ready.there c.args.rr (kept_of c.reconfirm.new.self) c.in_ok-reconfirm.ensures.hub c.in-None.ensures.value)

pub returns-in-Some-clause-watched : goal.returns-in-Some-clause-watched
returns-in-Some-clause-watched g c =
    subst (λ (xs : Numbered KeptSession). Watches (watching_of c.reconfirm-in-Some.new.watchers) xs) (sym (on_some c.get_mut.result c.in-Some.session c.in-Some.is (c.get_mut.follows.holds c.after_reaction.new.session)))
    (watched-moved c.args.number c.in-Some.session.now c.after_reaction.new.session (watching_of c.reconfirm.new.self.watchers) (watching_of c.reconfirm-in-Some.new.watchers) c.reconfirm.new.self.sessions c.in-Some.ensures.value
    (moves-on c.args.number c.in-Some.session.now c.reconfirm-in-Some.new.self c.after_reaction.new.session (watching_of c.reconfirm.new.self.watchers) (watching_of c.reconfirm-in-Some.new.watchers) c.reconfirm-in-Some.ensures.watched (ap (λ (s : KeptSession). s.subscriptions.asked) c.after_reaction.ensures.session))
    c.reconfirm.ensures.watched)

pub returns-in-None-clause-watched : goal.returns-in-None-clause-watched
returns-in-None-clause-watched g c = subst (λ (xs : Numbered KeptSession). Watches (watching_of c.reconfirm.new.self.watchers) xs) (sym c.get_mut.follows.holds-at-none) c.reconfirm.ensures.watched
