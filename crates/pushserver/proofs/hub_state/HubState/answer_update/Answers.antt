-- The session is as it was, but for the names that wait since the update.
use Rattle.pushsession.specs.Requests.{message_of}
use Rattle.std.proofs.Common.{sym, ap, subst, ◌∙◌}
use Rattle.subscr.specs.Watching.{watching_of}
use Rattle.pushsession.specs.Kept.{KeptSession}
use Rattle.livesessions.specs.NumberedSessions.{Numbered}
use Rattle.pushserver.specs.HubState.{kept_of}
use Rattle.livesessions.specs.Watched.{Watches}
use Rattle.livesessions.proofs.Watched.{watched-same}
use Rattle.pushserver.proofs.JudgedTurns.{ready-output, ready-request, ready-found, update-gave}
use Rattle.livesessions.proofs.LentSessions.{on_some}
use Rattle.pushserver.proofs.hub_state.HubState.answer_update.Goals as goal

pub answer_update-requires-clause-output : goal.answer_update-requires-clause-output
answer_update-requires-clause-output g c =
    let ready = c.requires.ready in
    ready-output (kept_of c.args.self.now) c.args.number ready.session ready.there (kept_of c.judge.new.self) (c.in_ok-code.ensures.hub (message_of ready.session) ready.reads) c.in-Some.session.now c.in-Some.ensures.value ready.silent

pub answer_update-requires-clause-request : goal.answer_update-requires-clause-request
answer_update-requires-clause-request g c =
    let ready = c.requires.ready in
    ready-request (kept_of c.args.self.now) c.args.number ready.session ready.there (kept_of c.judge.new.self) (c.in_ok-code.ensures.hub (message_of ready.session) ready.reads) c.in-Some.session.now c.in-Some.ensures.value ready.request

pub returns-in-Some-clause-ok : goal.returns-in-Some-clause-ok
returns-in-Some-clause-ok g c =
    let ready = c.requires.ready in
    update-gave (kept_of c.args.self.now) c.args.number ready.session ready.there ready.live ready.silent ready.request (kept_of c.judge.new.self) c.in_ok-code.code (c.in_ok-code.ensures.hub (message_of ready.session) ready.reads) (c.in_ok-code.ensures.code (message_of ready.session) ready.reads)
    c.in-Some.session.now c.in-Some.ensures.value c.in-Some.ensures.apart c.requires.sound.apart c.now-now.result c.after_reaction.result c.args.buf.now c.after_reaction.new.buf c.answer_update.new.self c.after_reaction.new.session (c.get_mut.follows.lender c.after_reaction.new.session)
    c.now-now.ensures c.answer_update.ensures (record { given_is = c.after_reaction.ensures.given; octets = c.after_reaction.ensures.octets; session = c.after_reaction.ensures.session })
    (on_some c.get_mut.result c.in-Some.session c.in-Some.is (c.get_mut.follows.holds c.after_reaction.new.session))

pub returns-in-None-clause-ok : goal.returns-in-None-clause-ok
returns-in-None-clause-ok g c =
    let ready = c.requires.ready in
    absurd (ready-found (kept_of c.args.self.now) c.args.number ready.session ready.there (kept_of c.judge.new.self) (c.in_ok-code.ensures.hub (message_of ready.session) ready.reads) c.in-None.ensures.value)

pub returns-in-Some-clause-watched : goal.returns-in-Some-clause-watched
returns-in-Some-clause-watched g c =
    subst (λ (xs : Numbered KeptSession). Watches (watching_of c.judge.new.self.watchers) xs) (sym (on_some c.get_mut.result c.in-Some.session c.in-Some.is (c.get_mut.follows.holds c.after_reaction.new.session)))
    (watched-same c.args.number c.in-Some.session.now c.after_reaction.new.session (watching_of c.judge.new.self.watchers) c.judge.new.self.sessions c.in-Some.ensures.value
    (ap (λ (s : KeptSession). s.subscriptions.asked) (c.after_reaction.ensures.session) ∙ ap (λ (s : KeptSession). s.subscriptions.asked) c.answer_update.ensures)
    c.judge.ensures.watched)

pub returns-in-None-clause-watched : goal.returns-in-None-clause-watched
returns-in-None-clause-watched g c = subst (λ (xs : Numbered KeptSession). Watches (watching_of c.judge.new.self.watchers) xs) (sym c.get_mut.follows.holds-at-none) c.judge.ensures.watched

pub judge-requires-clause-fits : goal.judge-requires-clause-fits
judge-requires-clause-fits g c = c.requires.ready.fits
