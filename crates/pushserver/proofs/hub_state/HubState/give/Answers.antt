-- One turn of the session that is found, or the judging of an update.
use Rattle.std.proofs.Common.{List, ℕ, ◌≡◌, length, sym, ap, subst}
use Rattle.std.specs.Prelude.{IfOk, OnErr}
use Rattle.pushsession.specs.Kept.{KeptSession}
use Rattle.livesessions.specs.NumberedSessions.{Numbered}
use Rattle.subscr.specs.Watching.{watching_of}
use Rattle.livesessions.specs.Watched.{Watches}
use Rattle.livesessions.proofs.Watched.{turn-watched}
use Rattle.pushserver.specs.Giving.{give}
use Rattle.pushserver.specs.HubState.{kept_of, Gave, IsToJudge, IsToReconfirm}
use Rattle.pushserver.proofs.SessionTurns.{gone-gave}
use Rattle.livesessions.proofs.LentSessions.{on_some, as_before}
use Rattle.pushserver.proofs.GiveSteps.{sound-later, on_each_err, seat-of, did-gave, to-judge, to-reconfirm, turn-wants, judge-wants, reconfirm-wants}
use Rattle.pushserver.proofs.hub_state.HubState.give.Goals as goal

pub returns-in_err-given-clause-err : goal.returns-in_err-given-clause-err
returns-in_err-given-clause-err g c =
    on_each_err c.from_residual.result (ap (λ (xs : Numbered KeptSession). record (kept_of c.args.self.now) { sessions = xs })
    (as_before c.args.number c.args.self.now.sessions (c.get_mut.follows.lender c.take_turn.new.session) c.in-Some.session.now c.take_turn.new.session c.in-Some.ensures.value c.in-Some.ensures.apart c.in_err-given.ensures.err
    (on_some c.get_mut.result c.in-Some.session c.in-Some.is (c.get_mut.follows.holds c.take_turn.new.session))))

pub returns-in_err-given-clause-memory : goal.returns-in_err-given-clause-memory
returns-in_err-given-clause-memory g c =
    on_each_err c.from_residual.result (turn-wants (kept_of c.args.self.now) c.args.number c.in-Some.session.now c.in-Some.ensures.value c.in_err-given.ensures.memory)

pub answer_update-requires-clause-sound : goal.answer_update-requires-clause-sound
answer_update-requires-clause-sound g c =
    let came = to-judge c.args.self.now c.args.number c.in-Some.session.now c.take_turn.new.session c.in_ok-given.field-0 c.in-Judge.found c.args.buf.now c.take_turn.new.buf (c.get_mut.follows.lender c.take_turn.new.session) c.requires c.in-Some.ensures.value c.in-Some.ensures.apart
    c.in-Judge.is (on_some c.get_mut.result c.in-Some.session c.in-Some.is (c.get_mut.follows.holds c.take_turn.new.session)) c.in_ok-given.ensures.ok in
    sound-later c.args.self.now c.take_turn.new.watchers (c.get_mut.follows.lender c.take_turn.new.session) came.sessions (turn-watched c.args.number c.in-Some.session.now c.take_turn.new.session (watching_of c.args.self.now.watchers) (watching_of c.take_turn.new.watchers) c.args.self.now.sessions (c.get_mut.follows.lender c.take_turn.new.session) c.in-Some.ensures.value
    (on_some c.get_mut.result c.in-Some.session c.in-Some.is (c.get_mut.follows.holds c.take_turn.new.session)) c.take_turn.ensures.watched c.requires.watched) c.requires

pub answer_update-requires-clause-ready : goal.answer_update-requires-clause-ready
answer_update-requires-clause-ready g c =
    let came = to-judge c.args.self.now c.args.number c.in-Some.session.now c.take_turn.new.session c.in_ok-given.field-0 c.in-Judge.found c.args.buf.now c.take_turn.new.buf (c.get_mut.follows.lender c.take_turn.new.session) c.requires c.in-Some.ensures.value c.in-Some.ensures.apart
    c.in-Judge.is (on_some c.get_mut.result c.in-Some.session c.in-Some.is (c.get_mut.follows.holds c.take_turn.new.session)) c.in_ok-given.ensures.ok in
    subst (IsToJudge c.args.number c.in-Judge.found) (sym came.sessions) came.ready

pub returns-in-Did-clause-ok : goal.returns-in-Did-clause-ok
returns-in-Did-clause-ok g c =
    did-gave c.args.self.now c.args.number c.in-Some.session.now c.take_turn.new.session c.in_ok-given.field-0 c.in-Did.given c.args.buf.now c.take_turn.new.buf (c.get_mut.follows.lender c.take_turn.new.session) c.in-Did.is
    (on_some c.get_mut.result c.in-Some.session c.in-Some.is (c.get_mut.follows.holds c.take_turn.new.session))
    (c.in_ok-given.ensures.ok (kept_of c.args.self.now) c.args.number (seat-of c.args.self.now c.args.number c.in-Some.session.now c.requires c.in-Some.ensures.value c.in-Some.ensures.apart))

pub returns-in-Judge-clause-ok : goal.returns-in-Judge-clause-ok
returns-in-Judge-clause-ok g c =
    let came = to-judge c.args.self.now c.args.number c.in-Some.session.now c.take_turn.new.session c.in_ok-given.field-0 c.in-Judge.found c.args.buf.now c.take_turn.new.buf (c.get_mut.follows.lender c.take_turn.new.session) c.requires c.in-Some.ensures.value c.in-Some.ensures.apart
    c.in-Judge.is (on_some c.get_mut.result c.in-Some.session c.in-Some.is (c.get_mut.follows.holds c.take_turn.new.session)) c.in_ok-given.ensures.ok in
    subst (λ (buf : List ℕ). IfOk c.answer_update.result (λ given. Gave (give (kept_of c.args.self.now) c.args.number (length buf)) given buf c.answer_update.new.buf (kept_of c.answer_update.new.self))) came.octets
    (subst (λ (xs : Numbered KeptSession). IfOk c.answer_update.result (λ given. Gave (give (kept_of (record c.args.self.now { sessions = xs })) c.args.number (length c.take_turn.new.buf)) given c.take_turn.new.buf c.answer_update.new.buf (kept_of c.answer_update.new.self))) came.sessions
    c.answer_update.ensures.ok)

pub returns-in-Judge-clause-err : goal.returns-in-Judge-clause-err
returns-in-Judge-clause-err g c =
    let came = to-judge c.args.self.now c.args.number c.in-Some.session.now c.take_turn.new.session c.in_ok-given.field-0 c.in-Judge.found c.args.buf.now c.take_turn.new.buf (c.get_mut.follows.lender c.take_turn.new.session) c.requires c.in-Some.ensures.value c.in-Some.ensures.apart
    c.in-Judge.is (on_some c.get_mut.result c.in-Some.session c.in-Some.is (c.get_mut.follows.holds c.take_turn.new.session)) c.in_ok-given.ensures.ok in
    subst (λ (xs : Numbered KeptSession). OnErr c.answer_update.result (kept_of c.answer_update.new.self ≡ kept_of (record c.args.self.now { sessions = xs }))) came.sessions c.answer_update.ensures.err

pub returns-in-Judge-clause-memory : goal.returns-in-Judge-clause-memory
returns-in-Judge-clause-memory g c =
    let came = to-judge c.args.self.now c.args.number c.in-Some.session.now c.take_turn.new.session c.in_ok-given.field-0 c.in-Judge.found c.args.buf.now c.take_turn.new.buf (c.get_mut.follows.lender c.take_turn.new.session) c.requires c.in-Some.ensures.value c.in-Some.ensures.apart
    c.in-Judge.is (on_some c.get_mut.result c.in-Some.session c.in-Some.is (c.get_mut.follows.holds c.take_turn.new.session)) c.in_ok-given.ensures.ok in
    on_each_err c.answer_update.result (judge-wants (kept_of c.args.self.now) c.args.number c.in-Judge.found came.ready)

pub take_reconfirm-requires-clause-sound : goal.take_reconfirm-requires-clause-sound
take_reconfirm-requires-clause-sound g c =
    let came = to-reconfirm c.args.self.now c.args.number c.in-Some.session.now c.take_turn.new.session c.in_ok-given.field-0 c.in-Reconfirm.rr c.args.buf.now c.take_turn.new.buf (c.get_mut.follows.lender c.take_turn.new.session) c.requires c.in-Some.ensures.value c.in-Some.ensures.apart
    c.in-Reconfirm.is (on_some c.get_mut.result c.in-Some.session c.in-Some.is (c.get_mut.follows.holds c.take_turn.new.session)) c.in_ok-given.ensures.ok in
    sound-later c.args.self.now c.take_turn.new.watchers (c.get_mut.follows.lender c.take_turn.new.session) came.sessions (turn-watched c.args.number c.in-Some.session.now c.take_turn.new.session (watching_of c.args.self.now.watchers) (watching_of c.take_turn.new.watchers) c.args.self.now.sessions (c.get_mut.follows.lender c.take_turn.new.session) c.in-Some.ensures.value
    (on_some c.get_mut.result c.in-Some.session c.in-Some.is (c.get_mut.follows.holds c.take_turn.new.session)) c.take_turn.ensures.watched c.requires.watched) c.requires

pub take_reconfirm-requires-clause-ready : goal.take_reconfirm-requires-clause-ready
take_reconfirm-requires-clause-ready g c =
    let came = to-reconfirm c.args.self.now c.args.number c.in-Some.session.now c.take_turn.new.session c.in_ok-given.field-0 c.in-Reconfirm.rr c.args.buf.now c.take_turn.new.buf (c.get_mut.follows.lender c.take_turn.new.session) c.requires c.in-Some.ensures.value c.in-Some.ensures.apart
    c.in-Reconfirm.is (on_some c.get_mut.result c.in-Some.session c.in-Some.is (c.get_mut.follows.holds c.take_turn.new.session)) c.in_ok-given.ensures.ok in
    subst (IsToReconfirm c.args.number c.in-Reconfirm.rr) (sym came.sessions) came.ready

pub returns-in-Reconfirm-clause-ok : goal.returns-in-Reconfirm-clause-ok
returns-in-Reconfirm-clause-ok g c =
    let came = to-reconfirm c.args.self.now c.args.number c.in-Some.session.now c.take_turn.new.session c.in_ok-given.field-0 c.in-Reconfirm.rr c.args.buf.now c.take_turn.new.buf (c.get_mut.follows.lender c.take_turn.new.session) c.requires c.in-Some.ensures.value c.in-Some.ensures.apart
    c.in-Reconfirm.is (on_some c.get_mut.result c.in-Some.session c.in-Some.is (c.get_mut.follows.holds c.take_turn.new.session)) c.in_ok-given.ensures.ok in
    subst (λ (buf : List ℕ). IfOk c.take_reconfirm.result (λ given. Gave (give (kept_of c.args.self.now) c.args.number (length buf)) given buf c.take_reconfirm.new.buf (kept_of c.take_reconfirm.new.self))) came.octets
    (subst (λ (xs : Numbered KeptSession). IfOk c.take_reconfirm.result (λ given. Gave (give (kept_of (record c.args.self.now { sessions = xs })) c.args.number (length c.take_turn.new.buf)) given c.take_turn.new.buf c.take_reconfirm.new.buf (kept_of c.take_reconfirm.new.self))) came.sessions
    c.take_reconfirm.ensures.ok)

pub returns-in-Reconfirm-clause-err : goal.returns-in-Reconfirm-clause-err
returns-in-Reconfirm-clause-err g c =
    let came = to-reconfirm c.args.self.now c.args.number c.in-Some.session.now c.take_turn.new.session c.in_ok-given.field-0 c.in-Reconfirm.rr c.args.buf.now c.take_turn.new.buf (c.get_mut.follows.lender c.take_turn.new.session) c.requires c.in-Some.ensures.value c.in-Some.ensures.apart
    c.in-Reconfirm.is (on_some c.get_mut.result c.in-Some.session c.in-Some.is (c.get_mut.follows.holds c.take_turn.new.session)) c.in_ok-given.ensures.ok in
    subst (λ (xs : Numbered KeptSession). OnErr c.take_reconfirm.result (kept_of c.take_reconfirm.new.self ≡ kept_of (record c.args.self.now { sessions = xs }))) came.sessions c.take_reconfirm.ensures.err

pub returns-in-Reconfirm-clause-memory : goal.returns-in-Reconfirm-clause-memory
returns-in-Reconfirm-clause-memory g c =
    let came = to-reconfirm c.args.self.now c.args.number c.in-Some.session.now c.take_turn.new.session c.in_ok-given.field-0 c.in-Reconfirm.rr c.args.buf.now c.take_turn.new.buf (c.get_mut.follows.lender c.take_turn.new.session) c.requires c.in-Some.ensures.value c.in-Some.ensures.apart
    c.in-Reconfirm.is (on_some c.get_mut.result c.in-Some.session c.in-Some.is (c.get_mut.follows.holds c.take_turn.new.session)) c.in_ok-given.ensures.ok in
    on_each_err c.take_reconfirm.result (reconfirm-wants (kept_of c.args.self.now) c.args.number c.in-Reconfirm.rr came.ready)

pub returns-in_err-given-clause-watched : goal.returns-in_err-given-clause-watched
returns-in_err-given-clause-watched g c =
    turn-watched c.args.number c.in-Some.session.now c.take_turn.new.session (watching_of c.args.self.now.watchers) (watching_of c.take_turn.new.watchers) c.args.self.now.sessions (c.get_mut.follows.lender c.take_turn.new.session) c.in-Some.ensures.value
    (on_some c.get_mut.result c.in-Some.session c.in-Some.is (c.get_mut.follows.holds c.take_turn.new.session)) c.take_turn.ensures.watched c.requires.watched

pub returns-in-Did-clause-watched : goal.returns-in-Did-clause-watched
returns-in-Did-clause-watched g c =
    turn-watched c.args.number c.in-Some.session.now c.take_turn.new.session (watching_of c.args.self.now.watchers) (watching_of c.take_turn.new.watchers) c.args.self.now.sessions (c.get_mut.follows.lender c.take_turn.new.session) c.in-Some.ensures.value
    (on_some c.get_mut.result c.in-Some.session c.in-Some.is (c.get_mut.follows.holds c.take_turn.new.session)) c.take_turn.ensures.watched c.requires.watched

pub returns-in_default-clause-watched : goal.returns-in_default-clause-watched
returns-in_default-clause-watched g c = subst (λ (xs : Numbered KeptSession). Watches (watching_of c.args.self.now.watchers) xs) (sym c.get_mut.follows.holds-at-none) c.requires.watched

pub returns-in_default-clause-ok : goal.returns-in_default-clause-ok
returns-in_default-clause-ok g c = gone-gave (kept_of c.args.self.now) c.args.number c.args.buf.now _ c.in_default.ensures.value c.get_mut.follows.holds-at-none
