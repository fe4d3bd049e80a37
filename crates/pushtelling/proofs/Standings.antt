-- What holds of a session's standing however it ends or stops is kept by each step, as no step brings it to another standing.
--     Has Q session      so it is of its standing
--     has-step      each step of one session keeps that
--     has-ended_where      so does its end
use Rattle.std.proofs.Common.{ℕ, Bool, true, false, cond, List, [], ◌∷◌, Option, Some, None}
use Rattle.dsosession.specs.Reactions.{server_reaction}
use Rattle.dsosession.specs.declared.session.EndReason.{EndReason}
use Rattle.dsosession.specs.declared.session.EndReason.TheVariants as ends
use Rattle.dsosession.specs.declared.session.Reaction.{Reaction}
use Rattle.dsosession.specs.declared.session.Reaction.TheVariants.{Answer, Grant, Abort, Subscribe, Unsubscribe, Reconfirm, Update, Query, NotImplemented}
use Rattle.dsotlv.specs.Answers.{answer_to}
use Rattle.dsotlv.specs.Messages.{head_of, primary_data}
use Rattle.dsotlv.specs.Notices.{question_of}
use Rattle.dsotlv.specs.declared.message.DsoHead.{DsoHead}
use Rattle.dsotlv.specs.declared.message.Notice.{Notice}
use Rattle.pushsession.specs.Reactions.{reacts_itself, by_itself}
use Rattle.pushsession.specs.Sessions.{ended_with, ended_where, says_stop}
use Rattle.pushsession.specs.Subscribing.{Verdict, says_notices, subscribed, says_first_answer, first_answer_size, decided, answered}
use Rattle.pushsession.specs.declared.session_status.SessionStatus.{SessionStatus}
use Rattle.pushsession.specs.declared.session_status.SessionStatus.TheVariants.{Stopped, Ended}
use Rattle.pushserver.specs.Giving.{has_home}
use Rattle.pushserver.specs.Hubs.{now, keeps_now, tells_now}
use Rattle.pushserver.specs.PlainHubs.{Hub, Session, Queue, plain_keeps}
use Rattle.pushserver.proofs.Subscribing.{verdict-holds}
use Rattle.pushserver.proofs.Walks.{AnyMessage, Step, restarts, reacts, answers_subscribe, answers_update, answers_query, packs_names, comes_to_stop, ends_with, copies_front}
use Rattle.pushserver.proofs.hub_steps.Cases.{itself_as}
use Rattle.rrset.specs.Header.{id_of}
use Rattle.rrset.specs.Rcodes.{noerror}
use Rattle.rrset.specs.declared.record.Question.{Question}

abbrev pub Has : (SessionStatus → Type 0) → Session → Type 0
Has Q session = Q session.standing

module _ (Q : SessionStatus → Type 0) (ended : (reason : EndReason) → Q (Ended reason)) (waits : (since : ℕ) → Q (Stopped since)) where
  has-notices : (point t : ℕ) (notices : List Notice) (session : Session) → Has Q session → Has Q (says_notices (plain_keeps point) t notices session)
  has-notices point t [] session h = h
  has-notices point t (n ∷ ns) session h = h

  has-first : (point t : ℕ) (answer : List ℕ) (notices : List Notice) (before : Queue) (session : Session) → Has Q session → Has Q (says_first_answer (plain_keeps point) t answer notices before session)
  has-first point t answer [] before session h = h
  has-first point t answer (n ∷ ns) before session h = h

  module _ (hub : Hub) where
    has-by_itself : (reaction : Reaction) (message : List ℕ) (session : Session) → Has Q session → Has Q (by_itself (keeps_now hub) reaction hub.timers (now hub) message session)
    has-by_itself (Answer rcode) message session h = h
    has-by_itself Grant message session h = h
    has-by_itself (Abort reason) message session h = ended reason
    has-by_itself Unsubscribe message session h = h
    has-by_itself NotImplemented message session h = h
    has-by_itself Subscribe message session h = h
    has-by_itself Reconfirm message session h = h
    has-by_itself Update message session h = h
    has-by_itself Query message session h = h

    has-itself : (message : List ℕ) (session : Session) → Has Q session → Has Q (reacts_itself (keeps_now hub) hub.timers (now hub) message session)
    has-itself message session h = by (head_of message)
      where
        by : (o : Option DsoHead) → Has Q (itself_as (keeps_now hub) hub.timers (now hub) message session o)
        by None = ended ends.Short
        by (Some head) = has-by_itself (server_reaction head session.established) message session h

    has-answered : (id : ℕ) (question : Option Question) (session : Session) → Has Q session → Has Q (answered (keeps_now hub) (tells_now hub) (now hub) id question (has_home hub question) session)
    has-answered id question session h =
        verdict-holds (keeps_now hub) id question (has_home hub question) session.subscriptions (λ (v : Verdict). Has Q (decided (keeps_now hub) (tells_now hub) (now hub) id v session))
        h h h ended (λ q read new_id new_question. accepting q)
      where
        notices : Question → List Notice
        notices q = (tells_now hub).first_notices q session.subscriptions session.queue

        begun : Question → Session
        begun q = subscribed (keeps_now hub) id q ((keeps_now hub).end_behind (first_answer_size (answer_to id noerror) (notices q)) session.made) session

        accepting : (q : Question) → Has Q (says_first_answer (keeps_now hub) (now hub) (answer_to id noerror) (notices q) session.queue (begun q))
        accepting q = has-first _ (now hub) (answer_to id noerror) (notices q) session.queue (begun q) h

    pub has-step : {f : Session → Session} → Step AnyMessage hub f → (session : Session) → Has Q session → Has Q (f session)
    has-step (restarts message) session h = h
    has-step (reacts message) session h = has-itself message session h
    has-step (answers_subscribe message any) session h = has-answered (id_of message) (question_of (primary_data message)) session h
    has-step (answers_update before message) session h = h
    has-step (answers_query message any) session h = h
    has-step packs_names session h =
        let pack = (tells_now hub).packed session.subscriptions session.queue in
        has-notices _ (now hub) pack.0 (record session { queue = pack.1 }) h
    has-step (comes_to_stop rcode delay) session h = by session.established
      where
        by : (b : Bool) → Has Q (cond b (says_stop (keeps_now hub) rcode delay (now hub) session) (ended_with (keeps_now hub) ends.Stopped session))
        by true = waits (now hub)
        by false = ended ends.Stopped
    has-step (ends_with reason) session h = ended reason
    has-step (copies_front room) session h = h

  pub has-ended_where : (point : ℕ) (reason : Option EndReason) (session : Session) → Has Q session → Has Q (ended_where (plain_keeps point) reason session)
  has-ended_where point None session h = h
  has-ended_where point (Some reason) session h = ended reason
