-- What a step of a session makes goes behind its output, and its input stays.
--     Said before after      the messages made, behind what was
--     said-step      each step that hands nothing out
--     said-ended_where, said-asked      its end, if there is one; a stop is asked for
use Rattle.std.proofs.Common.{◌≡◌, ℕ, Bool, true, false, cond, List, [], ◌∷◌, ◌++◌, Option, Some, None, sym, ◌∙◌, ap, refl}
use Rattle.std.specs.Prelude.{flat_map}
use Rattle.std.proofs.lemmas.Grind.{flat_map-append}
use Rattle.std.proofs.lemmas.List.{append-nil, append_assoc}
use Rattle.rrset.specs.Header.{id_of}
use Rattle.rrset.specs.Rcodes.{noerror, formerr, refused, notauth}
use Rattle.rrset.specs.declared.record.Question.{Question}
use Rattle.dnsquery.specs.Replies.{reply_to}
use Rattle.dsotlv.specs.Answers.{answer_to, refusal_to, grant_to, not_implemented, answer_to_update, stop_message, push_message}
use Rattle.dsotlv.specs.Messages.{frame, head_of, primary_data}
use Rattle.dsotlv.specs.Notices.{question_of}
use Rattle.dsotlv.specs.declared.message.Notice.{Notice}
use Rattle.dsotlv.specs.declared.message.DsoHead.{DsoHead}
use Rattle.dsosession.specs.Reactions.{server_reaction}
use Rattle.dsosession.specs.declared.session.EndReason.{EndReason}
use Rattle.dsosession.specs.declared.session.EndReason.TheVariants as ends
use Rattle.dsosession.specs.declared.session.Reaction.{Reaction}
use Rattle.dsosession.specs.declared.session.Reaction.TheVariants.{Answer, Grant, Abort, Subscribe, Unsubscribe, Reconfirm, Update, Query, NotImplemented}
use Rattle.pushsession.specs.Sessions.{is_open, asked_to_stop, ended_with, ended_where, with_frame, answers, says_stop}
use Rattle.pushsession.specs.Subscribing.{Verdict, says_notices, subscribed, says_first_answer, first_answer_size, decided, answered}
use Rattle.pushsession.specs.Reactions.{restarted_by, reacts_itself, by_itself}
use Rattle.pushsession.specs.declared.session_status.SessionStatus.TheVariants.{AskedToStop}
use Rattle.pushserver.specs.PlainHubs.{Hub, Session, Made, Queue, frame_of, plain_keeps}
use Rattle.pushserver.specs.Hubs.{newest, now, state_now, keeps_now, tells_now, update}
use Rattle.pushserver.specs.Giving.{has_home, known_at}
use Rattle.pushserver.proofs.Subscribing.{verdict-holds}
use Rattle.pushserver.proofs.hub_steps.Cases.{itself_as}
use Rattle.pushserver.proofs.Walks.{AnyMessage, Step, restarts, reacts, answers_subscribe, answers_update, answers_query, packs_names, comes_to_stop, ends_with, copies_front, HandsNothing}

pub record Said (before after : Session) : Type 0 where
  pub more : List Made
  pub made : after.made ≡ before.made ++ more
  pub output : after.output ≡ before.output ++ flat_map frame_of more
  pub input : after.input ≡ before.input

pub said-none : (before after : Session) → after.made ≡ before.made → after.output ≡ before.output → after.input ≡ before.input → Said before after
said-none before after made output input = record { more = []; made = made ∙ sym (append-nil before.made); output = output ∙ sym (append-nil before.output); input = input }

pub said-then : (a b c : Session) → Said a b → Said b c → Said a c
said-then a b c first second = record {
  more = first.more ++ second.more;
  made = second.made ∙ ap (λ ms. ms ++ second.more) first.made ∙ append_assoc a.made first.more second.more;
  output = second.output ∙ ap (λ os. os ++ flat_map frame_of second.more) first.output ∙ append_assoc a.output (flat_map frame_of first.more) (flat_map frame_of second.more)
      ∙ ap (λ os. a.output ++ os) (sym (flat_map-append frame_of first.more second.more));
  input = second.input ∙ first.input;
}

-- ---- messages

module _ (point t : ℕ) where
  said-with_frame : (keepalive : Bool) (message : List ℕ) (queue : Queue) (session : Session) → Said session (with_frame (plain_keeps point) keepalive t message queue session)
  said-with_frame keepalive message queue session = record {
    more = (record { message = message; note = record { queue = queue; newest = point }; subscribed = session.subscriptions }) ∷ [];
    made = refl;
    output = ap (λ os. session.output ++ os) (sym (append-nil (frame message)));
    input = refl;
  }

  said-notices : (notices : List Notice) (session : Session) → Said session (says_notices (plain_keeps point) t notices session)
  said-notices [] session = said-none session session refl refl refl
  said-notices (n ∷ ns) session = said-with_frame false (push_message (n ∷ ns)) session.queue session

  said-first : (answer : List ℕ) (notices : List Notice) (before : Queue) (session : Session) → Said session (says_first_answer (plain_keeps point) t answer notices before session)
  said-first answer [] before session = said-with_frame false answer session.queue session
  said-first answer (n ∷ ns) before session =
      let said = with_frame (plain_keeps point) false t answer before session in
      said-then session said (answers (plain_keeps point) false t (push_message (n ∷ ns)) said) (said-with_frame false answer before session) (said-with_frame false (push_message (n ∷ ns)) said.queue said)

-- ---- the steps of a session

said-ended : (hub : Hub) (reason : EndReason) (session : Session) → Said session (ended_with (keeps_now hub) reason session)
said-ended hub reason session = said-none session (ended_with (keeps_now hub) reason session) refl refl refl

said-by_itself : (hub : Hub) (reaction : Reaction) (message : List ℕ) (session : Session) → Said session (by_itself (keeps_now hub) reaction hub.timers (now hub) message session)
said-by_itself hub (Answer rcode) message session = said-with_frame (newest hub) (now hub) false (answer_to (id_of message) rcode) session.queue session
said-by_itself hub Grant message session =
    let said = with_frame (keeps_now hub) true (now hub) (grant_to (id_of message) hub.timers.inactivity hub.timers.keepalive) session.queue session in
    said-then session said (by_itself (keeps_now hub) Grant hub.timers (now hub) message session)
    (said-with_frame (newest hub) (now hub) true (grant_to (id_of message) hub.timers.inactivity hub.timers.keepalive) session.queue session)
    (said-none said (by_itself (keeps_now hub) Grant hub.timers (now hub) message session) refl refl refl)
said-by_itself hub (Abort reason) message session = said-ended hub reason session
said-by_itself hub Unsubscribe message session = said-none session (by_itself (keeps_now hub) Unsubscribe hub.timers (now hub) message session) refl refl refl
said-by_itself hub NotImplemented message session = said-with_frame (newest hub) (now hub) false (not_implemented message) session.queue session
said-by_itself hub Subscribe message session = said-none session session refl refl refl
said-by_itself hub Reconfirm message session = said-none session session refl refl refl
said-by_itself hub Update message session = said-none session session refl refl refl
said-by_itself hub Query message session = said-none session session refl refl refl

said-itself : (hub : Hub) (message : List ℕ) (session : Session) → Said session (reacts_itself (keeps_now hub) hub.timers (now hub) message session)
said-itself hub message session = by (head_of message)
  where
    by : (o : Option DsoHead) → Said session (itself_as (keeps_now hub) hub.timers (now hub) message session o)
    by None = said-ended hub ends.Short session
    by (Some head) = said-by_itself hub (server_reaction head session.established) message session

said-answered : (hub : Hub) (id : ℕ) (question : Option Question) (session : Session) → Said session (answered (keeps_now hub) (tells_now hub) (now hub) id question (has_home hub question) session)
said-answered hub id question session =
    verdict-holds (keeps_now hub) id question (has_home hub question) session.subscriptions (λ (v : Verdict). Said session (decided (keeps_now hub) (tells_now hub) (now hub) id v session))
    (refusing formerr) (refusing notauth) (refusing refused)
    (λ reason. said-ended hub reason session)
    (λ q read new_id new_question. accepting q)
  where
    refusing : (rcode : ℕ) → Said session (answers (keeps_now hub) false (now hub) (refusal_to id rcode) session)
    refusing rcode = said-with_frame (newest hub) (now hub) false (refusal_to id rcode) session.queue session

    notices : Question → List Notice
    notices q = (tells_now hub).first_notices q session.subscriptions session.queue

    begun : Question → Session
    begun q = subscribed (keeps_now hub) id q ((keeps_now hub).end_behind (first_answer_size (answer_to id noerror) (notices q)) session.made) session

    accepting : (q : Question) → Said session (says_first_answer (keeps_now hub) (now hub) (answer_to id noerror) (notices q) session.queue (begun q))
    accepting q =
        said-then session (begun q) (says_first_answer (keeps_now hub) (now hub) (answer_to id noerror) (notices q) session.queue (begun q))
        (said-none session (begun q) refl refl refl) (said-first (newest hub) (now hub) (answer_to id noerror) (notices q) session.queue (begun q))

pub said-step : (hub : Hub) {f : Session → Session} (step : Step AnyMessage hub f) → HandsNothing step → (session : Session) → Said session (f session)
said-step hub (restarts message) out session = said-none session (restarted_by message (now hub) session) refl refl refl
said-step hub (reacts message) out session = said-itself hub message session
said-step hub (answers_subscribe message any) out session = said-answered hub (id_of message) (question_of (primary_data message)) session
said-step hub (answers_update before message) out session = said-with_frame (newest hub) (now hub) false (answer_to_update (id_of message) (update before message).0) session.queue session
said-step hub (answers_query message any) out session = said-with_frame (newest hub) (now hub) false (reply_to (known_at (state_now hub)) message) session.queue session
said-step hub packs_names out session =
    let pack = (tells_now hub).packed session.subscriptions session.queue in
    let left : Session = record session { queue = pack.1 } in
    said-then session left (says_notices (keeps_now hub) (now hub) pack.0 left) (said-none session left refl refl refl) (said-notices (newest hub) (now hub) pack.0 left)
said-step hub (comes_to_stop rcode delay) out session = by session.established
  where
    said : Session
    said = answers (keeps_now hub) false (now hub) (stop_message rcode delay) session

    by : (b : Bool) → Said session (cond b (says_stop (keeps_now hub) rcode delay (now hub) session) (ended_with (keeps_now hub) ends.Stopped session))
    by true =
        said-then session said (says_stop (keeps_now hub) rcode delay (now hub) session) (said-with_frame (newest hub) (now hub) false (stop_message rcode delay) session.queue session)
        (said-none said (says_stop (keeps_now hub) rcode delay (now hub) session) refl refl refl)
    by false = said-ended hub ends.Stopped session
said-step hub (ends_with reason) out session = said-ended hub reason session
said-step hub (copies_front room) out session = absurd out

pub said-ended_where : (point : ℕ) (reason : Option EndReason) (session : Session) → Said session (ended_where (plain_keeps point) reason session)
said-ended_where point None session = said-none session session refl refl refl
said-ended_where point (Some reason) session = said-none session (ended_with (plain_keeps point) reason session) refl refl refl

pub said-asked : (rcode delay : ℕ) (session : Session) → Said session (asked_to_stop rcode delay session)
said-asked rcode delay session = by (is_open session.standing)
  where
    by : (b : Bool) → Said session (cond b (record session { standing = AskedToStop rcode delay }) session)
    by true = said-none session (record session { standing = AskedToStop rcode delay }) refl refl refl
    by false = said-none session session refl refl refl
