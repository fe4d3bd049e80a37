-- First answers end where messages do, after any calls.
--     EndsOf made subscriptions      of a session they speak of no more than this
--     ends-step      each step of a session keeps that
--     first_answers_end
use Rattle.std.proofs.Common.{◌≡◌, ℕ, ◌+◌, ◌≤◌, Bool, true, false, cond, not, List, [], ◌∷◌, ◌++◌, length, length-append, min, Option, Some, None, sym, ◌∙◌, ap, subst, refl, arith}
use Rattle.std.specs.Prelude.{◌==◌}
use Rattle.std.specs.Int.{w16, from_be_bytes}
use Rattle.std.specs.List.{AllByRecursion}
use Rattle.std.proofs.Math.Seq.{take-length}
use Rattle.std.proofs.lemmas.List.{append_assoc, take-append-le, take_min}
use Rattle.std.proofs.lemmas.List.Sums.{sum_by-append}
use Rattle.coalesce.proofs.ReadBack.{each-append}
use Rattle.coalesce.specs.Net.{push_frame}
use Rattle.dnsquery.specs.Replies.{reply_to}
use Rattle.dsosession.specs.Reactions.{server_reaction}
use Rattle.dsosession.specs.declared.session.EndReason.{EndReason}
use Rattle.dsosession.specs.declared.session.EndReason.TheVariants as ends
use Rattle.dsosession.specs.declared.session.Reaction.{Reaction}
use Rattle.dsosession.specs.declared.session.Reaction.TheVariants.{Answer, Grant, Abort, Subscribe, Unsubscribe, Reconfirm, Update, Query, NotImplemented}
use Rattle.dsotlv.specs.Answers.{answer_to, refusal_to, grant_to, not_implemented, answer_to_update, stop_message, push_message}
use Rattle.dsotlv.specs.Messages.{head_of, primary_data, frame}
use Rattle.dsotlv.specs.Notices.{question_of}
use Rattle.dsotlv.specs.declared.message.DsoHead.{DsoHead}
use Rattle.dsotlv.specs.declared.message.Notice.{Notice}
use Rattle.inflight.specs.Flight.{EndsAMessage, FirstAnswersEnd}
use Rattle.pushserver.specs.Calls.{after_calls}
use Rattle.pushserver.specs.Giving.{has_home, known_at}
use Rattle.pushserver.specs.Hubs.{newest, now, state_now, keeps_now, tells_now, in_session, update}
use Rattle.pushserver.specs.PlainHubs.{Hub, Session, Subscription, Queue, Made, frame_of, size_of_made, plain_keeps, new_hub}
use Rattle.livesessions.proofs.SessionLists.{each-changed}
use Rattle.pushserver.proofs.Subscribing.{verdict-holds}
use Rattle.pushserver.proofs.Walks.{AnyMessage, bring_any, Step, restarts, reacts, answers_subscribe, answers_update, answers_query, packs_names, comes_to_stop, ends_with, copies_front, IsKept, keeps-calls}
use Rattle.pushserver.proofs.hub_steps.Cases.{itself_as}
use Rattle.pushserver.proofs.hub_steps.Pairs.{all-weaken}
use Rattle.pushsession.specs.Reactions.{reacts_itself, by_itself}
use Rattle.pushsession.specs.Sessions.{new_session, with_piece, is_open, asked_to_stop, ended_with, ended_where, with_frame, answers, says_stop, without_first}
use Rattle.pushsession.specs.Subscribing.{Verdict, says_notices, subscribed, says_first_answer, first_answer_size, decided, answered}
use Rattle.pushsession.specs.declared.session_status.SessionStatus.TheVariants.{AskedToStop}
use Rattle.pushtelling.proofs.Tells.{by_entry}
use Rattle.rrset.proofs.Places.{all_filter}
use Rattle.rrset.specs.Header.{id_of}
use Rattle.rrset.specs.Rcodes.{noerror, formerr, refused, notauth}
use Rattle.rrset.specs.declared.record.Question.{Question}
use Rattle.flight_laws.specs.Runs.{FirstAnswersEndAfterCalls}

-- ---- where messages end

-- all of them end there
ends-all : (made : List Made) → EndsAMessage made (size_of_made made)
ends-all made = (length made, ap size_of_made (sym (take-length made)))

-- further messages leave where one ends
ends-longer : (made more : List Made) (n : ℕ) → EndsAMessage made n → EndsAMessage (made ++ more) n
ends-longer made more n ends = (min ends.0 (length made), ends.1 ∙ ap size_of_made (sym (take_min ends.0 made) ∙ sym (take-append-le (min ends.0 (length made)) made more (below ends.0 (length made)))))
  where
    below : (a b : ℕ) → min a b ≤ b
    below a b = omega arith

size-push : (made : List Made) (m : Made) → size_of_made (made ++ m ∷ []) ≡ size_of_made made + length (frame_of m)
size-push made m = sum_by-append (λ (x : Made). length (frame_of x)) made (m ∷ []) ∙ ap (λ n. size_of_made made + n) (omega arith)

-- ---- a session

record EndsOf (made : List Made) (subscriptions : List Subscription) : Type 0 where
  pub active : AllByRecursion (λ s. EndsAMessage made s.filled) subscriptions
  pub before : AllByRecursion (λ m. AllByRecursion (λ s. EndsAMessage made s.filled) m.subscribed) made

abbrev Ends : Session → Type 0
Ends session = EndsOf session.made session.subscriptions

longer-each : (made more : List Made) (subscriptions : List Subscription) → AllByRecursion (λ s. EndsAMessage made s.filled) subscriptions → AllByRecursion (λ s. EndsAMessage (made ++ more) s.filled) subscriptions
longer-each made more subscriptions each = all-weaken (λ (s : Subscription). EndsAMessage made s.filled) (λ (s : Subscription). EndsAMessage (made ++ more) s.filled) (λ s ends. ends-longer made more s.filled ends) subscriptions each

-- Messages more, made while these subscriptions are active: they may be others than before.
ends-more : (made more : List Made) (old subscriptions : List Subscription) → EndsOf made old → AllByRecursion (λ s. EndsAMessage (made ++ more) s.filled) subscriptions → AllByRecursion (λ m. m.subscribed ≡ subscriptions) more
    → EndsOf (made ++ more) subscriptions
ends-more made more old subscriptions h active while = record {
  active = active;
  before = each-append (λ (m : Made). AllByRecursion (λ s. EndsAMessage (made ++ more) s.filled) m.subscribed) made more
      (all-weaken (λ (m : Made). AllByRecursion (λ s. EndsAMessage made s.filled) m.subscribed) (λ (m : Made). AllByRecursion (λ s. EndsAMessage (made ++ more) s.filled) m.subscribed) (λ m each. longer-each made more m.subscribed each) made h.before)
      (all-weaken (λ (m : Made). m.subscribed ≡ subscriptions) (λ (m : Made). AllByRecursion (λ s. EndsAMessage (made ++ more) s.filled) m.subscribed)
      (λ m same. subst (AllByRecursion (λ s. EndsAMessage (made ++ more) s.filled)) (sym same) active) more while);
}

module _ (point t : ℕ) where
  ends-with_frame : (keepalive : Bool) (message : List ℕ) (queue : Queue) (session : Session) → Ends session → Ends (with_frame (plain_keeps point) keepalive t message queue session)
  ends-with_frame keepalive message queue session h =
      let more : List Made = (record { message = message; note = record { queue = queue; newest = point }; subscribed = session.subscriptions }) ∷ [] in
      ends-more session.made more session.subscriptions session.subscriptions h (longer-each session.made more session.subscriptions h.active) (refl, tt)

  ends-answers : (keepalive : Bool) (message : List ℕ) (session : Session) → Ends session → Ends (answers (plain_keeps point) keepalive t message session)
  ends-answers keepalive message session h = ends-with_frame keepalive message session.queue session h

  ends-notices : (notices : List Notice) (session : Session) → Ends session → Ends (says_notices (plain_keeps point) t notices session)
  ends-notices [] session h = h
  ends-notices (n ∷ ns) session h = ends-answers false (push_message (n ∷ ns)) session h

  -- the answer to a SUBSCRIBE, and a PUSH behind it: the new subscription's first answer ends with the last of them
  module _ (session : Session) (id : ℕ) (question : Question) (answer : List ℕ) where
    abbrev begun : ℕ → Session
    begun size = subscribed (plain_keeps point) id question (size_of_made session.made + size) session

    abbrev asked : ℕ → List Subscription
    asked size = session.subscriptions ++ (record { id = id; question = question; filled = size_of_made session.made + size }) ∷ []

    abbrev answer_made : ℕ → Queue → Made
    answer_made size queue = record { message = answer; note = record { queue = queue; newest = point }; subscribed = asked size }

    all-asked : (more : List Made) (size : ℕ) → Ends session → size_of_made (session.made ++ more) ≡ size_of_made session.made + size → AllByRecursion (λ s. EndsAMessage (session.made ++ more) s.filled) (asked size)
    all-asked more size h whole =
        each-append (λ (s : Subscription). EndsAMessage (session.made ++ more) s.filled) session.subscriptions ((record { id = id; question = question; filled = size_of_made session.made + size }) ∷ [])
        (longer-each session.made more session.subscriptions h.active)
        (subst (EndsAMessage (session.made ++ more)) whole (ends-all (session.made ++ more)), tt)

    ends-first : (notices : List Notice) (before : Queue) → Ends session → Ends (says_first_answer (plain_keeps point) t answer notices before (begun (first_answer_size answer notices)))
    ends-first [] before h =
        let size = first_answer_size answer [] in
        let m = answer_made size (begun size).queue in
        ends-more session.made (m ∷ []) session.subscriptions (asked size) h
        (all-asked (m ∷ []) size h (size-push session.made m ∙ ap (λ n. size_of_made session.made + n) (omega (arith, length-append (frame answer) (push_frame [])))))
        (refl, tt)
    ends-first (n ∷ ns) before h =
        let size = first_answer_size answer (n ∷ ns) in
        let m = answer_made size before in
        let p : Made = record { message = push_message (n ∷ ns); note = record { queue = (begun size).queue; newest = point }; subscribed = asked size } in
        subst (λ made. EndsOf made (asked size)) (sym (append_assoc session.made (m ∷ []) (p ∷ [])))
        (ends-more session.made (m ∷ p ∷ []) session.subscriptions (asked size) h
        (all-asked (m ∷ p ∷ []) size h (sum_by-append (λ (x : Made). length (frame_of x)) session.made (m ∷ p ∷ []) ∙ ap (λ n. size_of_made session.made + n) (omega (arith, length-append (frame answer) (push_frame (n ∷ ns))))))
        (refl, (refl, tt)))

none_left : (session : Session) → Ends session → EndsOf session.made []
none_left session h = record { active = tt; before = h.before }

module _ (hub : Hub) where
  ends-by_itself : (reaction : Reaction) (message : List ℕ) (session : Session) → Ends session → Ends (by_itself (keeps_now hub) reaction hub.timers (now hub) message session)
  ends-by_itself (Answer rcode) message session h = ends-answers (newest hub) (now hub) false (answer_to (id_of message) rcode) session h
  ends-by_itself Grant message session h = ends-answers (newest hub) (now hub) true (grant_to (id_of message) hub.timers.inactivity hub.timers.keepalive) session h
  ends-by_itself (Abort reason) message session h = none_left session h
  ends-by_itself Unsubscribe message session h = record {
    active = all_filter (λ (s : Subscription). EndsAMessage session.made s.filled) (λ (s : Subscription). not (s.id == from_be_bytes w16 (primary_data message))) session.subscriptions h.active;
    before = h.before;
  }
  ends-by_itself NotImplemented message session h = ends-answers (newest hub) (now hub) false (not_implemented message) session h
  ends-by_itself Subscribe message session h = h
  ends-by_itself Reconfirm message session h = h
  ends-by_itself Update message session h = h
  ends-by_itself Query message session h = h

  ends-itself : (message : List ℕ) (session : Session) → Ends session → Ends (reacts_itself (keeps_now hub) hub.timers (now hub) message session)
  ends-itself message session h = by (head_of message)
    where
      by : (o : Option DsoHead) → Ends (itself_as (keeps_now hub) hub.timers (now hub) message session o)
      by None = none_left session h
      by (Some head) = ends-by_itself (server_reaction head session.established) message session h

  ends-answered : (id : ℕ) (question : Option Question) (session : Session) → Ends session → Ends (answered (keeps_now hub) (tells_now hub) (now hub) id question (has_home hub question) session)
  ends-answered id question session h =
      verdict-holds (keeps_now hub) id question (has_home hub question) session.subscriptions (λ (v : Verdict). Ends (decided (keeps_now hub) (tells_now hub) (now hub) id v session))
      (refusing formerr) (refusing notauth) (refusing refused)
      (λ reason. none_left session h)
      (λ q read new_id new_question. ends-first (newest hub) (now hub) session id q (answer_to id noerror) ((tells_now hub).first_notices q session.subscriptions session.queue) session.queue h)
    where
      refusing : (rcode : ℕ) → Ends (answers (keeps_now hub) false (now hub) (refusal_to id rcode) session)
      refusing rcode = ends-answers (newest hub) (now hub) false (refusal_to id rcode) session h

  ends-step : {f : Session → Session} → Step AnyMessage hub f → (session : Session) → Ends session → Ends (f session)
  ends-step (restarts message) session h = h
  ends-step (reacts message) session h = ends-itself message session h
  ends-step (answers_subscribe message any) session h = ends-answered (id_of message) (question_of (primary_data message)) session h
  ends-step (answers_update before message) session h = ends-answers (newest hub) (now hub) false (answer_to_update (id_of message) (update before message).0) session h
  ends-step (answers_query message any) session h = ends-answers (newest hub) (now hub) false (reply_to (known_at (state_now hub)) message) session h
  ends-step packs_names session h =
      let pack = (tells_now hub).packed session.subscriptions session.queue in
      ends-notices (newest hub) (now hub) pack.0 (record session { queue = pack.1 }) h
  ends-step (comes_to_stop rcode delay) session h = by session.established
    where
      by : (b : Bool) → Ends (cond b (says_stop (keeps_now hub) rcode delay (now hub) session) (ended_with (keeps_now hub) ends.Stopped session))
      by true = none_left (answers (keeps_now hub) false (now hub) (stop_message rcode delay) session) (ends-answers (newest hub) (now hub) false (stop_message rcode delay) session h)
      by false = none_left session h
  ends-step (ends_with reason) session h = none_left session h
  ends-step (copies_front room) session h = h

ends-ended_where : (point : ℕ) (reason : Option EndReason) (session : Session) → Ends session → Ends (ended_where (plain_keeps point) reason session)
ends-ended_where point None session h = h
ends-ended_where point (Some reason) session h = none_left session h

ends-asked : (rcode delay : ℕ) (session : Session) → Ends session → Ends (asked_to_stop rcode delay session)
ends-asked rcode delay session h = by (is_open session.standing)
  where
    by : (b : Bool) → Ends (cond b (record session { standing = AskedToStop rcode delay }) session)
    by true = h
    by false = h

-- ---- a hub

abbrev HubEnds : Hub → Type 0
HubEnds hub = AllByRecursion (λ e. Ends e.1) hub.sessions

in-ends : (hub : Hub) (number : ℕ) (f : Session → Session) → ((s : Session) → Ends s → Ends (f s)) → HubEnds hub → HubEnds (in_session number f hub)
in-ends hub number f keeps h = each-changed Ends Ends (λ n s. cond (n == number) (f s) s) (λ n s e. by s e (n == number)) hub.sessions h
  where
    by : (s : Session) → Ends s → (b : Bool) → Ends (cond b (f s) s)
    by s e true = keeps s e
    by s e false = e

ends_kept : IsKept AnyMessage HubEnds
ends_kept = record {
  reads = λ hub number session found there is h. tt;
  takes_up = λ hub number session found there is h. in-ends hub number (without_first found.1) (λ s e. e) h;
  changes = λ hub number f step h. in-ends hub number f (λ s e. ends-step hub step s e) h;
  enters = λ hub entry by h. each-changed Ends Ends (λ n. by_entry hub.start hub.history entry) (λ n s e. e) hub.sessions h;
  ends = λ hub point reason h. each-changed Ends Ends (λ n s. ended_where (plain_keeps point) (reason s) s) (λ n s. ends-ended_where point (reason s) s) hub.sessions h;
  takes_in = λ hub number piece any h. in-ends hub number (with_piece piece) (λ s e. e) h;
  asks_stop = λ hub number rcode delay h. in-ends hub number (asked_to_stop rcode delay) (ends-asked rcode delay) h;
  makes = λ hub h. each-append (λ (e : ℕ × Session). Ends e.1) hub.sessions ((hub.numbers_given, new_session (keeps_now hub) (now hub)) ∷ []) h (record { active = tt; before = tt }, tt);
  drops = λ hub number h. all_filter (λ (e : ℕ × Session). Ends e.1) (λ (e : ℕ × Session). not (e.0 == number)) hub.sessions h;
}

pub first_answers_end : FirstAnswersEndAfterCalls
first_answers_end start timers calls =
    all-weaken (λ (e : ℕ × Session). Ends e.1) (λ (e : ℕ × Session). FirstAnswersEnd e.1) (λ e h. record { active = h.active; before = h.before })
    (after_calls calls (new_hub start timers)).sessions (keeps-calls AnyMessage HubEnds ends_kept calls (new_hub start timers) (bring_any calls) tt)
