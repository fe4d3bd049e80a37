-- A session that was stopped made a message that asks its client to stop.
--     stopped-said-so
use Rattle.std.proofs.Common.{◌≡◌, ℕ, Bool, true, false, cond, not, List, [], ◌∷◌, ◌++◌, Option, Some, None, refl, sym, ◌∙◌, ap, subst, true≢false, append_assoc}
use Rattle.std.specs.Prelude.{◌==◌}
use Rattle.std.specs.List.{AllByRecursion}
use Rattle.coalesce.proofs.ReadBack.{each-append}
use Rattle.dsosession.specs.Reactions.{server_reaction}
use Rattle.dsosession.specs.declared.session.EndReason.{EndReason}
use Rattle.dsosession.specs.declared.session.EndReason.TheVariants as ends
use Rattle.dsosession.specs.declared.session.Reaction.{Reaction}
use Rattle.dsosession.specs.declared.session.Reaction.TheVariants.{Answer, Grant, Abort, Subscribe, Unsubscribe, Reconfirm, Update, Query, NotImplemented}
use Rattle.dsotlv.specs.Answers.{answer_to}
use Rattle.dsotlv.specs.Messages.{head_of, primary_data}
use Rattle.dsotlv.specs.Notices.{question_of}
use Rattle.dsotlv.specs.declared.message.DsoHead.{DsoHead}
use Rattle.dsotlv.specs.declared.message.Notice.{Notice}
use Rattle.pushsession.specs.Reactions.{reacts_itself, by_itself}
use Rattle.pushsession.specs.Sessions.{is_open, new_session, with_piece, asked_to_stop, ended_with, ended_where, says_stop, without_first}
use Rattle.pushsession.specs.Subscribing.{Verdict, says_notices, subscribed, says_first_answer, first_answer_size, decided, answered}
use Rattle.pushsession.specs.declared.session_status.SessionStatus.{SessionStatus}
use Rattle.pushsession.specs.declared.session_status.SessionStatus.TheVariants.{AskedToStop, Ended}
use Rattle.pushserver.specs.Giving.{has_home}
use Rattle.pushserver.specs.Hubs.{now, keeps_now, tells_now, in_session}
use Rattle.pushserver.specs.PlainHubs.{Hub, Session, Queue, Made, plain_keeps, new_hub}
use Rattle.livesessions.proofs.SessionLists.{each-changed, found-one}
use Rattle.pushserver.proofs.Subscribing.{verdict-holds}
use Rattle.pushserver.proofs.Walks.{AnyMessage, Step, restarts, reacts, answers_subscribe, answers_update, answers_query, packs_names, comes_to_stop, ends_with, copies_front, IsKept, keeps-calls, bring_any}
use Rattle.pushserver.proofs.hub_steps.Cases.{itself_as}
use Rattle.pushtelling.proofs.Tells.{by_entry}
use Rattle.rrset.proofs.Places.{all_filter}
use Rattle.rrset.specs.Header.{id_of}
use Rattle.rrset.specs.Rcodes.{noerror}
use Rattle.rrset.specs.declared.record.Question.{Question}
use Rattle.script_laws.specs.Settling.{is_stopped, SaysStop, StoppedOnesSaidSo}

-- ---- one more message

-- if it was stopped it said so
abbrev SaidIfStopped : SessionStatus → List Made → Type 0
SaidIfStopped standing made = is_stopped standing ≡ true → SaysStop made

abbrev Said : Session → Type 0
Said session = SaidIfStopped session.standing session.made

one-more : (made more : List Made) → SaysStop made → SaysStop (made ++ more)
one-more made more stop = record {
  front = stop.front;
  one = stop.one;
  back = stop.back ++ more;
  are = ap (λ (ms : List Made). ms ++ more) stop.are ∙ append_assoc stop.front (stop.one ∷ stop.back) more;
  rcode = stop.rcode;
  delay = stop.delay;
  says = stop.says;
}

said-more : (standing : SessionStatus) (made more : List Made) → SaidIfStopped standing made → SaidIfStopped standing (made ++ more)
said-more standing made more h is = one-more made more (h is)

-- one that ended wasn't stopped
ended-said : (reason : EndReason) (made : List Made) → SaidIfStopped (Ended reason) made
ended-said reason made is = absurd (true≢false (sym is))

said-notices : (point t : ℕ) (notices : List Notice) (session : Session) → Said session → Said (says_notices (plain_keeps point) t notices session)
said-notices point t [] session h = h
said-notices point t (n ∷ ns) session h = said-more session.standing session.made _ h

said-first : (point t : ℕ) (answer : List ℕ) (notices : List Notice) (before : Queue) (session : Session) → Said session → Said (says_first_answer (plain_keeps point) t answer notices before session)
said-first point t answer [] before session h = said-more session.standing session.made _ h
said-first point t answer (n ∷ ns) before session h = said-more session.standing (session.made ++ _ ∷ []) _ (said-more session.standing session.made _ h)

-- ---- the steps

module _ (hub : Hub) where
  said-by_itself : (reaction : Reaction) (message : List ℕ) (session : Session) → Said session → Said (by_itself (keeps_now hub) reaction hub.timers (now hub) message session)
  said-by_itself (Answer rcode) message session h = said-more session.standing session.made _ h
  said-by_itself Grant message session h = said-more session.standing session.made _ h
  said-by_itself (Abort reason) message session h = ended-said reason session.made
  said-by_itself Unsubscribe message session h = h
  said-by_itself Query message session h = h
  said-by_itself NotImplemented message session h = said-more session.standing session.made _ h
  said-by_itself Subscribe message session h = h
  said-by_itself Reconfirm message session h = h
  said-by_itself Update message session h = h

  said-itself : (message : List ℕ) (session : Session) → Said session → Said (reacts_itself (keeps_now hub) hub.timers (now hub) message session)
  said-itself message session h = by (head_of message)
    where
      by : (o : Option DsoHead) → Said (itself_as (keeps_now hub) hub.timers (now hub) message session o)
      by None = ended-said ends.Short session.made
      by (Some head) = said-by_itself (server_reaction head session.established) message session h

  said-answered : (id : ℕ) (question : Option Question) (session : Session) → Said session → Said (answered (keeps_now hub) (tells_now hub) (now hub) id question (has_home hub question) session)
  said-answered id question session h =
      verdict-holds (keeps_now hub) id question (has_home hub question) session.subscriptions (λ (v : Verdict). Said (decided (keeps_now hub) (tells_now hub) (now hub) id v session))
      (refused _) (refused _) (refused _) (λ reason. ended-said reason session.made) (λ q read new_id new_question. accepting q)
    where
      refused : (m : Made) → SaidIfStopped session.standing (session.made ++ m ∷ [])
      refused m = said-more session.standing session.made (m ∷ []) h

      notices : Question → List Notice
      notices q = (tells_now hub).first_notices q session.subscriptions session.queue

      begun : Question → Session
      begun q = subscribed (keeps_now hub) id q ((keeps_now hub).end_behind (first_answer_size (answer_to id noerror) (notices q)) session.made) session

      accepting : (q : Question) → Said (says_first_answer (keeps_now hub) (now hub) (answer_to id noerror) (notices q) session.queue (begun q))
      accepting q = said-first _ (now hub) (answer_to id noerror) (notices q) session.queue (begun q) h

  said-step : {f : Session → Session} → Step AnyMessage hub f → (session : Session) → Said session → Said (f session)
  said-step (restarts message) session h = h
  said-step (reacts message) session h = said-itself message session h
  said-step (answers_subscribe message any) session h = said-answered (id_of message) (question_of (primary_data message)) session h
  said-step (answers_update before message) session h = said-more session.standing session.made _ h
  said-step (answers_query message any) session h = said-more session.standing session.made _ h
  said-step packs_names session h =
      let pack = (tells_now hub).packed session.subscriptions session.queue in
      said-notices _ (now hub) pack.0 (record session { queue = pack.1 }) h
  said-step (comes_to_stop rcode delay) session h = by session.established
    where
      by : (b : Bool) → Said (cond b (says_stop (keeps_now hub) rcode delay (now hub) session) (ended_with (keeps_now hub) ends.Stopped session))
      by true = λ is. record { front = session.made; one = _; back = []; are = refl; rcode = rcode; delay = delay; says = refl }
      by false = ended-said ends.Stopped session.made
  said-step (ends_with reason) session h = ended-said reason session.made
  said-step (copies_front room) session h = h

said-ended_where : (point : ℕ) (reason : Option EndReason) (session : Session) → Said session → Said (ended_where (plain_keeps point) reason session)
said-ended_where point None session h = h
said-ended_where point (Some reason) session h = ended-said reason session.made

said-asked : (rcode delay : ℕ) (session : Session) → Said session → Said (asked_to_stop rcode delay session)
said-asked rcode delay session h = by (is_open session.standing)
  where
    by : (b : Bool) → Said (cond b (record session { standing = AskedToStop rcode delay }) session)
    by true = λ is. absurd (true≢false (sym is))
    by false = h

-- ---- a hub

abbrev EachSaid : Hub → Type 0
EachSaid hub = AllByRecursion (λ e. Said e.1) hub.sessions

in-said : (hub : Hub) (number : ℕ) (f : Session → Session) → ((s : Session) → Said s → Said (f s)) → EachSaid hub → EachSaid (in_session number f hub)
in-said hub number f keeps h = each-changed Said Said (λ n s. cond (n == number) (f s) s) (λ n s e. by s e (n == number)) hub.sessions h
  where
    by : (s : Session) → Said s → (b : Bool) → Said (cond b (f s) s)
    by s e true = keeps s e
    by s e false = e

said-kept : IsKept AnyMessage EachSaid
said-kept = record {
  reads = λ hub number session found there is h. tt;
  takes_up = λ hub number session found there is h. in-said hub number (without_first found.1) (λ s e. e) h;
  changes = λ hub number f step h. in-said hub number f (λ s e. said-step hub step s e) h;
  enters = λ hub entry by h. each-changed Said Said (λ n. by_entry hub.start hub.history entry) (λ n s e. e) hub.sessions h;
  ends = λ hub point reason h. each-changed Said Said (λ n s. ended_where (plain_keeps point) (reason s) s) (λ n s. said-ended_where point (reason s) s) hub.sessions h;
  takes_in = λ hub number piece any h. in-said hub number (with_piece piece) (λ s e. e) h;
  asks_stop = λ hub number rcode delay h. in-said hub number (asked_to_stop rcode delay) (said-asked rcode delay) h;
  makes = λ hub h. each-append (λ (e : ℕ × Session). Said e.1) hub.sessions ((hub.numbers_given, new_session (keeps_now hub) (now hub)) ∷ []) h ((λ is. absurd (true≢false (sym is))), tt);
  drops = λ hub number h. all_filter (λ (e : ℕ × Session). Said e.1) (λ (e : ℕ × Session). not (e.0 == number)) hub.sessions h;
}

pub stopped-said-so : StoppedOnesSaidSo
stopped-said-so hub number session reached there =
    found-one Said number hub.sessions session there
    (subst EachSaid (sym reached.is) (keeps-calls AnyMessage EachSaid said-kept reached.calls (new_hub reached.start reached.timers) (bring_any reached.calls) tt))
