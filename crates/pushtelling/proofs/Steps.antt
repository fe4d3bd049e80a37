-- Each step of one session keeps its telling.
--     QuietAnswer reaction      an answer that it gives has no notices, and grants no SUBSCRIBE
--     tells-step      each step
--     tells-ended_where      its end, if there is one
use Rattle.std.proofs.Common.{◌≡◌, ℕ, Bool, true, false, cond, not, ◌&&◌, List, [], ◌∷◌, Option, Some, None, is_some, IsTrue, sym, ◌∙◌, refl}
use Rattle.std.specs.Prelude.{option_map, ◌==◌}
use Rattle.std.specs.Int.{w16, from_be_bytes}
use Rattle.std.specs.List.{AllByRecursion}
use Rattle.push_base.specs.Cases.{chosen}
use Rattle.dnsname.specs.Names.{is_name}
use Rattle.rrset.specs.Header.{id_of, is_response, opcode_of, update_opcode}
use Rattle.rrset.specs.Rcodes.{formerr, refused, notauth, dsotypeni}
use Rattle.rrset.specs.Records.{same_question}
use Rattle.rrset.specs.declared.record.Question.{Question}
use Rattle.dnsquery.specs.Replies.{reply_to}
use Rattle.dnsquery.proofs.ReplyLaws.{replies_are_answers}
use Rattle.dsotlv.specs.Answers.{answer_to, refusal_to, grant_to, not_implemented, answer_to_update, stop_message}
use Rattle.dsotlv.specs.Messages.{dso_opcode, head_of, primary_data}
use Rattle.dsotlv.specs.Notices.{question_of}
use Rattle.dsotlv.specs.TlvKinds.{keepalive_tlv, retry_delay_tlv, padding_tlv, subscribe_tlv, push_tlv, unsubscribe_tlv, reconfirm_tlv}
use Rattle.dsotlv.specs.declared.message.DsoHead.{DsoHead}
use Rattle.dsosession.specs.Reactions.{query_opcode, server_reaction, dso_reaction, primary_reaction, answer_or_end}
use Rattle.dsosession.specs.declared.session.EndReason.{EndReason}
use Rattle.dsosession.specs.declared.session.EndReason.TheVariants as ends
use Rattle.dsosession.specs.declared.session.Reaction.{Reaction}
use Rattle.dsosession.specs.declared.session.Reaction.TheVariants.{Answer, Grant, Abort, Subscribe, Unsubscribe, Reconfirm, Update, Query, NotImplemented}
use Rattle.history.specs.States.{State}
use Rattle.history.specs.declared.entry.Entry.{Entry}
use Rattle.pushsession.specs.Sessions.{answers, ended_with, ended_where, says_stop}
use Rattle.pushsession.specs.Subscribing.{Verdict, decided, answered}
use Rattle.pushsession.specs.Reactions.{reacts_itself, by_itself}
use Rattle.pushsession.specs.declared.session_status.SessionStatus.TheVariants.{Stopped, Ended}
use Rattle.pushserver.specs.PlainHubs.{Hub, Session, Subscription, subscription_for, plain_keeps}
use Rattle.pushserver.specs.Hubs.{now, state_now, keeps_now, tells_now, update}
use Rattle.pushserver.specs.Giving.{has_home, known_at}
use Rattle.pushserver.proofs.Subscribing.{verdict-holds}
use Rattle.rrset.proofs.Distinct.{any_found}
use Rattle.pushserver.proofs.session_steps.Lists.{some-find}
use Rattle.pushserver.proofs.hub_steps.Cases.{itself_as}
use Rattle.pushserver.proofs.Walks.{Step, restarts, reacts, answers_subscribe, answers_update, answers_query, packs_names, comes_to_stop, ends_with, copies_front}
use Rattle.dsotlv.specs.Laws.{AreOctets}
use Rattle.dsotlv.proofs.Numbers.{two_below}
use Rattle.pushserver.proofs.session_steps.Octets.{question-named}
use Rattle.pushserver.proofs.told_rows.HubTells.{StatesTell}
use Rattle.pushtelling.proofs.Tells.{Tells, IsQuiet, tells-says_quiet, tells-cleared}
use Rattle.pushtelling.proofs.LettingGo.{tells-let_go}
use Rattle.pushtelling.proofs.Quiet.{quiet-formerr, quiet-dsotypeni, quiet-refusal_formerr, quiet-refusal_refused, quiet-refusal_notauth, quiet-grant, quiet-stop, quiet-update, quiet-not_implemented, quiet-reply}
use Rattle.pushtelling.proofs.Leading.{first_is_read}
use Rattle.pushtelling.proofs.Accepting.{tells-with_accepted}
use Rattle.pushtelling.proofs.Pushing.{tells-with_next_push}
use Rattle.pushtelling.proofs.Codes.{codes_are_small}

-- ---- which answers a reaction gives

abbrev QuietAnswer : Reaction → Type 0
QuietAnswer (Answer rcode) = (id : ℕ) → IsQuiet (answer_to id rcode)
QuietAnswer _ = Unit {0}

chosen-all : {X : Type 0} (P : X → Type 0) (cases : List (Bool × X)) (otherwise : X) → AllByRecursion (λ c. P c.1) cases → P otherwise → P (chosen cases otherwise)
chosen-all P [] otherwise all other = other
chosen-all P (c ∷ cases) otherwise all other = by c.0 (chosen-all P cases otherwise all.1 other)
  where
    by : (b : Bool) → P (chosen cases otherwise) → P (cond b c.1 (chosen cases otherwise))
    by true rest = all.0
    by false rest = rest

either-way : {X : Type 0} (P : X → Type 0) (b : Bool) (x y : X) → P x → P y → P (cond b x y)
either-way P true x y p q = p
either-way P false x y p q = q

quiet-answer_or_end : (head : DsoHead) (rcode : ℕ) (reason : EndReason) → ((id : ℕ) → IsQuiet (answer_to id rcode)) → QuietAnswer (answer_or_end head rcode reason)
quiet-answer_or_end head rcode reason quiet = either-way QuietAnswer (head.id == 0) (Abort reason) (Answer rcode) tt quiet

quiet-primary : (head : DsoHead) (kind size : ℕ) → QuietAnswer (primary_reaction head kind size)
quiet-primary head kind size = chosen-all QuietAnswer (
    (kind == keepalive_tlv, cond (head.id == 0) (Abort (ends.Misuse kind)) (cond (size == 8) Grant (Answer formerr)))
    ∷ (kind == retry_delay_tlv, Abort (ends.Misuse kind))
    ∷ (kind == padding_tlv, answer_or_end head formerr (ends.Misuse kind))
    ∷ (kind == subscribe_tlv, cond (head.id == 0) (Abort (ends.Misuse kind)) Subscribe)
    ∷ (kind == push_tlv, Abort (ends.Misuse kind))
    ∷ (kind == unsubscribe_tlv, cond (not (head.id == 0)) (Abort (ends.Misuse kind)) (cond (size == 2) Unsubscribe (Abort (ends.BadData kind))))
    ∷ (kind == reconfirm_tlv, cond (head.id == 0) Reconfirm (Abort (ends.Misuse kind)))
    ∷ []) (answer_or_end head dsotypeni (ends.Unknown kind)) (
      either-way QuietAnswer (head.id == 0) (Abort (ends.Misuse kind)) (cond (size == 8) Grant (Answer formerr)) tt (either-way QuietAnswer (size == 8) Grant (Answer formerr) tt quiet-formerr),
      (
        tt,
        (
          quiet-answer_or_end head formerr (ends.Misuse kind) quiet-formerr,
          (
            either-way QuietAnswer (head.id == 0) (Abort (ends.Misuse kind)) Subscribe tt tt,
            (
              tt,
              (
                either-way QuietAnswer (not (head.id == 0)) (Abort (ends.Misuse kind)) (cond (size == 2) Unsubscribe (Abort (ends.BadData kind))) tt (either-way QuietAnswer (size == 2) Unsubscribe (Abort (ends.BadData kind)) tt tt),
                (
                  either-way QuietAnswer (head.id == 0) Reconfirm (Abort (ends.Misuse kind)) tt tt,
                  tt,
                ),
              ),
            ),
          ),
        ),
      ),
    )
    (quiet-answer_or_end head dsotypeni (ends.Unknown kind) quiet-dsotypeni)

quiet-dso : (head : DsoHead) (established : Bool) → QuietAnswer (dso_reaction head established)
quiet-dso head established = chosen-all QuietAnswer (
    (not (head.tlvs_good && is_some head.primary), answer_or_end head formerr ends.Tlvs)
    ∷ (head.id == 0 && not established, Abort ends.Early)
    ∷ []) (elim head.primary as (λ _. Reaction) [ None ↦ answer_or_end head formerr ends.Tlvs | Some primary ↦ primary_reaction head primary.0 primary.1 ])
    (quiet-answer_or_end head formerr ends.Tlvs quiet-formerr, (tt, tt))
    (by head.primary)
  where
    by : (o : Option (ℕ × ℕ)) → QuietAnswer (elim o as (λ _. Reaction) [ None ↦ answer_or_end head formerr ends.Tlvs | Some primary ↦ primary_reaction head primary.0 primary.1 ])
    by None = quiet-answer_or_end head formerr ends.Tlvs quiet-formerr
    by (Some primary) = quiet-primary head primary.0 primary.1

quiet-reaction : (head : DsoHead) (established : Bool) → QuietAnswer (server_reaction head established)
quiet-reaction head established = chosen-all QuietAnswer (
    (is_response head.flags, Abort ends.Answer)
    ∷ (opcode_of head.flags == update_opcode, Update)
    ∷ (opcode_of head.flags == query_opcode, Query)
    ∷ (not (opcode_of head.flags == dso_opcode), NotImplemented)
    ∷ (not head.zero_counts, answer_or_end head formerr ends.Counts)
    ∷ []) (dso_reaction head established)
    (tt, (tt, (tt, (tt, (quiet-answer_or_end head formerr ends.Counts quiet-formerr, tt)))))
    (quiet-dso head established)

-- ---- the steps

module _ (hub : Hub) where
  abbrev TellsNow : Session → Type 0
  TellsNow session = Tells hub.start hub.history session

  tells-answers : (keepalive : Bool) (message : List ℕ) → IsQuiet message → (session : Session) → TellsNow session → TellsNow (answers (keeps_now hub) keepalive (now hub) message session)
  tells-answers keepalive message quiet session t = tells-says_quiet hub.start hub.history session keepalive (now hub) message quiet t

  tells-by_itself : (reaction : Reaction) → QuietAnswer reaction → (message : List ℕ) (session : Session) → TellsNow session → TellsNow (by_itself (keeps_now hub) reaction hub.timers (now hub) message session)
  tells-by_itself (Answer rcode) quiet message session t = tells-answers false (answer_to (id_of message) rcode) (quiet (id_of message)) session t
  tells-by_itself Grant quiet message session t =
      tells-answers true (grant_to (id_of message) hub.timers.inactivity hub.timers.keepalive) (quiet-grant (id_of message) hub.timers.inactivity hub.timers.keepalive) session t
  tells-by_itself (Abort reason) quiet message session t = tells-cleared hub.start hub.history session 0 (Ended reason) t
  tells-by_itself Unsubscribe quiet message session t = tells-let_go hub.start hub.history session (from_be_bytes w16 (primary_data message)) t
  tells-by_itself NotImplemented quiet message session t = tells-answers false (not_implemented message) (quiet-not_implemented message) session t
  tells-by_itself Subscribe quiet message session t = t
  tells-by_itself Reconfirm quiet message session t = t
  tells-by_itself Update quiet message session t = t
  tells-by_itself Query quiet message session t = t

  tells-itself : (message : List ℕ) (session : Session) → TellsNow session → TellsNow (reacts_itself (keeps_now hub) hub.timers (now hub) message session)
  tells-itself message session t = by (head_of message)
    where
      by : (o : Option DsoHead) → TellsNow (itself_as (keeps_now hub) hub.timers (now hub) message session o)
      by None = tells-cleared hub.start hub.history session 0 (Ended ends.Short) t
      by (Some head) = tells-by_itself (server_reaction head session.established) (quiet-reaction head session.established) message session t

  module _ (states : StatesTell hub) where
    tells-answered : (message : List ℕ) → AreOctets message → (session : Session) → TellsNow session
        → TellsNow (answered (keeps_now hub) (tells_now hub) (now hub) (id_of message) (question_of (primary_data message)) (has_home hub (question_of (primary_data message))) session)
    tells-answered message octets session t =
        verdict-holds (keeps_now hub) id question (has_home hub question) session.subscriptions (λ (v : Verdict). TellsNow (decided (keeps_now hub) (tells_now hub) (now hub) id v session))
        (tells-answers false (refusal_to id formerr) (quiet-refusal_formerr id) session t)
        (tells-answers false (refusal_to id notauth) (quiet-refusal_notauth id) session t)
        (tells-answers false (refusal_to id refused) (quiet-refusal_refused id) session t)
        (λ reason. tells-cleared hub.start hub.history session 0 (Ended reason) t)
        (λ q read new_id new_question. tells-with_accepted hub session id q states (two_below message 0 octets)
        (sym (some-find (λ (s : Subscription). s.id == id) session.subscriptions) ∙ new_id)
        (any_found (λ (s : Subscription). same_question s.question q) session.subscriptions (unfound (subscription_for session.subscriptions q) new_question))
        t (λ n ns e. first_is_read hub session q states t.most.points (named q read) n ns e))
      where
        id : ℕ
        id = id_of message

        question : Option Question
        question = question_of (primary_data message)

        named : (q : Question) → question ≡ Some q → IsTrue (is_name q.name)
        named q read = question-named message q octets read

        unfound : (o : Option Subscription) → option_map (λ (s : Subscription). s.id) o ≡ None → o ≡ None
        unfound None e = refl
        unfound (Some s) e = absurd cc

    pub tells-step : {f : Session → Session} → Step AreOctets hub f → (session : Session) → TellsNow session → TellsNow (f session)
    tells-step (restarts message) session t = t
    tells-step (reacts message) session t = tells-itself message session t
    tells-step (answers_subscribe message octets) session t = tells-answered message octets session t
    tells-step (answers_update before message) session t =
        let code = (update before message).0 in
        tells-answers false (answer_to_update (id_of message) code) (quiet-update (id_of message) code (codes_are_small before message)) session t
    tells-step (answers_query message octets) session t =
        let reply = reply_to (known_at (state_now hub)) message in
        tells-answers false reply (quiet-reply reply (replies_are_answers (known_at (state_now hub)) message)) session t
    tells-step packs_names session t = tells-with_next_push hub session states t
    tells-step (comes_to_stop rcode delay) session t = by session.established
      where
        by : (b : Bool) → TellsNow (cond b (says_stop (keeps_now hub) rcode delay (now hub) session) (ended_with (keeps_now hub) ends.Stopped session))
        by true =
            tells-cleared hub.start hub.history (answers (keeps_now hub) false (now hub) (stop_message rcode delay) session) 0 (Stopped (now hub))
            (tells-answers false (stop_message rcode delay) (quiet-stop rcode delay) session t)
        by false = tells-cleared hub.start hub.history session 0 (Ended ends.Stopped) t
    tells-step (ends_with reason) session t = tells-cleared hub.start hub.history session 0 (Ended reason) t
    tells-step (copies_front room) session t = t

-- ---- it ends, or stays

pub tells-ended_where : (start : State) (history : List Entry) (point : ℕ) (reason : Option EndReason) (session : Session) → Tells start history session → Tells start history (ended_where (plain_keeps point) reason session)
tells-ended_where start history point None session tells = tells
tells-ended_where start history point (Some reason) session tells = tells-cleared start history session point (Ended reason) tells
