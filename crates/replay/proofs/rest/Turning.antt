-- What a session with an empty queue makes of one message is what `turned` says of it.
--     grows      a history with one entry more is longer
--     turns-as-told      the hub behind the reaction
use Rattle.std.proofs.Common.{◌≡◌, ℕ, ◌<◌, Bool, true, false, cond, ◌&&◌, List, [], ◌∷◌, ◌++◌, length, Option, Some, None, Result, Ok, Err, refl, sym, ap, subst, arith, length-append}
use Rattle.rrset.specs.Header.{id_of}
use Rattle.rrset.specs.Rcodes.{noerror, servfail}
use Rattle.rrset.specs.declared.record.Rr.{Rr}
use Rattle.rrset.specs.declared.record.Key.{Key}
use Rattle.dnswire.specs.declared.message.Update.{Update}
use Rattle.dsotlv.specs.Answers.{answer_to, answer_to_update}
use Rattle.dsotlv.specs.Messages.{head_of, primary_data}
use Rattle.dsotlv.specs.Notices.{question_of, reconfirm_of}
use Rattle.dsotlv.specs.TlvKinds.{reconfirm_tlv}
use Rattle.dsotlv.specs.declared.message.DsoHead.{DsoHead}
use Rattle.dsotlv.specs.declared.message.Notice.{Notice}
use Rattle.dsosession.specs.Reactions.{server_reaction}
use Rattle.dsosession.specs.declared.session.EndReason.{EndReason}
use Rattle.dsosession.specs.declared.session.EndReason.TheVariants as ends
use Rattle.dsosession.specs.declared.session.Reaction.{Reaction}
use Rattle.dsosession.specs.declared.session.Reaction.TheVariants as reactions
use Rattle.history.specs.States.{verdict, accepts, reconfirm_key}
use Rattle.history.specs.declared.entry.Entry.{Entry}
use Rattle.history.specs.declared.entry.Entry.TheVariants as entries
use Rattle.pushsession.specs.Sessions.{ended_with}
use Rattle.pushsession.specs.Subscribing.{Verdict, Refuse, Abort, Accept, verdict_on, subscribed, first_answer_size, says_first_answer, decided}
use Rattle.std.specs.Int.{w16, from_be_bytes}
use Rattle.rrset.specs.declared.record.Question.{Question}
use Rattle.pushserver.specs.SoundHubs.{is_watched}
use Rattle.pushsession.specs.Reactions.{let_go, restarted_by, request_for, reacts_itself}
use Rattle.pushserver.specs.PlainHubs.{Session, Subscription, Queue, Hub, plain_keeps, first_answer}
use Rattle.pushserver.specs.Hubs.{newest, now, state_now, keeps_now, tells_now, session_of, in_session, entered_keeping, can_enter}
use Rattle.pushserver.specs.Giving.{has_home, reconfirms, by_request, reacted}
use Rattle.pushserver.proofs.hub_steps.Cases.{ends_as, enters_update, update_as, key_as, session_as, request_as, itself_as}
use Rattle.replay.proofs.rest.AtRest.{Core, resting, core_of, silent, Turned, enters, ends_for, goes_on, left_as, answers_with, by_shown, by_record, by_verdict, subscribing, replying, reacting, turned_by, listening, by_head, turned, with_sessions, At, Follows, TurnsAsTold}
use Rattle.replay.proofs.rest.RestingHubs.{at-in_session}

-- from an empty queue no name goes
none-goes : (n : ℕ) (o : Option Question) (left : List Subscription) → let_go (plain_keeps n) o left [] ≡ []
none-goes n None left = refl
none-goes n (Some question) left = by (is_watched left question.name)
  where
    by : (b : Bool) → cond {A = Queue} b [] [] ≡ []
    by true = refl
    by false = refl

pub grows : (history : List Entry) (entry : Entry) → length history < length (history ++ entry ∷ [])
grows history entry = omega (arith, length-append history (entry ∷ []))

module _ (hub : Hub) (number : ℕ) (input : List ℕ) where
  follows-cond : (b : Bool) (x y : Hub) (t u : Turned) → Follows hub number x input t → Follows hub number y input u → Follows hub number (cond b x y) input (cond b t u)
  follows-cond true x y t u h k = h
  follows-cond false x y t u h k = k

  -- ---- what a session makes of a message is alike, whatever waits in the input

  abbrev Alike : (Session → Session) → Core → Type 0
  Alike f core = (later : Hub) → At hub number later (f (resting core input [])) → Follows hub number later input (left_as (f (silent core)))

  first-alike : (answer : List ℕ) (notices : List Notice) (before : Queue) (core : Core) → Alike (says_first_answer (keeps_now hub) (now hub) answer notices before) core
  first-alike answer [] before core later at = at
  first-alike answer (n ∷ ns) before core later at = at

  decided-alike : (id : ℕ) (v : Verdict) (core : Core) → Alike (decided (keeps_now hub) (tells_now hub) (now hub) id v) core
  decided-alike id (Refuse rcode) core later at = at
  decided-alike id (Abort reason) core later at = record { session = ended_with (keeps_now hub) reason (resting core input []); at = at; standing = refl; output = refl }
  decided-alike id (Accept question) core later at =
      let notices = first_answer hub (silent core) question in
      let answer = answer_to id noerror in
      let end = (keeps_now hub).end_behind (first_answer_size answer notices) core.made in
      first-alike answer notices [] (core_of (subscribed (keeps_now hub) id question end (silent core))) later at

  reacting-alike : (r : Reaction) (message : List ℕ) (core : Core) → Alike (reacting hub r message) core
  reacting-alike (reactions.Answer rcode) message core later at = at
  reacting-alike reactions.Grant message core later at = at
  reacting-alike (reactions.Abort reason) message core later at = record { session = ended_with (keeps_now hub) reason (resting core input []); at = at; standing = refl; output = refl }
  reacting-alike reactions.Subscribe message core later at = at
  reacting-alike reactions.Unsubscribe message core later at =
      let id = from_be_bytes w16 (primary_data message) in
      let left = (keeps_now hub).without_id id core.subscriptions in
      subst (λ (q : Queue). At hub number later (record (resting (core_of (record (silent core) { subscriptions = left })) input []) { queue = q }))
      (none-goes (newest hub) ((keeps_now hub).question_of id core.subscriptions) left) at
  reacting-alike reactions.Reconfirm message core later at = at
  reacting-alike reactions.Update message core later at = at
  reacting-alike reactions.Query message core later at = at
  reacting-alike reactions.NotImplemented message core later at = at

  subscribing-alike : (message : List ℕ) (core : Core) → Alike (subscribing hub message) core
  subscribing-alike message core later at =
      let question = question_of (primary_data message) in
      decided-alike (id_of message) (verdict_on (keeps_now hub) (id_of message) question (has_home hub question) core.subscriptions) core later at

  module _ (sessions : List (ℕ × Session)) (made : ℕ) (core : Core) (there : session_of (with_sessions hub sessions made) number ≡ Some (resting core input [])) where
    abbrev here : Hub
    here = with_sessions hub sessions made

    at-here : At hub number here (resting core input [])
    at-here = record { is = refl; there = there }

    changed : (f : Session → Session) → At hub number (in_session number f here) (f (resting core input []))
    changed f = at-in_session hub number here (resting core input []) f at-here

    ending : (reason : EndReason) → Follows hub number (ends_as number reason here) input (left_as (ended_with (keeps_now hub) reason (silent core)))
    ending reason = record { session = ended_with (keeps_now hub) reason (resting core input []); at = changed (ended_with (keeps_now hub) reason); standing = refl; output = refl }

    abbrev by_itself : List ℕ → Session → Session
    by_itself message s = reacts_itself (keeps_now hub) hub.timers (now hub) message s

    itself : (r : Reaction) (message : List ℕ) → by_itself message (resting core input []) ≡ reacting hub r message (resting core input []) → Follows hub number (in_session number (by_itself message) here) input (left_as (reacting hub r message (silent core)))
    itself r message is = reacting-alike r message core (in_session number (by_itself message) here) (subst (At hub number (in_session number (by_itself message) here)) is (changed (by_itself message)))

    -- ---- what may make an entry

    reconfirming-key : (o : Option (ℕ × Key)) → Follows hub number (key_as here o) input (by_shown hub core o)
    reconfirming-key None = at-here
    reconfirming-key (Some found) =
        let entry = entries.Reconfirm found.0 found.1 in
        follows-cond (accepts (state_now hub) entry && can_enter hub) (entered_keeping entry here) here enters (goes_on (silent core)) (grows hub.history entry) at-here

    reconfirming : (o : Option Rr) → Follows hub number (reconfirms o number here) input (by_record hub core o)
    reconfirming None = ending (ends.BadData reconfirm_tlv)
    reconfirming (Some rr) = reconfirming-key (reconfirm_key (state_now hub) rr)

    -- an update is answered by its RCODE
    abbrev with_code : List ℕ → ℕ × Hub → Hub
    with_code message judged = in_session number (answers_with judged.1 (answer_to_update (id_of message) judged.0)) judged.1

    updating-room : (message : List ℕ) (u : Update) (b : Bool) → Follows hub number (with_code message (enters_update here u b)) input (cond b enters (left_as (answers_with hub (answer_to_update (id_of message) servfail) (silent core))))
    updating-room message u true = grows hub.history (entries.Update u)
    updating-room message u false = changed (answers_with hub (answer_to_update (id_of message) servfail))

    updating : (message : List ℕ) (r : Result Update ℕ) → Follows hub number (with_code message (update_as here r)) input (by_verdict hub message core r)
    updating message (Err code) = changed (answers_with hub (answer_to_update (id_of message) code))
    updating message (Ok u) = updating-room message u (can_enter hub)

    -- ---- all reactions

    reaction-turns : (r : Reaction) (message : List ℕ) → by_itself message (resting core input []) ≡ reacting hub r message (resting core input []) → Follows hub number (by_request (request_for r message) number message here) input (turned_by hub r message core)
    reaction-turns reactions.Subscribe message is = subscribing-alike message core (in_session number (subscribing hub message) here) (changed (subscribing hub message))
    reaction-turns reactions.Reconfirm message is = reconfirming (reconfirm_of (primary_data message))
    reaction-turns reactions.Update message is = updating message (verdict (state_now hub) message)
    reaction-turns reactions.Query message is = changed (replying hub message)
    reaction-turns (reactions.Answer rcode) message is = itself (reactions.Answer rcode) message is
    reaction-turns reactions.Grant message is = itself reactions.Grant message is
    reaction-turns (reactions.Abort reason) message is = itself (reactions.Abort reason) message is
    reaction-turns reactions.Unsubscribe message is = itself reactions.Unsubscribe message is
    reaction-turns reactions.NotImplemented message is = itself reactions.NotImplemented message is

  -- ---- a message

  turns-in : (sessions : List (ℕ × Session)) (made : ℕ) (message : List ℕ) (core : Core) → session_of (with_sessions hub sessions made) number ≡ Some (resting core input [])
      → Follows hub number (reacted message number (with_sessions hub sessions made)) input (turned hub message core)
  turns-in sessions made message core there = subst (λ (o : Option Session). Follows hub number (session_as whole number message o) input (turned hub message core)) (sym there) (by (head_of message) refl)
    where
      whole : Hub
      whole = with_sessions hub sessions made

      later : Hub
      later = in_session number (restarted_by message (now hub)) whole

      found : session_of later number ≡ Some (resting (listening hub message core) input [])
      found = (changed sessions made core there (restarted_by message (now hub))).there

      by : (o : Option DsoHead) → head_of message ≡ o → Follows hub number (by_request (request_as message core.established o) number message later) input (by_head hub message core o)
      by None whole_is = subst (λ (o : Option DsoHead). Follows hub number (in_session number (λ s. itself_as (keeps_now hub) hub.timers (now hub) message s o) later) input (ends_for ends.Short)) (sym whole_is) (ending later.sessions made (listening hub message core) found ends.Short)
      by (Some head) whole_is =
          reaction-turns later.sessions made (listening hub message core) found (server_reaction head core.established) message
          (ap (λ (o : Option DsoHead). itself_as (keeps_now hub) hub.timers (now hub) message (resting (listening hub message core) input []) o) whole_is)

pub turns-as-told : TurnsAsTold
turns-as-told hub number later message core input at =
    subst (λ (h : Hub). session_of h number ≡ Some (resting core input []) → Follows hub number (reacted message number h) input (turned hub message core)) (sym at.is) (turns-in hub number input later.sessions later.numbers_given message core) at.there
