-- The reaction to a message, on the hub that is kept and on the plain one.
--     IsQuiet number hub, GoesOn number hub      nothing of the session waits to be written; it goes on
--     reacted-stands
use Rattle.std.proofs.Common.{◌≡◌, ℕ, Bool, true, false, List, [], Option, Some, None, Result, Ok, Err, sym, ◌∙◌, subst, refl, arith}
use Rattle.std.specs.Prelude.{option_map}
use Rattle.rrset.specs.Header.{id_of}
use Rattle.rrset.specs.declared.record.Key.{Key}
use Rattle.rrset.specs.declared.record.Question.{Question}
use Rattle.rrset.specs.declared.record.Rr.{Rr}
use Rattle.dnswire.specs.declared.message.Update.{Update}
use Rattle.dnsquery.specs.Replies.{reply_to}
use Rattle.dsotlv.specs.Messages.{head_of, primary_data}
use Rattle.dsotlv.specs.Notices.{question_of, reconfirm_of}
use Rattle.dsotlv.specs.TlvKinds.{reconfirm_tlv}
use Rattle.dsotlv.specs.declared.message.DsoHead.{DsoHead}
use Rattle.dsosession.specs.Reactions.{server_reaction}
use Rattle.dsosession.specs.declared.session.EndReason.{EndReason}
use Rattle.dsosession.specs.declared.session.EndReason.TheVariants as ends
use Rattle.dsosession.specs.declared.session.Reaction.{Reaction}
use Rattle.dsosession.specs.declared.session.Reaction.TheVariants as reactions
use Rattle.history.specs.States.{reconfirm_key, verdict}
use Rattle.history.specs.declared.entry.Entry.{Entry}
use Rattle.history.specs.declared.entry.Entry.TheVariants as entries
use Rattle.pushsession.specs.Kept.{KeptSession, keeping, telling}
use Rattle.dsotlv.specs.Answers.{answer_to_update}
use Rattle.pushsession.specs.Sessions.{is_open, ended_with, ended_where, answers}
use Rattle.pushsession.specs.Subscribing.{answered}
use Rattle.pushsession.specs.Reactions.{restarted_by, request_in, request_for, reacts_itself, answers_query}
use Rattle.pushsession.specs.declared.request.Request.TheVariants as requests
use Rattle.pushserver.specs.PlainHubs.{Hub, Session, plain_keeps, plain_tells}
use Rattle.livesessions.specs.NumberedSessions.{Numbered, session_in, in_sessions}
use Rattle.pushserver.specs.Hubs.{newest, now, state_now, records_now, session_of, in_session, entered, behind_at, ended_behind, ends_behind, entered_keeping, can_enter, update}
use Rattle.pushserver.specs.Offering.{offered}
use Rattle.pushserver.specs.Giving.{has_home, subscribes, reconfirms, updates, known_at, queries, by_request, reacted}
use Rattle.pushserver.specs.KeptHubs.{KeptHub, StandsFor}
use Rattle.dsotlv.specs.Laws.{AreOctets}
use Rattle.pushserver.specs.Simulation.{BothAnswer}
use Rattle.livesessions.proofs.SessionLists.{found-all, found-in}
use Rattle.pushserver.proofs.session_steps.Standing.{ended-keeps}
use Rattle.pushserver.proofs.session_steps.Saying.{answers-keeps, restarts-keeps}
use Rattle.pushserver.proofs.session_steps.Reactions.{itself-keeps}
use Rattle.pushserver.proofs.session_steps.Octets.{question-named}
use Rattle.pushserver.proofs.session_steps.Accepting.{answered-keeps}
use Rattle.pushserver.proofs.session_steps.Since.{itself-since, answered-since}
use Rattle.pushserver.proofs.told_rows.HubTells.{hub_told}
use Rattle.pushserver.proofs.told_rows.HeardRows.{brings_nothing}
use Rattle.pushserver.proofs.told_rows.Replied.{reply_short}
use Rattle.pushserver.proofs.told_rows.Hubs.{link_tells}
use Rattle.pushserver.proofs.hub_steps.Standing.{kept_of, Stands, with_kept, fitting, in-stands, found-stands, FoundBoth, both_found}
use Rattle.pushserver.proofs.hub_steps.Cases.{ends_as, enters_update, update_as, key_as, session_as, request_as}
use Rattle.pushserver.proofs.hub_steps.Entering.{plain_noted}
use Rattle.pushserver.proofs.hub_steps.Calls.{offered-stands, update-stands}
use Rattle.pushserver.proofs.Offering.{key-offered}

-- ---- nothing waits to be written

-- what holds of the session of a number, where it is there
abbrev OfFound : (Session → Type 0) → ℕ → Hub → Type 0
OfFound P number hub = (p : Session) → session_of hub number ≡ Some p → P p

abbrev pub IsQuiet : ℕ → Hub → Type 0
IsQuiet number hub = OfFound (λ p. p.output ≡ []) number hub

abbrev pub GoesOn : ℕ → Hub → Type 0
GoesOn number hub = OfFound (λ p. is_open p.standing ≡ true) number hub

-- it holds still where a change leaves it
pub found-later : (P : Session → Type 0) (number : ℕ) (g : Session → Session) → ((p : Session) → P p → P (g p)) → (hub later : Hub) → session_of later number ≡ option_map g (session_of hub number)
    → ((p : Session) → session_of hub number ≡ Some p → P p) → (p : Session) → session_of later number ≡ Some p → P p
found-later P number g leaves hub later found before p is = by (session_of hub number) refl (sym found ∙ is)
  where
    by : (o : Option Session) → session_of hub number ≡ o → option_map g o ≡ Some p → P p
    by None none e = absurd cc
    by (Some q) some e = let same : g q ≡ p = cc in subst P same (leaves q (before q some))

quiet-updated : (number : ℕ) (hub : Hub) (message : List ℕ) → IsQuiet number hub → IsQuiet number (update hub message).1
quiet-updated number hub message quiet = by (verdict (state_now hub) message)
  where
    ended : (entry : Entry) (p : Session) (o : Option ℕ) → p.output ≡ [] → (ended_where (plain_keeps (newest hub)) (option_map (λ point. ends.Behind point) o) p).output ≡ []
    ended entry p None silent = silent
    ended entry p (Some point) silent = silent

    fallen : (entry : Entry) → IsQuiet number (ends_behind entry hub)
    fallen entry = found-later (λ p. p.output ≡ []) number (ended_behind hub entry) (λ p silent. ended entry p (behind_at hub entry p) silent) hub (ends_behind entry hub) (found-all (ended_behind hub entry) number hub.sessions) quiet

    later : (entry : Entry) → IsQuiet number (entered_keeping entry hub)
    later entry =
        let fewer = ends_behind entry hub in
        found-later (λ p. p.output ≡ []) number (plain_noted fewer entry) (λ p silent. silent) fewer (entered entry fewer) (found-all (plain_noted fewer entry) number fewer.sessions) (fallen entry)

    by_room : (u : Update) (b : Bool) → IsQuiet number (enters_update hub u b).1
    by_room u true = later (entries.Update u)
    by_room u false = quiet

    by : (r : Result Update ℕ) → IsQuiet number (update_as hub r).1
    by (Err code) = quiet
    by (Ok u) = by_room u (can_enter hub)

-- ---- an update

-- the answer to an update, on the hubs that it left
answered-stands : (number id : ℕ) (k : ℕ × KeptHub) (p : ℕ × Hub) → IsQuiet number p.1 → BothAnswer k p
    → StandsFor (in_session number (answers keeping false (now k.1) (answer_to_update id k.0)) k.1) (in_session number (answers (plain_keeps (newest p.1)) false (now p.1) (answer_to_update id p.0)) p.1)
answered-stands number id k p quiet both =
    subst (λ (code : ℕ). StandsFor (in_session number (answers keeping false (now k.1) (answer_to_update id code)) k.1) (in_session number says p.1)) (sym both.0)
    (with_kept (λ k. StandsFor (in_session number (answers keeping false (now k) (answer_to_update id p.0)) k) (in_session number says p.1)) k.1 p.1 both.1
    (found-stands p.1 k.1.seen.number k.1.sessions (answers keeping false (now p.1) (answer_to_update id p.0)) says (λ point session since. since) number
    (λ s r found pair. answers-keeps p.1 (newest p.1) false (now p.1) (answer_to_update id p.0) s r (quiet r.1 found) (omega arith) pair)))
  where
    says : Session → Session
    says session = answers (plain_keeps (newest p.1)) false (now p.1) (answer_to_update id p.0) session

-- ---- each reaction

module _ (number : ℕ) (hub : Hub) (from : ℕ) (ks : Numbered KeptSession) (h : Stands hub from ks) where
  abbrev khub : KeptHub
  khub = kept_of hub from ks

  pub ends-stands : (reason : EndReason) → StandsFor (ends_as number reason khub) (ends_as number reason hub)
  ends-stands reason = in-stands hub from ks (ended_with keeping reason) (ended_with (plain_keeps (newest hub)) reason) (λ point session since. tt) number (ended-keeps hub (newest hub) reason) h

  reconfirms-stands : (found : Option Rr) → StandsFor (reconfirms found number khub) (reconfirms found number hub)
  reconfirms-stands None = ends-stands (ends.BadData reconfirm_tlv)
  reconfirms-stands (Some rr) = by (reconfirm_key (state_now hub) rr)
    where
      by : (o : Option (ℕ × Key)) → StandsFor (key_as khub o) (key_as hub o)
      by None = h
      by (Some found) =
          let entry = entries.Reconfirm found.0 found.1 in
          subst (λ k. StandsFor k (key_as hub (Some found))) (sym (key-offered khub found.0 found.1))
          (subst (λ p. StandsFor (offered entry khub).1 p) (sym (key-offered hub found.0 found.1)) (offered-stands hub from ks entry (link_tells hub entry found.0 refl brings_nothing h.sound.states) h).1)

  module _ (quiet : IsQuiet number hub) (goes : GoesOn number hub) where
    itself-stands : (message : List ℕ) → StandsFor (by_request requests.Itself number message khub) (by_request requests.Itself number message hub)
    itself-stands message =
        found-stands hub from ks (reacts_itself keeping hub.timers (now hub) message) (reacts_itself (plain_keeps (newest hub)) hub.timers (now hub) message) (itself-since hub.timers (now hub) message) number
        (λ k p found s. itself-keeps hub (newest hub) hub.timers (now hub) message k p (quiet p.1 found) s) h

    subscribes-stands : (message : List ℕ) → AreOctets message → (question : Option Question) → question_of (primary_data message) ≡ question → StandsFor (subscribes question number message khub) (subscribes question number message hub)
    subscribes-stands message octets question read =
        found-stands hub from ks (answered keeping (telling (records_now hub)) (now hub) (id_of message) question (has_home hub question))
        (answered (plain_keeps (newest hub)) (plain_tells hub.start hub.history) (now hub) (id_of message) question (has_home hub question)) (answered-since (records_now hub) (now hub) (id_of message) question (has_home hub question)) number
        (λ k p found s. answered-keeps hub (newest hub) (now hub) (id_of message) question k p (goes p.1 found) (quiet p.1 found) (hub_told hub h.sound.states) (λ q is. question-named message q octets (read ∙ is)) s) h

    updates-stands : (message : List ℕ) → AreOctets message → StandsFor (updates number message khub) (updates number message hub)
    updates-stands message octets = answered-stands number (id_of message) (update khub message) (update hub message) (quiet-updated number hub message quiet) (update-stands hub from ks message octets h)

    -- both hubs have one state, so the reply is the same
    queries-stands : (message : List ℕ) → StandsFor (queries number message khub) (queries number message hub)
    queries-stands message =
        let reply = reply_to (known_at (state_now hub)) message in
        found-stands hub from ks (answers_query keeping (now hub) reply) (answers_query (plain_keeps (newest hub)) (now hub) reply) (λ point session since. since) number
        (λ k p found s. answers-keeps hub (newest hub) false (now hub) reply k p (quiet p.1 found) (reply_short hub message h.sound.states) s) h

    reaction-stands : (reaction : Reaction) (message : List ℕ) → AreOctets message → StandsFor (by_request (request_for reaction message) number message khub) (by_request (request_for reaction message) number message hub)
    reaction-stands reactions.Subscribe message octets = subscribes-stands message octets (question_of (primary_data message)) refl
    reaction-stands reactions.Reconfirm message octets = reconfirms-stands (reconfirm_of (primary_data message))
    reaction-stands reactions.Update message octets = updates-stands message octets
    reaction-stands reactions.Query message octets = queries-stands message
    reaction-stands (reactions.Answer rcode) message octets = itself-stands message
    reaction-stands reactions.Grant message octets = itself-stands message
    reaction-stands (reactions.Abort reason) message octets = itself-stands message
    reaction-stands reactions.Unsubscribe message octets = itself-stands message
    reaction-stands reactions.NotImplemented message octets = itself-stands message

    request-stands : (message : List ℕ) → AreOctets message → (established : Bool) → StandsFor (by_request (request_in message established) number message khub) (by_request (request_in message established) number message hub)
    request-stands message octets established = by (head_of message)
      where
        by : (o : Option DsoHead) → StandsFor (by_request (request_as message established o) number message khub) (by_request (request_as message established o) number message hub)
        by None = itself-stands message
        by (Some head) = reaction-stands (server_reaction head established) message octets

-- ---- a message

pub reacted-stands : (number : ℕ) (hub : Hub) (from : ℕ) (ks : Numbered KeptSession) (message : List ℕ) → IsQuiet number hub → GoesOn number hub → AreOctets message → Stands hub from ks → StandsFor (reacted message number (kept_of hub from ks)) (reacted message number hub)
reacted-stands number hub from ks message quiet goes octets h = by (session_in number ks) (session_in number hub.sessions) (both_found hub number ks hub.sessions (fitting h))
  where
    by : (s : Option KeptSession) (p : Option Session) → FoundBoth hub number s p → StandsFor (session_as (kept_of hub from ks) number message s) (session_as hub number message p)
    by None None both = h
    by None (Some p) both = absurd both
    by (Some s) None both = absurd both
    by (Some s) (Some p) both =
        let f = restarted_by message (now hub) in
        let later = in_session number (restarted_by message (now hub)) hub in
        subst (λ b. StandsFor (by_request (request_in message b) number message (in_session number (restarted_by message (now hub)) (kept_of hub from ks))) (session_as hub number message (Some p))) (sym both.stands.established)
        (request-stands number later from (in_sessions number (restarted_by message (now hub)) ks) (in-stands hub from ks (restarted_by message (now hub)) f (λ point session since. since) number (restarts-keeps hub message (now hub)) h)
        (found-later (λ p. p.output ≡ []) number f (λ p silent. silent) hub later (found-in number f hub.sessions) quiet)
        (found-later (λ p. is_open p.standing ≡ true) number f (λ p opens. opens) hub later (found-in number f hub.sessions) goes) message octets p.established)
