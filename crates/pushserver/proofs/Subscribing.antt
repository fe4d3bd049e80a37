-- A SUBSCRIBE that none of the tests refuses is answered.
--     verdict-holds      which verdicts there may be
--     output_says      what the answer and the PUSH add to the output
--     reaction      the hub behind it
--     found_accepted      the session afterwards
--     subscribe_is_answered      by NOERROR, and by the first answer's PUSH
use Rattle.std.proofs.Common.{◌≡◌, ℕ, Bool, true, false, not, ◌&&◌, List, [], ◌∷◌, ◌++◌, Option, Some, None, sym, ◌∙◌, ap, refl}
use Rattle.std.specs.Prelude.{option_map, nat_le, if◌then◌else◌}
use Rattle.std.proofs.lemmas.List.{append_assoc, append-nil}
use Rattle.push_base.specs.Limits.{max_questions}
use Rattle.rrset.specs.Header.{id_of}
use Rattle.rrset.specs.Rcodes.{noerror, formerr, notauth, refused}
use Rattle.rrset.specs.declared.record.Question.{Question}
use Rattle.dsotlv.specs.Answers.{answer_to}
use Rattle.dsotlv.specs.Messages.{frame}
use Rattle.dsotlv.specs.declared.message.Notice.{Notice}
use Rattle.coalesce.specs.Net.{push_frame}
use Rattle.dsosession.specs.declared.session.EndReason.{EndReason}
use Rattle.dsosession.specs.declared.session.EndReason.TheVariants as ends
use Rattle.pushsession.specs.Sessions.{SessionOf, Keeps}
use Rattle.pushsession.specs.Subscribing.{Verdict, Refuse, Abort, Accept, verdict_on, is_served, subscribed, says_first_answer, first_answer_size, with_accepted, decided, answered}
use Rattle.pushsession.specs.Reactions.{restarted_by}
use Rattle.pushsession.specs.declared.request.Request.{Request}
use Rattle.pushserver.specs.PlainHubs.{Hub, Session, first_answer}
use Rattle.pushserver.specs.Hubs.{now, keeps_now, tells_now, session_of, in_session}
use Rattle.pushserver.specs.Giving.{has_home, by_request, reacted}
use Rattle.pushserver.specs.Laws.{IsAcceptable, SubscribeIsAnswered}
use Rattle.livesessions.proofs.SessionLists.{found-in}
use Rattle.pushserver.proofs.hub_steps.Cases.{session_as}

-- ---- the tests

-- the verdict by the outcomes of the tests
abbrev by_tests : ℕ → Question → Bool → Option ℕ → Bool → Bool → Bool → Verdict
by_tests id question used active served has_home full =
    if used then Abort (ends.IdInUse id)
    else elim active [ Some twice ↦ Abort (ends.Twice twice) | None ↦ if not (served && has_home) then Refuse notauth else if full then Refuse refused else Accept question ]

-- what holds of each verdict that there may be
pub verdict-holds : {A Q M : Type 0} (keeps : Keeps A Q M) (id : ℕ) (question : Option Question) (home : Bool) (subscriptions : A) (P : Verdict → Type 0)
    → P (Refuse formerr) → P (Refuse notauth) → P (Refuse refused) → ((reason : EndReason) → P (Abort reason))
    → ((q : Question) → question ≡ Some q → keeps.has_id id subscriptions ≡ false → keeps.id_of q subscriptions ≡ None → P (Accept q))
    → P (verdict_on keeps id question home subscriptions)
verdict-holds keeps id None home subscriptions P malformed away full ends_with taken = malformed
verdict-holds keeps id (Some q) home subscriptions P malformed away full ends_with taken =
    by (keeps.has_id id subscriptions) refl (keeps.id_of q subscriptions) refl (is_served q.class) home (nat_le max_questions (keeps.count subscriptions))
  where
    by : (used : Bool) → keeps.has_id id subscriptions ≡ used → (active : Option ℕ) → keeps.id_of q subscriptions ≡ active → (served home no_room : Bool) → P (by_tests id q used active served home no_room)
    by true u active a served home no_room = ends_with (ends.IdInUse id)
    by false u (Some twice) a served home no_room = ends_with (ends.Twice twice)
    by false u None a false home no_room = away
    by false u None a true false no_room = away
    by false u None a true true true = full
    by false u None a true true false = taken q refl u a

-- ---- what is written

pub output_says : {A Q M : Type 0} (keeps : Keeps A Q M) (now : ℕ) (answer : List ℕ) (notices : List Notice) (before : Q) (session : SessionOf A Q M)
    → (says_first_answer keeps now answer notices before session).output ≡ session.output ++ (frame answer ++ push_frame notices)
output_says keeps now answer [] before session = ap (λ x. session.output ++ x) (sym (append-nil (frame answer)))
output_says keeps now answer (n ∷ ns) before session = append_assoc session.output (frame answer) (push_frame (n ∷ ns))

-- ---- the session

module _ (message : List ℕ) (number : ℕ) (hub : Hub) (session : Session) (question : Question) (a : IsAcceptable hub session message question) where
  -- the session and the hub when the timers are restarted
  abbrev pub listening : Session
  listening = restarted_by message (now hub) session

  abbrev pub hub_heard : Hub
  hub_heard = in_session number (restarted_by message (now hub)) hub

  abbrev pub answering : Option Question → Session → Session
  answering o s = answered (keeps_now hub) (tells_now hub) (now hub) (id_of message) o (has_home hub o) s

  pub reaction : session_of hub number ≡ Some session → reacted message number hub ≡ in_session number (answering (Some question)) hub_heard
  reaction has =
      ap (session_as hub number message) has
      ∙ ap (λ (q : Request). by_request q number message hub_heard) a.request

  pub found_accepted : session_of hub number ≡ Some session → session_of (reacted message number hub) number ≡ Some (with_accepted (keeps_now hub) (tells_now hub) (now hub) (id_of message) question listening)
  found_accepted has =
      ap (λ (h : Hub). session_of h number) (reaction has)
      ∙ found-in number (answering (Some question)) hub_heard.sessions
      ∙ ap (option_map (answering (Some question))) (found-in number (restarted_by message (now hub)) hub.sessions ∙ ap (option_map (restarted_by message (now hub))) has)
      ∙ ap (λ (v : Verdict). Some (decided (keeps_now hub) (tells_now hub) (now hub) (id_of message) v listening)) a.accepted

  is_answered : session_of hub number ≡ Some session
      → option_map (λ (s : Session). s.output) (session_of (reacted message number hub) number)
      ≡ Some (session.output ++ (frame (answer_to (id_of message) noerror) ++ push_frame (first_answer hub session question)))
  is_answered has =
      ap (λ o. option_map (λ (s : Session). s.output) o) (found_accepted has)
      ∙ ap (λ o. Some o) (output_says (keeps_now hub) (now hub) (answer_to (id_of message) noerror) (first_answer hub session question) listening.queue (subscribed (keeps_now hub) (id_of message) question end listening))
    where
      end : ℕ
      end = (keeps_now hub).end_behind (first_answer_size (answer_to (id_of message) noerror) (first_answer hub session question)) session.made

pub subscribe_is_answered : SubscribeIsAnswered
subscribe_is_answered hub number session message question has a = is_answered message number hub session question a has
