-- What a session with an empty queue writes when it reacts to a message has far fewer octets than a script's turns.
--     writes-few      at most 20,000,000 octets, in a state that is within the bounds
use Rattle.std.proofs.Common.{◌≡◌, ℕ, ◌+◌, ◌≤◌, Bool, true, false, cond, not, ◌&&◌, List, [], length, Option, Some, None, Result, Ok, Err, sym, ◌∙◌, ap, subst, arith, le_trans}
use Rattle.std.specs.Prelude.{bit_and}
use Rattle.rrset.specs.Header.{id_of, flags_of, answer_octets}
use Rattle.rrset.specs.Rcodes.{noerror, notimp, servfail}
use Rattle.rrset.specs.RecordSet.{at_name}
use Rattle.rrset.specs.declared.record.Question.{Question}
use Rattle.rrset.specs.declared.record.Rr.{Rr}
use Rattle.rrset.specs.declared.record.Key.{Key}
use Rattle.rrset.proofs.SameRows.{same_rows-self}
use Rattle.dnswire.specs.declared.message.Update.{Update}
use Rattle.dnsquery.specs.Replies.{reply_to}
use Rattle.dsotlv.specs.Messages.{frame, head_of, primary_data, dso_flags}
use Rattle.dsotlv.specs.Answers.{grant_to, refusal_to, answer_to, answer_to_update}
use Rattle.dsotlv.specs.Notices.{question_of, reconfirm_of}
use Rattle.dsotlv.specs.declared.message.DsoHead.{DsoHead}
use Rattle.coalesce.specs.FirstAnswers.{told_first}
use Rattle.dsosession.specs.Reactions.{server_reaction}
use Rattle.dsosession.specs.declared.session.Reaction.{Reaction}
use Rattle.dsosession.specs.declared.session.Reaction.TheVariants as reactions
use Rattle.history.specs.States.{verdict, accepts, reconfirm_key}
use Rattle.history.specs.declared.entry.Entry.TheVariants as entries
use Rattle.pushsession.specs.declared.session_status.SessionStatus.{SessionStatus}
use Rattle.pushsession.specs.declared.session_status.SessionStatus.TheVariants.{Live, AskedToStop, Stopped, Ended}
use Rattle.pushsession.specs.Subscribing.{Verdict, Refuse, Abort, Accept, verdict_on, subscribed, first_answer_size, decided}
use Rattle.pushserver.specs.PlainHubs.{Session, wanted, Hub, first_answer, asks_for}
use Rattle.pushserver.specs.Hubs.{now, state_now, records_now, keeps_now, tells_now, can_enter}
use Rattle.pushserver.specs.Giving.{has_home, known_at}
use Rattle.pushserver.proofs.Subscribing.{output_says}
use Rattle.replay.proofs.serving.Answering.{notices_for}
use Rattle.replay.proofs.serving.LastAnswering.{with_push}
use Rattle.replay.proofs.turns.ReplySizes.{accepted-size}
use Rattle.replay.proofs.turns.QuerySizes.{replied-size}
use Rattle.replay.proofs.turns.ZoneSizes.{IsBounded}
use Rattle.replay.proofs.rest.AtRest.{Core, silent, Turned, enters, goes_on, left_as, answers_with, by_shown, by_record, by_verdict, subscribing, replying, reacting, turned_by, listening, by_head, IsFew, WritesFew}

-- ---- answers of a header, or with one TLV

header-few : (id flags : ℕ) → length (frame (answer_octets id flags)) ≤ 20000000
header-few id flags = omega arith

refusal-few : (id rcode : ℕ) → length (frame (refusal_to id rcode)) ≤ 20000000
refusal-few id rcode = omega arith

grant-few : (id inactivity keepalive : ℕ) → length (frame (grant_to id inactivity keepalive)) ≤ 20000000
grant-few id inactivity keepalive = omega arith

frame-few : (message : List ℕ) → length message ≤ 18000000 → length (frame message) ≤ 20000000
frame-few message few = omega (arith, few)

none-few : 0 ≤ 20000000
none-few = omega arith

few-cond : (b : Bool) (t u : Turned) → IsFew t → IsFew u → IsFew (cond b t u)
few-cond true t u h k = h
few-cond false t u h k = k

-- a session with few octets to write
few-left : (s : Session) → length s.output ≤ 20000000 → IsFew (left_as s)
few-left s few = by s.standing
  where
    turned : SessionStatus → Turned
    turned standing = left_as (record s { standing = standing })

    by : (standing : SessionStatus) → IsFew (turned standing)
    by Live = few
    by (AskedToStop rcode delay) = few
    by (Stopped since) = few
    by (Ended reason) = tt

module _ (hub : Hub) where
  -- ---- the first answer

  -- an empty queue has told all, whatever else is subscribed to
  pub first_answer-silent : (core : Core) (question : Question) → first_answer hub (silent core) question ≡ notices_for (state_now hub) question
  first_answer-silent core question =
      let found = at_name question.name (records_now hub) in
      ap (λ b. told_first (not b) question (asks_for core.subscriptions) found) (same_rows-self (wanted core.subscriptions found))

  accepted-output : (id : ℕ) (question : Question) (core : Core) → (decided (keeps_now hub) (tells_now hub) (now hub) id (Accept question) (silent core)).output ≡ with_push id (notices_for (state_now hub) question)
  accepted-output id question core =
      let notices = first_answer hub (silent core) question in
      let answer = answer_to id noerror in
      let end = (keeps_now hub).end_behind (first_answer_size answer notices) core.made in
      output_says (keeps_now hub) (now hub) answer notices [] (subscribed (keeps_now hub) id question end (silent core)) ∙ ap (with_push id) (first_answer-silent core question)

  module _ (message : List ℕ) (b : IsBounded (state_now hub)) where
    few-decided : (id : ℕ) (core : Core) (v : Verdict) → length (decided (keeps_now hub) (tells_now hub) (now hub) id v (silent core)).output ≤ 20000000
    few-decided id core (Refuse rcode) = refusal-few id rcode
    few-decided id core (Abort reason) = none-few
    few-decided id core (Accept question) = subst (λ (os : List ℕ). length os ≤ 20000000) (sym (accepted-output id question core)) (le_trans (accepted-size (state_now hub) id question b) (omega arith))

    few-answered : (core : Core) → length (subscribing hub message (silent core)).output ≤ 20000000
    few-answered core =
        let question = question_of (primary_data message) in
        few-decided (id_of message) core (verdict_on (keeps_now hub) (id_of message) question (has_home hub question) core.subscriptions)

    few-replied : (core : Core) → length (replying hub message (silent core)).output ≤ 20000000
    few-replied core = frame-few (reply_to (known_at (state_now hub)) message) (replied-size (state_now hub) message b)

    few-updated : (code : ℕ) (core : Core) → IsFew (left_as (answers_with hub (answer_to_update (id_of message) code) (silent core)))
    few-updated code core = header-few (id_of message) (0xa800 + code)

    few-itself : (r : Reaction) (core : Core) → length (reacting hub r message (silent core)).output ≤ 20000000
    few-itself (reactions.Answer rcode) core = header-few (id_of message) (dso_flags true rcode)
    few-itself reactions.Grant core = grant-few (id_of message) hub.timers.inactivity hub.timers.keepalive
    few-itself (reactions.Abort reason) core = none-few
    few-itself reactions.Subscribe core = none-few
    few-itself reactions.Unsubscribe core = none-few
    few-itself reactions.Reconfirm core = none-few
    few-itself reactions.Update core = none-few
    few-itself reactions.Query core = none-few
    few-itself reactions.NotImplemented core = header-few (id_of message) (0x8000 + bit_and (flags_of message) 0x7900 + notimp)

    -- ---- each reaction

    few-shown : (core : Core) (o : Option (ℕ × Key)) → IsFew (by_shown hub core o)
    few-shown core None = none-few
    few-shown core (Some found) =
        let entry = entries.Reconfirm found.0 found.1 in
        few-cond (accepts (state_now hub) entry && can_enter hub) enters (goes_on (silent core)) tt none-few

    few-record : (core : Core) (o : Option Rr) → IsFew (by_record hub core o)
    few-record core None = tt
    few-record core (Some rr) = few-shown core (reconfirm_key (state_now hub) rr)

    few-verdict : (core : Core) (r : Result Update ℕ) → IsFew (by_verdict hub message core r)
    few-verdict core (Err code) = few-updated code core
    few-verdict core (Ok u) = few-cond (can_enter hub) enters (left_as (answers_with hub (answer_to_update (id_of message) servfail) (silent core))) tt (few-updated servfail core)

    few-reacting : (r : Reaction) (core : Core) → IsFew (left_as (reacting hub r message (silent core)))
    few-reacting r core = few-left (reacting hub r message (silent core)) (few-itself r core)

    few-reaction : (r : Reaction) (core : Core) → IsFew (turned_by hub r message core)
    few-reaction reactions.Subscribe core = few-left (subscribing hub message (silent core)) (few-answered core)
    few-reaction reactions.Reconfirm core = few-record core (reconfirm_of (primary_data message))
    few-reaction reactions.Update core = few-verdict core (verdict (state_now hub) message)
    few-reaction reactions.Query core = few-left (replying hub message (silent core)) (few-replied core)
    few-reaction (reactions.Answer rcode) core = few-reacting (reactions.Answer rcode) core
    few-reaction reactions.Grant core = few-reacting reactions.Grant core
    few-reaction (reactions.Abort reason) core = few-reacting (reactions.Abort reason) core
    few-reaction reactions.Unsubscribe core = few-reacting reactions.Unsubscribe core
    few-reaction reactions.NotImplemented core = few-reacting reactions.NotImplemented core

    few-head : (core : Core) (o : Option DsoHead) → IsFew (by_head hub message core o)
    few-head core None = tt
    few-head core (Some head) = few-reaction (server_reaction head core.established) (listening hub message core)

pub writes-few : WritesFew
writes-few hub message core b = few-head hub message b core (head_of message)
