-- What a session makes of a SUBSCRIBE, and what it is told of changes (RFC 8765, 6.2 and 6.3).
--     Tells      what is to be told: after the answer to a SUBSCRIBE, and of the names that wait
--     may_be_served      whether a question is one that the server may answer
--     Verdict, verdict_on      the tests of a SUBSCRIBE in their order
--     with_accepted, decided, answered      NOERROR and the first answer; what each verdict does; a SUBSCRIBE is answered
--     packs      one PUSH of the names that fit
use Rattle.std.specs.Prelude.{ℕ, Bool, false, not, ◌&&◌, ◌||◌, ◌==◌, List, [], ◌∷◌, ◌++◌, length, Option, Some, None, nat_le, if◌then◌else◌}
use Rattle.push_base.specs.Cases.{is_empty}
use Rattle.push_base.specs.Limits.{max_questions}
use Rattle.rrset.specs.Kinds.{in_class, any_class}
use Rattle.rrset.specs.Rcodes.{noerror, formerr, notauth, refused}
use Rattle.rrset.specs.declared.record.Question.{Question}
use Rattle.dsotlv.specs.Messages.{frame}
use Rattle.dsotlv.specs.Answers.{answer_to, refusal_to, push_message}
use Rattle.dsotlv.specs.declared.message.Notice.{Notice}
use Rattle.coalesce.specs.Net.{push_frame}
use Rattle.dsosession.specs.declared.session.EndReason.{EndReason}
use Rattle.dsosession.specs.declared.session.EndReason.TheVariants as ends
use Rattle.pushsession.specs.Sessions.{SessionOf, Keeps, establishes, with_frame, answers, ended_with}

-- the notices that follow the answer to a question, where these questions were asked and these names wait;
-- the notices of one PUSH, and the names that still wait behind it
pub record Tells (Asked Queue : Type 0) : Type 0 where
  pub first_notices : Question → Asked → Queue → List Notice
  pub packed : Asked → Queue → List Notice × Queue

-- a PUSH where there are notices; `push_frame` gives its octets alone, since their number is kept before they are written
abbrev pub says_notices : {A Q M : Type 0} → Keeps A Q M → ℕ → List Notice → SessionOf A Q M → SessionOf A Q M
says_notices keeps now [] session = session
says_notices keeps now (n ∷ ns) session = answers keeps false now (push_message (n ∷ ns)) session

-- one PUSH of the names that fit; names without a net leave unsent; how much fits is this project's own (RFC 8765, 6.3)
abbrev pub with_next_push : {A Q M : Type 0} → Keeps A Q M → Tells A Q → ℕ → SessionOf A Q M → SessionOf A Q M
with_next_push keeps tells now session =
    let pack = tells.packed session.subscriptions session.queue in
    says_notices keeps now pack.0 (record session { queue = pack.1 })

-- ---- SUBSCRIBE

-- refused with an RCODE and a Retry Delay; a fatal error (RFC 8490, 5.1); accepted
pub data Verdict : Type 0 where
  Refuse : (rcode : ℕ) → Verdict
  Abort : (reason : EndReason) → Verdict
  Accept : (question : Question) → Verdict

abbrev pub is_served : ℕ → Bool
is_served class = class == in_class || class == any_class

-- its class is served, and its name has a home
abbrev pub may_be_served : Question → Bool → Bool
may_be_served question has_home = is_served question.class && has_home

-- the tests of a SUBSCRIBE with this ID in their order (RFC 8765, 6.2); without a question its data is malformed
abbrev pub verdict_on : {A Q M : Type 0} → Keeps A Q M → ℕ → Option Question → Bool → A → Verdict
verdict_on keeps id None has_home subscriptions = Refuse formerr
verdict_on keeps id (Some question) has_home subscriptions =
    if keeps.has_id id subscriptions then Abort (ends.IdInUse id)
    else elim (keeps.id_of question subscriptions) [
      | Some active ↦ Abort (ends.Twice active)
      | None ↦
          if not (may_be_served question has_home) then Refuse notauth
          else if nat_le max_questions (keeps.count subscriptions) then Refuse refused
          else Accept question
    ]

-- one more question; its name waits no longer, and the session is established (RFC 8490, 5.1)
abbrev pub subscribed : {A Q M : Type 0} → Keeps A Q M → ℕ → Question → ℕ → SessionOf A Q M → SessionOf A Q M
subscribed keeps id question end session = establishes (record session {
  subscriptions = keeps.with_question id question end session.subscriptions;
  queue = keeps.without_name question.name session.queue;
})

-- the answer, and a PUSH where there are notices; an answer alone is made while the names wait that do so behind it, one that a PUSH follows while those wait that did so before
abbrev pub says_first_answer : {A Q M : Type 0} → Keeps A Q M → ℕ → List ℕ → List Notice → Q → SessionOf A Q M → SessionOf A Q M
says_first_answer keeps now answer notices before session = says_notices keeps now notices (with_frame keeps false now answer (if is_empty notices then session.queue else before) session)

-- the octets of both: the answer's frame, and behind it the PUSH, only where there are notices
abbrev pub first_answer_octets : List ℕ → List Notice → List ℕ
first_answer_octets answer notices = frame answer ++ push_frame notices

abbrev pub first_answer_size : List ℕ → List Notice → ℕ
first_answer_size answer notices = length (first_answer_octets answer notices)

-- NOERROR, and the PUSH that follows it (RFC 8765, 6.2.2 and 6.3); the first answer ends behind all that was written before
abbrev pub with_accepted : {A Q M : Type 0} → Keeps A Q M → Tells A Q → ℕ → ℕ → Question → SessionOf A Q M → SessionOf A Q M
with_accepted keeps tells now id question session =
    let notices = tells.first_notices question session.subscriptions session.queue in
    let answer = answer_to id noerror in
    says_first_answer keeps now answer notices session.queue (subscribed keeps id question (keeps.end_behind (first_answer_size answer notices) session.made) session)

abbrev pub decided : {A Q M : Type 0} → Keeps A Q M → Tells A Q → ℕ → ℕ → Verdict → SessionOf A Q M → SessionOf A Q M
decided keeps tells now id (Refuse rcode) session = answers keeps false now (refusal_to id rcode) session
decided keeps tells now id (Abort reason) session = ended_with keeps reason session
decided keeps tells now id (Accept question) session = with_accepted keeps tells now id question session

-- a SUBSCRIBE with this ID and question is answered, whose name has a home of the server or not
abbrev pub answered : {A Q M : Type 0} → Keeps A Q M → Tells A Q → ℕ → ℕ → Option Question → Bool → SessionOf A Q M → SessionOf A Q M
answered keeps tells now id question has_home session = decided keeps tells now id (verdict_on keeps id question has_home session.subscriptions) session
