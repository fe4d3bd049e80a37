-- The answer to a SUBSCRIBE on a new session, and behind NOERROR the PUSH of what the question asks for.
use Rattle.std.proofs.Common.{◌≡◌, ℕ, ap₂, Bool, true, false, not, List, [], ◌∷◌, ap, refl}
use Rattle.rrset.specs.RecordSet.{RecordSet, at_name, matching, same_rows}
use Rattle.rrset.specs.declared.record.Question.{Question}
use Rattle.rrset.specs.Rcodes.{noerror}
use Rattle.dsotlv.specs.declared.message.Notice.{Notice}
use Rattle.coalesce.specs.FirstAnswers.{told_first}
use Rattle.coalesce.specs.Net.{additions}
use Rattle.dsosession.specs.Timing.{Clocks}
use Rattle.history.specs.States.{State, records}
use Rattle.pushsession.specs.declared.session_status.SessionStatus.TheVariants.{Live}
use Rattle.pushserver.specs.PlainHubs.{Session, Subscription, Made, wanted, Hub, first_answer, asks_for}
use Rattle.pushserver.specs.Hubs.{state_now, now, keeps_now, records_now}
use Rattle.pushsession.specs.Reactions.{restarted_by}
use Rattle.pushsession.specs.Subscribing.{first_answer_size, says_first_answer, subscribed}
use Rattle.dsotlv.specs.Answers.{answer_to}
use Rattle.pushsession.specs.Sessions.{new_session}
use Rattle.replay.proofs.serving.LastSession.{hub_at}

-- a live session that waits for nothing
abbrev pub said : List Subscription → Clocks → Bool → List Made → List ℕ → Session
said subscriptions clocks established made output =
    record { subscriptions = subscriptions; queue = []; clocks = clocks; established = established; standing = Live; input = []; output = output; made = made }

-- the session with this to write
abbrev pub saying : Session → List ℕ → Session
saying s output = said s.subscriptions s.clocks s.established s.made output

-- a new session, but for its clocks
abbrev pub begun : Clocks → Session
begun clocks = said [] clocks false [] []

-- the additions of the records that the question asks for
abbrev pub notices_for : State → Question → List Notice
notices_for state question = additions (matching question (at_name question.name (records state)))

-- without subscriptions nothing is wanted
pub wanted-none : (set : RecordSet) → wanted [] set ≡ []
wanted-none [] = refl
wanted-none (e ∷ es) = wanted-none es

pub up_to_date : (old new : RecordSet) → same_rows (wanted [] old) (wanted [] new) ≡ true
up_to_date old new = ap₂ (λ x y. same_rows x y) (wanted-none old) (wanted-none new)

module _ (hub : Hub) where
  -- a session that has taken octets and nothing else
  abbrev pub waiting : List ℕ → Session
  waiting input = record (new_session (keeps_now hub) (now hub)) { input = input }

  -- a new session's clocks behind a message that is reacted to
  abbrev pub clocks_at : List ℕ → Clocks
  clocks_at message = (restarted_by message (now hub) (new_session (keeps_now hub) (now hub))).clocks

  pub first_answer-additions : (clocks : Clocks) (question : Question) → first_answer (hub_at hub (begun clocks)) (begun clocks) question ≡ notices_for (state_now hub) question
  first_answer-additions clocks question =
      let there = at_name question.name (records_now hub) in
      ap (λ b. told_first (not b) question (asks_for []) there) (up_to_date there there)

  -- the session behind a first answer
  abbrev pub filled : Clocks → ℕ → Question → List Notice → Session
  filled clocks id question notices =
      let answer = answer_to id noerror in
      says_first_answer (keeps_now hub) (now hub) answer notices [] (subscribed (keeps_now hub) id question ((keeps_now hub).end_behind (first_answer_size answer notices) []) (begun clocks))
