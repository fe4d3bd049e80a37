-- What a SUBSCRIBE that none of the tests refuses makes of the newest session of a hub: NOERROR and the first answer's PUSH are what it has to write.
--     Says hub later output      the newest session has just this to write
--     accepted-Says      a first answer
--     IsAnswered hub below message reply      what a message is answered
use Rattle.std.proofs.Common.{◌≡◌, ℕ, List, [], ◌∷◌, ◌++◌, sym, ◌∙◌, ap, subst, refl}
use Rattle.rrset.specs.Rcodes.{noerror}
use Rattle.rrset.specs.declared.record.Question.{Question}
use Rattle.dsotlv.specs.Messages.{frame}
use Rattle.dsotlv.specs.declared.message.Notice.{Notice}
use Rattle.coalesce.specs.Net.{push_frame}
use Rattle.dsosession.specs.Timing.{Clocks}
use Rattle.pushserver.specs.PlainHubs.{Session, Hub}
use Rattle.pushserver.specs.Hubs.{state_now, now, keeps_now, tells_now, in_session}
use Rattle.pushsession.specs.Subscribing.{with_accepted}
use Rattle.dsotlv.specs.Answers.{answer_to}
use Rattle.pushserver.specs.Giving.{reacted}
use Rattle.pushserver.proofs.Walks.{with_new}
use Rattle.replay.proofs.serving.LastSession.{IsBehind, hub_at, in_session-last}
use Rattle.replay.proofs.serving.Answering.{notices_for, saying, begun, first_answer-additions, filled}

-- the hub's newest session has just this to write
pub record Says (hub later : Hub) (output : List ℕ) : Type 0 where
  pub session : Session
  pub is : later ≡ hub_at hub (saying session output)

-- NOERROR, and the PUSH of the notices
abbrev pub with_push : ℕ → List Notice → List ℕ
with_push id notices = frame (answer_to id noerror) ++ push_frame notices

module _ (hub : Hub) (below : IsBehind hub) where
  module _ (clocks : Clocks) (id : ℕ) (question : Question) where
    abbrev pub filled_with : List Notice → Session
    filled_with notices = filled hub clocks id question notices

    pub filled-Says : (notices : List Notice) → Says hub (hub_at hub (filled_with notices)) (with_push id notices)
    filled-Says [] = record { session = filled_with []; is = refl }
    filled-Says (m ∷ ms) = record { session = filled_with (m ∷ ms); is = refl }

    abbrev pub accepted : Hub
    accepted = in_session hub.numbers_given (with_accepted (keeps_now hub) (tells_now hub) (now hub) id question) (hub_at hub (begun clocks))

    pub accepted-Says : Says hub accepted (with_push id (notices_for (state_now hub) question))
    accepted-Says =
        let notices = notices_for (state_now hub) question in
        let is : accepted ≡ hub_at hub (filled_with notices) =
        in_session-last hub below (with_accepted (keeps_now hub) (tells_now hub) (now hub) id question) (begun clocks)
        ∙ ap (λ ns. hub_at hub (filled_with ns)) (first_answer-additions hub clocks question) in
        subst (λ later. Says hub later (with_push id notices)) (sym is) (filled-Says notices)

  -- what a message is answered
  abbrev pub IsAnswered : List ℕ → List ℕ → Type 0
  IsAnswered message reply = Says hub (reacted message hub.numbers_given (with_new hub)) reply
