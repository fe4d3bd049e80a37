-- What a call does to a session, apart from the octets that come in, leaves its input as it was.
--     step-input      the law
use Rattle.std.proofs.Common.{◌≡◌, ℕ, Bool, true, false, cond, List, [], ◌∷◌, Option, Some, None, refl}
use Rattle.rrset.specs.Header.{id_of}
use Rattle.rrset.specs.Rcodes.{noerror}
use Rattle.dsotlv.specs.Answers.{answer_to}
use Rattle.dsotlv.specs.Messages.{head_of, primary_data}
use Rattle.dsotlv.specs.Notices.{question_of}
use Rattle.dsotlv.specs.declared.message.DsoHead.{DsoHead}
use Rattle.dsotlv.specs.declared.message.Notice.{Notice}
use Rattle.dsosession.specs.Reactions.{server_reaction}
use Rattle.dsosession.specs.declared.session.EndReason.TheVariants as ends
use Rattle.dsosession.specs.declared.session.Reaction.{Reaction}
use Rattle.dsosession.specs.declared.session.Reaction.TheVariants as reactions
use Rattle.dsosession.specs.declared.session.Timers.{Timers}
use Rattle.pushsession.specs.Sessions.{SessionOf, Keeps, ended_with, says_stop}
use Rattle.pushsession.specs.Subscribing.{Tells, Verdict, Refuse, Abort, Accept, verdict_on, subscribed, first_answer_size, says_first_answer, says_notices, decided}
use Rattle.pushsession.specs.Reactions.{reacts_itself, by_itself}
use Rattle.pushserver.specs.Hubs.{SessionKind, HubOf, now, keeps_now, tells_now}
use Rattle.pushserver.specs.Giving.{has_home}
use Rattle.pushserver.proofs.hub_steps.Cases.{itself_as}
use Rattle.pushserver.proofs.Walks.{Step, restarts, reacts, answers_subscribe, answers_update, answers_query, packs_names, comes_to_stop, ends_with, copies_front}

module _ {A Q M : Type 0} (keeps : Keeps A Q M) where
  itself-input : (reaction : Reaction) (timers : Timers) (t : ℕ) (message : List ℕ) (s : SessionOf A Q M) → (by_itself keeps reaction timers t message s).input ≡ s.input
  itself-input (reactions.Answer rcode) timers t message s = refl
  itself-input reactions.Grant timers t message s = refl
  itself-input (reactions.Abort reason) timers t message s = refl
  itself-input reactions.Subscribe timers t message s = refl
  itself-input reactions.Unsubscribe timers t message s = refl
  itself-input reactions.Reconfirm timers t message s = refl
  itself-input reactions.Update timers t message s = refl
  itself-input reactions.Query timers t message s = refl
  itself-input reactions.NotImplemented timers t message s = refl

  reacts-input : (timers : Timers) (t : ℕ) (message : List ℕ) (s : SessionOf A Q M) → (reacts_itself keeps timers t message s).input ≡ s.input
  reacts-input timers t message s = by (head_of message)
    where
      by : (o : Option DsoHead) → (itself_as keeps timers t message s o).input ≡ s.input
      by None = refl
      by (Some head) = itself-input (server_reaction head s.established) timers t message s

  first_answer-input : (t : ℕ) (answer : List ℕ) (notices : List Notice) (before : Q) (s : SessionOf A Q M) → (says_first_answer keeps t answer notices before s).input ≡ s.input
  first_answer-input t answer [] before s = refl
  first_answer-input t answer (n ∷ ns) before s = refl

  notices-input : (t : ℕ) (notices : List Notice) (s : SessionOf A Q M) → (says_notices keeps t notices s).input ≡ s.input
  notices-input t [] s = refl
  notices-input t (n ∷ ns) s = refl

  decided-input : (tells : Tells A Q) (t id : ℕ) (verdict : Verdict) (s : SessionOf A Q M) → (decided keeps tells t id verdict s).input ≡ s.input
  decided-input tells t id (Refuse rcode) s = refl
  decided-input tells t id (Abort reason) s = refl
  decided-input tells t id (Accept question) s =
      let notices = tells.first_notices question s.subscriptions s.queue in
      let answer = answer_to id noerror in
      first_answer-input t answer notices s.queue (subscribed keeps id question (keeps.end_behind (first_answer_size answer notices) s.made) s)

pub step-input : {A Q M S : Type 0} {kind : SessionKind A Q M S} {Good : List ℕ → Type 0} {hub : HubOf kind} (f : SessionOf A Q M → SessionOf A Q M) → Step Good hub f → (s : SessionOf A Q M) → (f s).input ≡ s.input
step-input f (restarts message) s = refl
step-input {hub = hub} f (reacts message) s = reacts-input (keeps_now hub) hub.timers (now hub) message s
step-input {hub = hub} f (answers_subscribe message good) s =
    let question = question_of (primary_data message) in
    decided-input (keeps_now hub) (tells_now hub) (now hub) (id_of message) (verdict_on (keeps_now hub) (id_of message) question (has_home hub question) s.subscriptions) s
step-input f (answers_update before message) s = refl
step-input f (answers_query message good) s = refl
step-input {hub = hub} f packs_names s = (let pack = (tells_now hub).packed s.subscriptions s.queue in notices-input (keeps_now hub) (now hub) pack.0 (record s { queue = pack.1 }))
step-input {hub = hub} f (comes_to_stop rcode delay) s = by s.established
  where
    by : (b : Bool) → (cond b (says_stop (keeps_now hub) rcode delay (now hub) s) (ended_with (keeps_now hub) ends.Stopped s)).input ≡ s.input
    by true = refl
    by false = refl
step-input f (ends_with reason) s = refl
step-input f (copies_front room) s = refl
