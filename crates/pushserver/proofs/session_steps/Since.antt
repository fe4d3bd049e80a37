-- What waits for a kept session since a point, or later, does so still after each rule.
--     Since point queue      all that waits does
--     KeepsSince f      a rule leaves it so
use Rattle.std.proofs.Common.{ℕ, ◌-◌, ◌≤◌, Bool, true, false, cond, List, [], ◌∷◌, length, Option, Some, None}
use Rattle.std.specs.List.{AllByRecursion}
use Rattle.dnsname.specs.Names.{Labels}
use Rattle.rrset.proofs.Places.{all_filter}
use Rattle.rrset.specs.RecordSet.{RecordSet}
use Rattle.rrset.specs.declared.record.Question.{Question}
use Rattle.dsotlv.specs.Answers.{answer_to}
use Rattle.std.specs.Int.{w16, from_be_bytes}
use Rattle.dsotlv.specs.Messages.{head_of, primary_data}
use Rattle.dsotlv.specs.declared.message.DsoHead.{DsoHead}
use Rattle.dsotlv.specs.declared.message.Notice.{Notice}
use Rattle.dsosession.specs.Reactions.{server_reaction}
use Rattle.dsosession.specs.declared.session.EndReason.{EndReason}
use Rattle.dsosession.specs.declared.session.EndReason.TheVariants as ends
use Rattle.dsosession.specs.declared.session.Reaction.{Reaction}
use Rattle.dsosession.specs.declared.session.Reaction.TheVariants.{Answer, Grant, Abort, Subscribe, Unsubscribe, Reconfirm, Update, Query, NotImplemented}
use Rattle.dsosession.specs.declared.session.Timers.{Timers}
use Rattle.rrset.specs.Rcodes.{noerror}
use Rattle.coalesce.specs.FirstAnswers.{first_notices}
use Rattle.coalesce.specs.Waiting.{WaitingName, is_named, packed_of, left_in, without_name}
use Rattle.pushsession.specs.Kept.{KeptSession, KeptQuestions, keeping, telling}
use Rattle.pushsession.specs.Sessions.{is_open, asked_to_stop, ended_where, ended_with, says_stop, stopped}
use Rattle.pushsession.specs.Subscribing as subscribing
use Rattle.pushsession.specs.Subscribing.{Verdict, answered, decided, says_notices, says_first_answer, subscribed, verdict_on, with_next_push}
use Rattle.pushsession.specs.Reactions.{by_itself, let_go, reacts_itself}
use Rattle.pushserver.proofs.session_steps.Lists.{each-drop}
use Rattle.pushserver.proofs.hub_steps.Cases.{itself_as}
use Rattle.pushsession.specs.declared.session_status.SessionStatus.TheVariants.{AskedToStop}
use Rattle.std.specs.Prelude.{find}

abbrev pub Since : ℕ → List WaitingName → Type 0
Since point queue = AllByRecursion (λ (w : WaitingName). point ≤ w.point) queue

abbrev pub KeepsSince : (KeptSession → KeptSession) → Type 0
KeepsSince f = (point : ℕ) (session : KeptSession) → Since point session.queue → Since point (f session).queue

pub leaves-since : (point : ℕ) (name : Labels) (queue : List WaitingName) → Since point queue → Since point (without_name name queue)
leaves-since point name queue since = all_filter (λ (w : WaitingName). point ≤ w.point) _ queue since

pub asked_to_stop-since : (rcode delay : ℕ) → KeepsSince (asked_to_stop rcode delay)
asked_to_stop-since rcode delay point session since = by (is_open session.standing)
  where
    by : (b : Bool) → Since point (cond b (record session { standing = AskedToStop rcode delay }) session).queue
    by true = since
    by false = since

-- a session that ends for some reason, or goes on
pub ended_where-since : (reason : KeptSession → Option EndReason) → KeepsSince (λ session. ended_where keeping (reason session) session)
ended_where-since reason point session since = by (reason session)
  where
    by : (o : Option EndReason) → Since point (ended_where keeping o session).queue
    by None = since
    by (Some why) = tt

pub stopped-since : (rcode delay now : ℕ) → KeepsSince (stopped keeping rcode delay now)
stopped-since rcode delay now point session since = by session.established
  where
    by : (b : Bool) → Since point (cond b (says_stop keeping rcode delay now session) (ended_with keeping ends.Stopped session)).queue
    by true = tt
    by false = tt

-- ---- what a session does by itself

let_go-since : (point : ℕ) (question : Option Question) (left : KeptQuestions) (queue : List WaitingName) → Since point queue → Since point (let_go keeping question left queue)
let_go-since point None left queue since = since
let_go-since point (Some question) left queue since = by (keeping.watches question.name left)
  where
    by : (b : Bool) → Since point (cond b queue (without_name question.name queue))
    by true = since
    by false = leaves-since point question.name queue since

by_itself-since : (reaction : Reaction) (timers : Timers) (now : ℕ) (message : List ℕ) → KeepsSince (by_itself keeping reaction timers now message)
by_itself-since (Answer rcode) timers now message point session since = since
by_itself-since Grant timers now message point session since = since
by_itself-since (Abort reason) timers now message point session since = tt
by_itself-since Unsubscribe timers now message point session since = let id = from_be_bytes w16 (primary_data message) in let_go-since point (keeping.question_of id session.subscriptions) (keeping.without_id id session.subscriptions) session.queue since
by_itself-since NotImplemented timers now message point session since = since
by_itself-since Subscribe timers now message point session since = since
by_itself-since Reconfirm timers now message point session since = since
by_itself-since Update timers now message point session since = since
by_itself-since Query timers now message point session since = since

pub itself-since : (timers : Timers) (now : ℕ) (message : List ℕ) → KeepsSince (reacts_itself keeping timers now message)
itself-since timers now message point session since = by (head_of message)
  where
    by : (o : Option DsoHead) → Since point (itself_as keeping timers now message session o).queue
    by None = tt
    by (Some head) = by_itself-since (server_reaction head session.established) timers now message point session since

-- ---- notices

says-since : (now : ℕ) (notices : List Notice) → KeepsSince (says_notices keeping now notices)
says-since now [] point session since = since
says-since now (n ∷ ns) point session since = since

pub with_next_push-since : (rows : RecordSet) (now : ℕ) → KeepsSince (with_next_push keeping (telling rows) now)
with_next_push-since rows now point session since =
    says-since now (packed_of session.subscriptions.asked rows session.queue).0 point (record session { queue = left_in session.subscriptions.asked rows session.queue })
    (each-drop (λ (w : WaitingName). point ≤ w.point) (length session.queue - length (packed_of session.subscriptions.asked rows session.queue).1) session.queue since)

-- ---- a SUBSCRIBE

first-since : (now : ℕ) (answer : List ℕ) (notices : List Notice) (before : List WaitingName) → KeepsSince (says_first_answer keeping now answer notices before)
first-since now answer [] before point session since = since
first-since now answer (n ∷ ns) before point session since = since

pub answered-since : (rows : RecordSet) (now id : ℕ) (question : Option Question) (has_home : Bool) → KeepsSince (answered keeping (telling rows) now id question has_home)
answered-since rows now id question has_home point session since = by (verdict_on keeping id question has_home session.subscriptions)
  where
    by : (v : Verdict) → Since point (decided keeping (telling rows) now id v session).queue
    by (subscribing.Refuse rcode) = since
    by (subscribing.Abort reason) = tt
    by (subscribing.Accept q) =
        let notices = first_notices q session.subscriptions.asked rows (find (is_named q.name) session.queue) in
        first-since now (answer_to id noerror) notices session.queue point (subscribed keeping id q (keeping.end_behind (subscribing.first_answer_size (answer_to id noerror) notices) session.made) session)
        (leaves-since point q.name session.queue since)
