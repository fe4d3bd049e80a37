-- How a session reacts to a message (RFC 8490, 5; RFC 8765, 6).
--     restarted_by      a message restarts the timers
--     request_in, request_for      what is needed of the server for a message; for a reaction
--     IsRead, TakesMemory      whether something is read for it
--     granted, unsubscribed      a Keepalive is granted; an ID goes with its question
--     let_go      the last question of a name goes
--     reacts_itself, by_itself      a message for which nothing is needed; what each such reaction does
--     ends_short, answers_subscribe, takes_reconfirm, answers_update, answers_query      a message without a whole header; a SUBSCRIBE; a RECONFIRM; an update that was judged; a query with its reply
use Rattle.std.specs.Prelude.{ℕ, Bool, true, false, cond, List, Option, Some, None, if◌then◌else◌}
use Rattle.std.specs.Int.{w16, from_be_bytes}
use Rattle.rrset.specs.Header.{id_of}
use Rattle.rrset.specs.declared.record.Question.{Question}
use Rattle.dsotlv.specs.Messages.{head_of, primary_data}
use Rattle.dsotlv.specs.Notices.{question_of, reconfirm_of}
use Rattle.dsotlv.specs.Answers.{answer_to, answer_to_update, grant_to, not_implemented}
use Rattle.dsotlv.specs.TlvKinds.{reconfirm_tlv}
use Rattle.dsosession.specs.Reactions.{is_keepalive, server_reaction}
use Rattle.dsosession.specs.Timing.{restarted}
use Rattle.dsosession.specs.declared.session.EndReason.TheVariants as ends
use Rattle.dsosession.specs.declared.session.Timers.{Timers}
use Rattle.dsosession.specs.declared.session.Reaction.{Reaction}
use Rattle.dsosession.specs.declared.session.Reaction.TheVariants.{Answer, Grant, Abort, Subscribe, Unsubscribe, Reconfirm, Update, Query, NotImplemented}
use Rattle.pushsession.specs.declared.request.Request.{Request}
use Rattle.pushsession.specs.declared.request.Request.TheVariants as requests
use Rattle.pushsession.specs.Sessions.{SessionOf, Keeps, establishes, answers, ended_with}
use Rattle.pushsession.specs.Subscribing.{Tells, answered}

-- ---- the timers

-- a message with a whole header restarts the timers (RFC 8490, 6.3)
abbrev pub restarted_by : {A Q M : Type 0} → List ℕ → ℕ → SessionOf A Q M → SessionOf A Q M
restarted_by message now session = record session { clocks = elim (head_of message) [ None ↦ session.clocks | Some head ↦ restarted (is_keepalive head) now session.clocks ] }

-- ---- what is needed of the server

-- a question's home and records (RFC 8765, 6.2); the reconfirming of a record (RFC 8765, 6.5); the judging of an update (RFC 2136, 3); the reply to a query (RFC 1035, 4.1)
abbrev pub request_for : Reaction → List ℕ → Request
request_for Subscribe message = requests.Subscribe (question_of (primary_data message))
request_for Reconfirm message = requests.Reconfirm (reconfirm_of (primary_data message))
request_for Update message = requests.Update
request_for Query message = requests.Query
request_for (Answer rcode) message = requests.Itself
request_for Grant message = requests.Itself
request_for (Abort reason) message = requests.Itself
request_for Unsubscribe message = requests.Itself
request_for NotImplemented message = requests.Itself

-- for a message in a session that is established or not; nothing for one without a whole header
abbrev pub request_in : List ℕ → Bool → Request
request_in message established = elim (head_of message) [
  | None ↦ requests.Itself
  | Some head ↦ request_for (server_reaction head established) message
]

-- a question and a record are read from the message's data
abbrev pub IsRead : Option Request → Type 0
IsRead (Some (requests.Subscribe question)) = Unit {0}
IsRead (Some (requests.Reconfirm rr)) = Unit {0}
IsRead (Some requests.Itself) = ⊥
IsRead (Some requests.Update) = ⊥
IsRead (Some requests.Query) = ⊥
IsRead None = ⊥

-- memory is taken for these, for an update and for the reply to a query
abbrev pub TakesMemory : Option Request → Type 0
TakesMemory (Some requests.Update) = Unit {0}
TakesMemory (Some requests.Query) = Unit {0}
TakesMemory request = IsRead request

-- ---- what a session does by itself

-- the answer establishes the session, and the server's numbers hold from it on (RFC 8490, 5.1 and 7.1)
abbrev pub granted : {A Q M : Type 0} → Timers → SessionOf A Q M → SessionOf A Q M
granted timers session = establishes (record session { clocks = record session.clocks { timers = timers } })

-- the queue where a question goes, and these are left: its name waits no longer where none of them has it (this project's own)
abbrev pub let_go : {A Q M : Type 0} → Keeps A Q M → Option Question → A → Q → Q
let_go keeps None left queue = queue
let_go keeps (Some question) left queue = cond (keeps.watches question.name left) queue (keeps.without_name question.name queue)

-- an ID goes with its question; an unknown ID is ignored (RFC 8765, 6.4)
abbrev pub unsubscribed : {A Q M : Type 0} → Keeps A Q M → ℕ → SessionOf A Q M → SessionOf A Q M
unsubscribed keeps id session =
    let left = keeps.without_id id session.subscriptions in
    record session { subscriptions = left; queue = let_go keeps (keeps.question_of id session.subscriptions) left session.queue }

-- what needs the server changes nothing by itself
abbrev pub by_itself : {A Q M : Type 0} → Keeps A Q M → Reaction → Timers → ℕ → List ℕ → SessionOf A Q M → SessionOf A Q M
by_itself keeps (Answer rcode) timers now message session = answers keeps false now (answer_to (id_of message) rcode) session
by_itself keeps Grant timers now message session = granted timers (answers keeps true now (grant_to (id_of message) timers.inactivity timers.keepalive) session)
by_itself keeps (Abort reason) timers now message session = ended_with keeps reason session
by_itself keeps Unsubscribe timers now message session = unsubscribed keeps (from_be_bytes w16 (primary_data message)) session
by_itself keeps NotImplemented timers now message session = answers keeps false now (not_implemented message) session
by_itself keeps Subscribe timers now message session = session
by_itself keeps Reconfirm timers now message session = session
by_itself keeps Update timers now message session = session
by_itself keeps Query timers now message session = session

-- a message without a whole header ends the session (RFC 8490, 5.4)
abbrev pub ends_short : {A Q M : Type 0} → Keeps A Q M → SessionOf A Q M → SessionOf A Q M
ends_short keeps session = ended_with keeps ends.Short session

-- a message for which nothing is needed
abbrev pub reacts_itself : {A Q M : Type 0} → Keeps A Q M → Timers → ℕ → List ℕ → SessionOf A Q M → SessionOf A Q M
reacts_itself keeps timers now message session = elim (head_of message) [
  | None ↦ ends_short keeps session
  | Some head ↦ by_itself keeps (server_reaction head session.established) timers now message session
]

-- ---- what it does with what it got of the server

-- a SUBSCRIBE with this question, whose name has a home of the server or not, is answered with the message's ID (RFC 8765, 6.2)
abbrev pub answers_subscribe : {A Q M : Type 0} → Keeps A Q M → Tells A Q → ℕ → List ℕ → Option Question → Bool → SessionOf A Q M → SessionOf A Q M
answers_subscribe keeps tells now message question has_home session = answered keeps tells now (id_of message) question has_home session

-- a RECONFIRM whose data is no record ends the session (RFC 8765, 6.5)
abbrev pub takes_reconfirm : {A Q M : Type 0} → Keeps A Q M → Bool → SessionOf A Q M → SessionOf A Q M
takes_reconfirm keeps is_record session = if is_record then session else ended_with keeps (ends.BadData reconfirm_tlv) session

-- the answer to an update has its ID, and the RCODE that it got (RFC 2136, 3.8)
abbrev pub answers_update : {A Q M : Type 0} → Keeps A Q M → ℕ → List ℕ → ℕ → SessionOf A Q M → SessionOf A Q M
answers_update keeps now message rcode session = answers keeps false now (answer_to_update (id_of message) rcode) session

-- the reply to a query goes out as it is; it doesn't establish the session (RFC 1035, 4.1)
abbrev pub answers_query : {A Q M : Type 0} → Keeps A Q M → ℕ → List ℕ → SessionOf A Q M → SessionOf A Q M
answers_query keeps now reply session = answers keeps false now reply session
