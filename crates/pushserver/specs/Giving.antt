-- What `give` does: the first case that applies, and the reaction to one message (RFC 8490, 5; RFC 8765, 6).
--     give hub number room      the octets copied, what was done, and the hub after it
--     reconfirm hub rr      the hub after a record was reconfirmed
--     known_at state      what replies to queries are made of
--     reacted message number hub      the hub after a session has reacted to a message
use Rattle.std.specs.Prelude.{ℕ, Bool, true, false, ◌&&◌, List, [], length, take, Option, Some, None, is_some, min, if◌then◌else◌}
use Rattle.push_base.specs.Cases.{is_empty}
use Rattle.rrset.specs.declared.record.Question.{Question}
use Rattle.rrset.specs.declared.record.Rr.{Rr}
use Rattle.dnsquery.specs.Replies.{Known, reply_to}
use Rattle.dsotlv.specs.Messages.{first_message}
use Rattle.dsosession.specs.declared.session.EndReason.TheVariants as ends
use Rattle.history.specs.States.{State, home_of, reconfirm_key, records, accepts}
use Rattle.history.specs.declared.entry.Entry.TheVariants as entries
use Rattle.pushsession.specs.declared.request.Request.{Request}
use Rattle.pushsession.specs.declared.request.Request.TheVariants as requests
use Rattle.pushsession.specs.declared.session_status.SessionStatus.{SessionStatus}
use Rattle.pushsession.specs.declared.session_status.SessionStatus.TheVariants.{Live, AskedToStop, Stopped, Ended}
use Rattle.pushsession.specs.Sessions.{SessionOf, copied, stopped, without_first}
use Rattle.pushsession.specs.Subscribing.{may_be_served, with_next_push}
use Rattle.pushsession.specs.Reactions.{restarted_by, request_in, reacts_itself, answers_subscribe, takes_reconfirm, answers_update, answers_query}
use Rattle.pushserver.specs.declared.given.Given.{Given}
use Rattle.pushserver.specs.declared.given.Given.TheVariants.{Bytes, Worked, Nothing, Ending, End}
use Rattle.pushserver.specs.Hubs.{SessionKind, HubOf, now, state_now, keeps_now, tells_now, session_of, in_session, entered_keeping, can_enter, update}

-- ---- the reaction to a message

-- the name of a question has a home in a state
abbrev pub has_home_at : State → Question → Bool
has_home_at state question = is_some (home_of state question.name)

-- the same in a hub, where there is a question
abbrev pub has_home : {A Q M S : Type 0} {kind : SessionKind A Q M S} → HubOf kind → Option Question → Bool
has_home hub None = false
has_home hub (Some question) = has_home_at (state_now hub) question

-- a question that may be served in a state
abbrev pub is_served_at : State → Question → Bool
is_served_at state question = may_be_served question (has_home_at state question)

abbrev pub subscribes : {A Q M S : Type 0} {kind : SessionKind A Q M S} → Option Question → ℕ → List ℕ → HubOf kind → HubOf kind
subscribes question number message hub = in_session number (answers_subscribe (keeps_now hub) (tells_now hub) (now hub) message question (has_home hub question)) hub

-- a record that a link shows is reconfirmed, save at the last point; any other is ignored (RFC 8765, 6.5)
abbrev pub reconfirm : {A Q M S : Type 0} {kind : SessionKind A Q M S} → HubOf kind → Rr → HubOf kind
reconfirm hub rr = elim (reconfirm_key (state_now hub) rr) [
  | None ↦ hub
  | Some found ↦ (let entry = entries.Reconfirm found.0 found.1 in if accepts (state_now hub) entry && can_enter hub then entered_keeping entry hub else hub)
]

-- data that is no record ends the session
abbrev pub reconfirms : {A Q M S : Type 0} {kind : SessionKind A Q M S} → Option Rr → ℕ → HubOf kind → HubOf kind
reconfirms None number hub = in_session number (takes_reconfirm (keeps_now hub) false) hub
reconfirms (Some rr) number hub = reconfirm hub rr

-- an update is judged, and the answer has its RCODE (RFC 2136, 3.8); it is written after the entry
abbrev pub updates : {A Q M S : Type 0} {kind : SessionKind A Q M S} → ℕ → List ℕ → HubOf kind → HubOf kind
updates number message hub =
    let judged = update hub message in
    in_session number (answers_update (keeps_now judged.1) (now judged.1) message judged.0) judged.1

-- what replies to queries are made of: the names that have a home, and all records
abbrev pub known_at : State → Known
known_at state = record { has_home = λ name. is_some (home_of state name); records = records state }

-- a query is answered with its reply at the newest point (RFC 1034, 4.3.2)
abbrev pub queries : {A Q M S : Type 0} {kind : SessionKind A Q M S} → ℕ → List ℕ → HubOf kind → HubOf kind
queries number message hub = in_session number (answers_query (keeps_now hub) (now hub) (reply_to (known_at (state_now hub)) message)) hub

-- by what is needed for the message; a further kind of request changes the calls of a kept session, too
abbrev pub by_request : {A Q M S : Type 0} {kind : SessionKind A Q M S} → Request → ℕ → List ℕ → HubOf kind → HubOf kind
by_request (requests.Subscribe question) number message hub = subscribes question number message hub
by_request (requests.Reconfirm rr) number message hub = reconfirms rr number hub
by_request requests.Update number message hub = updates number message hub
by_request requests.Query number message hub = queries number message hub
by_request requests.Itself number message hub = in_session number (reacts_itself (keeps_now hub) hub.timers (now hub) message) hub

-- a message that is reacted to restarts the timers, and then its line applies
abbrev pub reacted : {A Q M S : Type 0} {kind : SessionKind A Q M S} → List ℕ → ℕ → HubOf kind → HubOf kind
reacted message number hub = elim (session_of hub number) [
  | None ↦ hub
  | Some session ↦ by_request (request_in message session.established) number message (in_session number (restarted_by message (now hub)) hub)
]

-- ---- what one call of give did

pub record GivingOf {A Q M S : Type 0} (kind : SessionKind A Q M S) : Type 0 where
  pub octets : List ℕ
  pub given : Given
  pub hub : HubOf kind

abbrev pub did : {A Q M S : Type 0} {kind : SessionKind A Q M S} → Given → HubOf kind → GivingOf kind
did given hub = record { octets = []; given = given; hub = hub }

-- so many octets, where there is room for so many
abbrev pub bytes_of : {A Q M : Type 0} → ℕ → SessionOf A Q M → Given
bytes_of room session = Bytes (min room (length session.output))

-- that, or where no output waits, what else was done
abbrev pub given_of : {A Q M : Type 0} → Given → ℕ → SessionOf A Q M → Given
given_of otherwise room session = if is_empty session.output then otherwise else bytes_of room session

-- the longest front of the output that fits
abbrev pub copies : {A Q M S : Type 0} {kind : SessionKind A Q M S} → ℕ → ℕ → SessionOf A Q M → HubOf kind → GivingOf kind
copies number room session hub = record { octets = take room session.output; given = bytes_of room session; hub = in_session number (copied room) hub }

-- the octets that were written, or else what was done
abbrev pub copies_or : {A Q M S : Type 0} {kind : SessionKind A Q M S} → Given → ℕ → ℕ → SessionOf A Q M → HubOf kind → GivingOf kind
copies_or given number room session hub = if is_empty session.output then did given hub else copies number room session hub

-- what was done where the output is empty
abbrev pub given_after : SessionStatus → Given
given_after (Ended reason) = End reason
given_after _ = Worked

abbrev pub after_reaction : {A Q M S : Type 0} {kind : SessionKind A Q M S} → ℕ → ℕ → HubOf kind → GivingOf kind
after_reaction number room hub = elim (session_of hub number) [ None ↦ did Worked hub | Some session ↦ copies_or (given_after session.standing) number room session hub ]

abbrev pub after_packing : {A Q M S : Type 0} {kind : SessionKind A Q M S} → ℕ → ℕ → HubOf kind → GivingOf kind
after_packing number room hub = elim (session_of hub number) [ None ↦ did Nothing hub | Some session ↦ copies_or Nothing number room session hub ]

-- a live session without output: a whole message waits, or the queue packs a PUSH, or nothing is to be said
abbrev pub works : {A Q M S : Type 0} {kind : SessionKind A Q M S} → ℕ → ℕ → SessionOf A Q M → HubOf kind → GivingOf kind
works number room session hub = elim (first_message session.input) [
  | Some found ↦ after_reaction number room (reacted found.0 number (in_session number (without_first found.1) hub))
  | None ↦ after_packing number room (in_session number (with_next_push (keeps_now hub) (tells_now hub) (now hub)) hub)
]

abbrev pub by_standing : {A Q M S : Type 0} {kind : SessionKind A Q M S} → SessionStatus → ℕ → ℕ → SessionOf A Q M → HubOf kind → GivingOf kind
by_standing (Ended reason) number room session hub = did (End reason) hub
by_standing (AskedToStop rcode delay) number room session hub = after_reaction number room (in_session number (stopped (keeps_now hub) rcode delay (now hub)) hub)
by_standing (Stopped since) number room session hub = did Ending hub
by_standing Live number room session hub = works number room session hub

abbrev pub give : {A Q M S : Type 0} {kind : SessionKind A Q M S} → HubOf kind → ℕ → ℕ → GivingOf kind
give hub number room = elim (session_of hub number) [
  | None ↦ did (End ends.Gone) hub
  | Some session ↦ elim (is_empty session.output) [ false ↦ copies number room session hub | true ↦ by_standing session.standing number room session hub ]
]
