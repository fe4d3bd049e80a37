-- The first whole message of a session as it is kept, what it needs of the server for it, and what each call makes of it.
--     first_waiting, message_of, rest_of      the first whole message, if one waits; what is behind it
--     taken_up now      it leaves the input, and restarts the timers
--     request_of      what is needed for it
--     reacted, subscribed_by, updated, replied, reconfirmed      the first message is reacted to
--     CanBeTold      records as nets are made of
-- The server's `give` composes the same of any message and in both worlds, as its laws need it; the calls here are of a kept session alone, and read the
-- message in its input. A further kind of request changes both.
use Rattle.std.specs.Prelude.{ℕ, Bool, true, List, [], Option, Some, option_map, unwrap_or, IsTrue}
use Rattle.rrset.specs.RecordSet.{RecordSet, at_name}
use Rattle.rrset.specs.declared.record.Question.{Question}
use Rattle.dsotlv.specs.Messages.{first_message}
use Rattle.coalesce.specs.Laws.{can_be_sent}
use Rattle.coalesce.specs.Sides.{IsOneSide}
use Rattle.dsosession.specs.declared.session.Timers.{Timers}
use Rattle.pushsession.specs.Sessions.{SessionOf, without_first}
use Rattle.pushsession.specs.Reactions.{restarted_by, request_in, reacts_itself, answers_subscribe, takes_reconfirm, answers_update, answers_query}
use Rattle.pushsession.specs.Kept.{KeptSession, keeping, telling}
use Rattle.pushsession.specs.declared.request.Request.{Request}

-- ---- the first whole message

abbrev pub first_waiting : {A Q M : Type 0} → SessionOf A Q M → Option (List ℕ)
first_waiting session = option_map (λ found. found.0) (first_message session.input)

-- the first whole message, or nothing
abbrev pub message_of : KeptSession → List ℕ
message_of session = unwrap_or (first_waiting session) []

-- what is left behind the first whole message
abbrev pub rest_of : List ℕ → List ℕ
rest_of input = unwrap_or (option_map (λ found. found.1) (first_message input)) input

-- the first message leaves the input, and restarts the timers
abbrev pub taken_up : ℕ → KeptSession → KeptSession
taken_up now session = restarted_by (message_of session) now (without_first (rest_of session.input) session)

-- what is needed for it
abbrev pub request_of : {A Q M : Type 0} → SessionOf A Q M → Option Request
request_of session = option_map (λ message. request_in message session.established) (first_waiting session)

-- ---- what each call makes of it

-- to a message for which nothing is needed
abbrev pub reacted : Timers → ℕ → KeptSession → KeptSession
reacted timers now session = reacts_itself keeping timers now (message_of session) (taken_up now session)

-- to a SUBSCRIBE with this question, whose name has a home or not, where these are the records
abbrev pub subscribed_by : Option Question → Bool → RecordSet → ℕ → KeptSession → KeptSession
subscribed_by question has_home rows now session = answers_subscribe keeping (telling rows) now (message_of session) question has_home (taken_up now session)

-- the records that a question with a home would be told are such as nets are made of
abbrev pub CanBeTold : Option Question → Bool → RecordSet → Type 0
CanBeTold (Some question) true rows = IsOneSide (at_name question.name rows) × IsTrue (can_be_sent (at_name question.name rows))
CanBeTold _ _ rows = Unit {0}

-- to an update that got this RCODE
abbrev pub updated : ℕ → ℕ → KeptSession → KeptSession
updated rcode now session = answers_update keeping now (message_of session) rcode (taken_up now session)

-- to a query with this reply
abbrev pub replied : List ℕ → ℕ → KeptSession → KeptSession
replied reply now session = answers_query keeping now reply (taken_up now session)

-- to a RECONFIRM, whose data is a record or not
abbrev pub reconfirmed : Bool → ℕ → KeptSession → KeptSession
reconfirmed is_record now session = takes_reconfirm keeping is_record (taken_up now session)
