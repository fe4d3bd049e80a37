-- What the calls of the server promise beyond their answers.
--     NothingWhereAllIsTold      when `give` has nothing to say
--     NothingMeansAllIsShown      what was shown by then
--     GiveChangesOneSession, OtherCallsKeepOutputs      what a call leaves as it was
--     SessionsStayWithin      how much waits for a session at most
--     SubscribeIsAnswered      what a SUBSCRIBE gets that none of the tests refuses
--     QueryIsAnswered      what a query gets, and what it leaves
--     MayWantMemory hub number      where memory may be wanted
use Rattle.std.specs.Prelude.{◌≡◌, ◌⊎◌, ℕ, ◌≤◌, length, List, [], ◌∷◌, ◌++◌, Some, None, option_map}
use Rattle.std.specs.List.{AllByRecursion}
use Rattle.push_base.specs.Limits.{max_input, max_questions}
use Rattle.rrset.specs.Header.{id_of}
use Rattle.rrset.specs.RecordSet.{at_name, matching}
use Rattle.rrset.specs.declared.record.Question.{Question}
use Rattle.rrset.specs.Rcodes.{noerror}
use Rattle.coalesce.specs.Sides.{frame_octets}
use Rattle.dnsquery.specs.Replies.{reply_to}
use Rattle.dsotlv.specs.Messages.{first_message, frame}
use Rattle.dsotlv.specs.Answers.{answer_to}
use Rattle.history.specs.declared.entry.Entry.{Entry}
use Rattle.pushserver.specs.declared.given.Given.TheVariants.{Nothing}
use Rattle.pushsession.specs.declared.session_status.SessionStatus.TheVariants.{Live}
use Rattle.pushsession.specs.Sessions.{SessionOf}
use Rattle.pushsession.specs.Reactions.{TakesMemory, request_in}
use Rattle.pushsession.specs.Requests.{request_of}
use Rattle.pushsession.specs.declared.request.Request.TheVariants as requests
use Rattle.pushsession.specs.Subscribing.{Accept, first_answer_octets, verdict_on}
use Rattle.pushserver.specs.PlainHubs.{Hub, Session, Made, sent, first_answer, wanted}
use Rattle.pushserver.specs.Hubs.{SessionKind, HubOf, keeps_now, records_now, state_now, session_of, entered_keeping, update, hear, link_gone, moment, connect, take_octets, stop, disconnect}
use Rattle.pushserver.specs.Giving.{has_home, known_at, give, reacted}
use Rattle.pushserver.specs.SoundHubs.{IsSoundHub}
use Rattle.pushserver.specs.ToldMessages.{TellsHistory, set_after}

-- a live session without output, without a whole message that waits, and with all records of its names sent
abbrev pub IsAllTold : Hub → Session → Type 0
IsAllTold hub session = (session.standing ≡ Live) × (session.output ≡ []) × (first_message session.input ≡ None)
    × AllByRecursion (λ s. sent hub session s.question.name ≡ wanted session.subscriptions (at_name s.question.name (records_now hub))) session.subscriptions

abbrev pub NothingWhereAllIsTold : Type 0
NothingWhereAllIsTold = (hub : Hub) (number room : ℕ) (session : Session) → IsSoundHub hub → session_of hub number ≡ Some session
    → (IsAllTold hub session → (give hub number room).given ≡ Nothing) × ((give hub number room).given ≡ Nothing → IsAllTold hub session)

-- where nothing is said to a session that was told what the history says, its messages lead each question to what it matches now
abbrev pub NothingMeansAllIsShown : Type 0
NothingMeansAllIsShown = (hub : Hub) (number room : ℕ) (session : Session) → IsSoundHub hub → session_of hub number ≡ Some session → TellsHistory hub session
    → (give hub number room).given ≡ Nothing → AllByRecursion (λ s. set_after session.made s ≡ matching s.question (records_now hub)) session.subscriptions

-- a later hub has the same history, and the same session of this number
pub record LeavesSession (hub later : Hub) (number : ℕ) : Type 0 where
  pub start : later.start ≡ hub.start
  pub timers : later.timers ≡ hub.timers
  pub history : later.history ≡ hub.history
  pub numbers_given : later.numbers_given ≡ hub.numbers_given
  pub session : session_of later number ≡ session_of hub number

-- another session is as it was, or, where an entry is made, as that entry leaves it: at most one is made
abbrev pub GiveChangesOneSession : Type 0
GiveChangesOneSession = (hub : Hub) (number other room : ℕ) → (other ≡ number → ⊥)
    → LeavesSession hub (give hub number room).hub other ⊎ ((entry : Entry) × LeavesSession (entered_keeping entry hub) (give hub number room).hub other)

-- a session lives on, with the output that it had
abbrev pub KeepsOutput : Hub → Hub → ℕ → Type 0
KeepsOutput hub later number = (before : Session) → session_of hub number ≡ Some before → option_map (λ s. s.output) (session_of later number) ≡ Some before.output

-- of the calls beside `give`, none changes an output, and `disconnect` alone takes a session away
abbrev pub OtherCallsKeepOutputs : Type 0
OtherCallsKeepOutputs = (hub : Hub) (number other : ℕ) (octets : List ℕ) (n m : ℕ)
    → KeepsOutput hub (update hub octets).1 number × KeepsOutput hub (hear hub n octets).1 number × KeepsOutput hub (link_gone hub n).1 number × KeepsOutput hub (moment hub n) number
    × KeepsOutput hub (connect hub).1 number × KeepsOutput hub (take_octets hub other octets) number × KeepsOutput hub (stop hub other n m) number
    × ((number ≡ other → ⊥) → KeepsOutput hub (disconnect hub other) number)

-- a SUBSCRIBE whose question is read, and that none of the tests refuses (RFC 8765, 6.2)
pub record IsAcceptable (hub : Hub) (session : Session) (message : List ℕ) (question : Question) : Type 0 where
  pub request : request_in message session.established ≡ requests.Subscribe (Some question)
  pub accepted : verdict_on (keeps_now hub) (id_of message) (Some question) (has_home hub (Some question)) session.subscriptions ≡ Accept question

-- it is answered by NOERROR, and then the first answer's PUSH follows (RFC 8765, 6.2.2)
abbrev pub SubscribeIsAnswered : Type 0
SubscribeIsAnswered = (hub : Hub) (number : ℕ) (session : Session) (message : List ℕ) (question : Question) → session_of hub number ≡ Some session → IsAcceptable hub session message question
    → option_map (λ s. s.output) (session_of (reacted message number hub) number)
    ≡ Some (session.output ++ first_answer_octets (answer_to (id_of message) noerror) (first_answer hub session question))

-- a later hub has the same history and the same other sessions; in this one the reply to a message stands behind the output, and what it asks, what waits
-- for it, and how it stands are as before
pub record RepliesAlone (hub later : Hub) (number : ℕ) (session : Session) (message : List ℕ) : Type 0 where
  pub start : later.start ≡ hub.start
  pub timers : later.timers ≡ hub.timers
  pub history : later.history ≡ hub.history
  pub numbers_given : later.numbers_given ≡ hub.numbers_given
  pub others : (other : ℕ) → (other ≡ number → ⊥) → session_of later other ≡ session_of hub other
  pub after : Session
  pub there : session_of later number ≡ Some after
  pub output : after.output ≡ session.output ++ frame (reply_to (known_at (state_now hub)) message)
  pub reply : Made
  pub made : after.made ≡ session.made ++ reply ∷ []
  pub said : reply.message ≡ reply_to (known_at (state_now hub)) message
  pub input : after.input ≡ session.input
  pub subscriptions : after.subscriptions ≡ session.subscriptions
  pub queue : after.queue ≡ session.queue
  pub established : after.established ≡ session.established
  pub standing : after.standing ≡ session.standing

-- a query gets its reply at the newest point, and nothing else changes but the session's clocks and the messages that it made (RFC 1034, 4.3.2)
abbrev pub QueryIsAnswered : Type 0
QueryIsAnswered = (hub : Hub) (number : ℕ) (session : Session) (message : List ℕ) → session_of hub number ≡ Some session → request_in message session.established ≡ requests.Query
    → RepliesAlone hub (reacted message number hub) number session message

-- no more names wait for a session than it has questions, and what came and what waits to go are within bounds
abbrev pub SessionsStayWithin : Type 0
SessionsStayWithin = (hub : Hub) (number : ℕ) (session : Session) → IsSoundHub hub → session_of hub number ≡ Some session
    → (length session.queue ≤ length session.subscriptions) × (length session.subscriptions ≤ max_questions) × (length session.input ≤ max_input) × (length session.output ≤ frame_octets)

-- memory may be wanted only where a SUBSCRIBE, a RECONFIRM, an update or a query is reacted to: the session goes on, without output, and the message waits whole (RFC 8765, 6.2 and 6.5; RFC 2136, 3; RFC 1035, 4.1)
pub record WantsMemoryFor {A Q M : Type 0} (session : SessionOf A Q M) : Type 0 where
  pub live : session.standing ≡ Live
  pub silent : session.output ≡ []
  pub reads : TakesMemory (request_of session)

pub record MayWantMemory {A Q M S : Type 0} {kind : SessionKind A Q M S} (hub : HubOf kind) (number : ℕ) : Type 0 where
  pub session : SessionOf A Q M
  pub there : session_of hub number ≡ Some session
  pub wants : WantsMemoryFor session
