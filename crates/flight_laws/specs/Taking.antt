-- The client's step and its calls on octets: what is under way fits together behind them.
--     TakesFirst      the first message is taken, with what goes up by it
--     StepsAreTaken, StepsWait      the client's step on a whole message, and without one
--     GoesUp      messages go up behind a call
--     SubscribesGoUp, UnsubscribesGoUp, ReconfirmsGoUp, MomentsGoUp      the client's calls
--     ConnectionsOpen      a new connection, on which all wanted questions are asked
use Rattle.std.specs.Prelude.{◌≡◌, ℕ, true, false, ◌≤◌, ◌&&◌, List, [], ◌∷◌, ◌++◌, map, length, flat_map, Option, Some, None, IsTrue, is_some, nat_le, ◌==◌, if◌then◌else◌}
use Rattle.std.specs.List.{list_any, AllByRecursion, IsDistinct}
use Rattle.push_base.specs.Limits.{max_questions}
use Rattle.dnsname.specs.Names.{is_name}
use Rattle.rrset.specs.Records.{same_question}
use Rattle.rrset.specs.declared.record.Question.{Question}
use Rattle.rrset.specs.declared.record.Rr.{Rr}
use Rattle.dsotlv.specs.Messages.{frame, first_message}
use Rattle.dsosession.specs.Timing.{client_due}
use Rattle.dsosession.specs.declared.session.CloseReason.{CloseReason}
use Rattle.dsosession.specs.declared.session.CloseReason.TheVariants as closes
use Rattle.dsosession.specs.declared.session.Due.{Due}
use Rattle.dsosession.specs.declared.session.Due.TheVariants as dues
use Rattle.pushsession.specs.Sessions.{is_open, new_session}
use Rattle.pushserver.specs.Hubs.{keeps_now}
use Rattle.pushserver.specs.PlainHubs.{Session, Hub}
use Rattle.pushclient.specs.Clients.{Client, Connection, RequestState, answered, next_id, open_connection, wish_for, reconfirm_message, subscribe, unsubscribe, reconfirm, connected, wanted_questions}
use Rattle.pushclient.specs.FittingMessages.{is_delay}
use Rattle.pushclient.specs.ServerMessages.{ServerMessage, CanBeGranted, accepts, delays}
use Rattle.pushclient.specs.Steps.{step, request_of, is_active, moment}
use Rattle.inflight.specs.Messages.{ClientMessage, message_octets, subscribes, unsubscribes, reconfirms, requests_keepalive, Flying, made_of}
use Rattle.inflight.specs.Ends.{is_question}
use Rattle.inflight.specs.Flight.{IsUnderWay}

abbrev pub written : List ClientMessage → List ℕ
written ups = flat_map (λ m. frame (message_octets m)) ups

-- an UNSUBSCRIBE where the answer is to a wish that was dropped meanwhile (RFC 8765, 6.4)
abbrev pub ended_by : Client → ServerMessage → List ClientMessage
ended_by client (accepts id) = elim (request_of client id) [ None ↦ [] | Some wish ↦ if wish.wanted then [] else unsubscribes id ∷ [] ]
ended_by client _ = []

-- a Retry Delay alone closes (RFC 8490, 6.6.1)
abbrev pub closed_by : ServerMessage → Option CloseReason
closed_by (delays rcode delay) = Some (closes.Delay delay rcode)
closed_by _ = None

-- the client after it took the first of the messages that came down
pub record TakesFirst (hub : Hub) (told : List (ℕ × ℕ)) (session : Session) (client : Client) (c : Connection) (up_wire down_wire : List ℕ) (before : IsUnderWay hub told session client c up_wire down_wire) (later : Client) : Type 0 where
  pub first : Flying
  pub others : List Flying
  pub comes : before.flying ≡ first ∷ others
  -- nothing else is taken, and behind what went up goes what the message asks for
  pub connection : Connection
  pub there : later.connection ≡ Some connection
  pub after : IsUnderWay hub told session later connection up_wire down_wire
  pub taken : after.taken ≡ before.taken ++ made_of hub.timers first ∷ []
  pub flying : after.flying ≡ others
  pub ups : after.ups ≡ before.ups ++ ended_by client first.says
  pub output : connection.output ≡ c.output ++ written (ended_by client first.says)
  -- where the connection closes the session doesn't go on
  pub closed : connection.closed ≡ closed_by first.says
  pub stopped : is_delay first.says ≡ true → is_open session.standing ≡ false

-- one whole message came; the IDs of active subscriptions differ
abbrev pub StepsAreTaken : Type 0
StepsAreTaken = (hub : Hub) (told : List (ℕ × ℕ)) (session : Session) (client : Client) (c : Connection) (up_wire down_wire whole rest : List ℕ)
    → IsDistinct (λ s t. s.id == t.id) session.subscriptions → open_connection client ≡ Some c → first_message c.input ≡ Some (whole, rest)
    → (before : IsUnderWay hub told session client c up_wire down_wire) → TakesFirst hub told session client c up_wire down_wire before (step client).1

-- no whole message came, and nothing changes
abbrev pub StepsWait : Type 0
StepsWait = (client : Client) (c : Connection) → open_connection client ≡ Some c → first_message c.input ≡ None → (step client).1 ≡ client

-- ---- calls

-- a question that no wish has, while there are fewer than 1,024
abbrev pub asked_by : Client → Connection → Question → List ClientMessage
asked_by client c question = elim (wish_for client question) [
  | Some wish ↦ []
  | None ↦ if nat_le max_questions (length client.wishes) then [] else subscribes (next_id client.wishes c) question ∷ []
]

-- a subscription that is held is ended
abbrev pub ended_as : RequestState → List ClientMessage
ended_as (answered id) = unsubscribes id ∷ []
ended_as _ = []

abbrev pub dropped_by : Client → Question → List ClientMessage
dropped_by client question = elim (wish_for client question) [ None ↦ [] | Some wish ↦ if wish.wanted then ended_as wish.standing else [] ]

abbrev pub reconfirmed_by : Connection → Rr → List ClientMessage
reconfirmed_by c rr = if c.established && nat_le (length (reconfirm_message rr)) 65535 then reconfirms rr ∷ [] else []

-- what is due at a moment
abbrev pub due_at : Client → Connection → ℕ → Due
due_at client c t = client_due c.clocks t (list_any (λ w. is_active w.standing) client.wishes) (is_some c.keepalive_out)

abbrev pub due_message : Due → ℕ → List ClientMessage
due_message dues.Keepalive id = requests_keepalive id ∷ []
due_message _ id = []

abbrev pub due_close : Due → Option CloseReason
due_close dues.Idle = Some closes.Idle
due_close _ = None

-- the client after a call: these messages go behind what went up, and nothing else changes of what is under way; it may close
pub record GoesUp (hub : Hub) (told : List (ℕ × ℕ)) (session : Session) (client : Client) (c : Connection) (up_wire down_wire : List ℕ) (before : IsUnderWay hub told session client c up_wire down_wire) (later : Client) (more : List ClientMessage) (reason : Option CloseReason) : Type 0 where
  pub connection : Connection
  pub there : later.connection ≡ Some connection
  pub after : IsUnderWay hub told session later connection up_wire down_wire
  pub taken : after.taken ≡ before.taken
  pub flying : after.flying ≡ before.flying
  pub ups : after.ups ≡ before.ups ++ more
  pub output : connection.output ≡ c.output ++ written more
  pub closed : connection.closed ≡ reason

-- a question within bounds; the IDs of active subscriptions differ (RFC 8765, 6.2)
abbrev pub SubscribesGoUp : Type 0
SubscribesGoUp = (hub : Hub) (told : List (ℕ × ℕ)) (session : Session) (client : Client) (c : Connection) (up_wire down_wire : List ℕ) (question : Question)
    → IsTrue (is_question question) → IsDistinct (λ s t. s.id == t.id) session.subscriptions → open_connection client ≡ Some c
    → (before : IsUnderWay hub told session client c up_wire down_wire) → GoesUp hub told session client c up_wire down_wire before (subscribe client question).1 (asked_by client c question) None

-- RFC 8765, 6.4
abbrev pub UnsubscribesGoUp : Type 0
UnsubscribesGoUp = (hub : Hub) (told : List (ℕ × ℕ)) (session : Session) (client : Client) (c : Connection) (up_wire down_wire : List ℕ) (question : Question) → open_connection client ≡ Some c
    → (before : IsUnderWay hub told session client c up_wire down_wire) → GoesUp hub told session client c up_wire down_wire before (unsubscribe client question).1 (dropped_by client question) None

-- the record has a name (RFC 8765, 6.5.1)
abbrev pub ReconfirmsGoUp : Type 0
ReconfirmsGoUp = (hub : Hub) (told : List (ℕ × ℕ)) (session : Session) (client : Client) (c : Connection) (up_wire down_wire : List ℕ) (rr : Rr) → IsTrue (is_name rr.owner) → open_connection client ≡ Some c
    → (before : IsUnderWay hub told session client c up_wire down_wire) → GoesUp hub told session client c up_wire down_wire before (reconfirm client rr).1 (reconfirmed_by c rr) None

-- RFC 8490, 7.1
abbrev pub MomentsGoUp : Type 0
MomentsGoUp = (hub : Hub) (told : List (ℕ × ℕ)) (session : Session) (client : Client) (c : Connection) (up_wire down_wire : List ℕ) (t : ℕ) → open_connection client ≡ Some c
    → (before : IsUnderWay hub told session client c up_wire down_wire) → GoesUp hub told session client c up_wire down_wire before (moment client t) (due_message (due_at client c t) (next_id client.wishes c)) (due_close (due_at client c t))

-- ---- a new connection

abbrev pub question_asked : ClientMessage → Option Question
question_asked (subscribes id question) = Some question
question_asked _ = None

-- a client that is connected to a new session has asked these questions, in this order, and nothing else is under way
pub record Opens (hub : Hub) (opened : ℕ) (later : Client) (questions : List Question) : Type 0 where
  pub connection : Connection
  pub there : later.connection ≡ Some connection
  pub after : IsUnderWay hub [] (new_session (keeps_now hub) opened) later connection [] []
  pub taken : after.taken ≡ []
  pub flying : after.flying ≡ []
  pub asked : map question_asked after.ups ≡ map (λ q. Some q) questions
  pub output : connection.output ≡ written after.ups
  pub closed : connection.closed ≡ None

-- at most 1,024 different questions are wanted, within bounds
abbrev pub ConnectionsOpen : Type 0
ConnectionsOpen = (hub : Hub) (opened t : ℕ) (client : Client) → let questions = wanted_questions client in
    CanBeGranted hub.timers → length questions ≤ max_questions → IsDistinct same_question questions → AllByRecursion (λ q. IsTrue (is_question q)) questions → Opens hub opened (connected t client) questions
