-- What a call of `give` does to a session: it hands on what waits to go, reacts to a message, packs a PUSH, stops, or does nothing.
-- What is under way still fits, as octets.
--     PushesCanBeTold      what a sound hub tells can be read
--     EndsToldLeaveIt, PacksLeaveIt, StopsLeaveIt      ends of first answers are told; a PUSH is packed; a session stops that was asked to
--     reaction, ReactionsLeaveIt      the session reacts to the first message that comes up
--     BehindGiving      behind a call of `give`
--     QuietGivesLeaveIt      each call that reacts to no message
use Rattle.std.specs.Prelude.{◌≡◌, ℕ, ◌<◌, ◌^◌, true, false, List, [], ◌∷◌, ◌++◌, ◌⊎◌, length, flat_map, Some, None, IsTrue, if◌then◌else◌}
use Rattle.push_base.specs.Cases.{is_empty}
use Rattle.dnsname.specs.Names.{is_name}
use Rattle.rrset.specs.declared.record.Question.{Question}
use Rattle.rrset.specs.Rcodes.{notauth}
use Rattle.dsotlv.specs.Answers.{grant_to, refusal_to}
use Rattle.dsotlv.specs.Messages.{frame, first_message}
use Rattle.dsotlv.specs.declared.message.Notice.{Notice}
use Rattle.dsosession.specs.Timing.{Clocks}
use Rattle.dsosession.specs.declared.session.Timers.{Timers}
use Rattle.pushsession.specs.declared.session_status.SessionStatus.{SessionStatus}
use Rattle.pushsession.specs.declared.session_status.SessionStatus.TheVariants.{Live, AskedToStop}
use Rattle.pushsession.specs.Reactions.{granted, unsubscribed}
use Rattle.pushsession.specs.Sessions.{is_open, answers, stopped}
use Rattle.pushsession.specs.Subscribing.{with_accepted, with_next_push}
use Rattle.pushserver.specs.Hubs.{now, state_now, keeps_now, tells_now, session_of}
use Rattle.pushserver.specs.Giving.{is_served_at, give}
use Rattle.pushserver.specs.PlainHubs.{Session, Hub, Giving, first_answer}
use Rattle.pushserver.specs.SoundHubs.{IsSoundHub}
use Rattle.pushclient.specs.Clients.{Client, Connection}
use Rattle.pushclient.specs.ServerMessages.{tells, server_octets, IsReadable}
use Rattle.inflight.specs.Messages.{ClientMessage, subscribes, unsubscribes, reconfirms, requests_keepalive, message_octets}
use Rattle.inflight.specs.Ends.{going_up, remembers}
use Rattle.inflight.specs.Flight.{IsUnderWay}

-- ---- a session

-- with octets handed out the ends of the first answers of what is active are told
abbrev pub EndsToldLeaveIt : Type 0
EndsToldLeaveIt = (hub : Hub) (told : List (ℕ × ℕ)) (session : Session) (client : Client) (c : Connection) (up_wire down_wire : List ℕ)
    → IsUnderWay hub told session client c up_wire down_wire → IsUnderWay hub (remembers session.subscriptions told) session client c up_wire down_wire

-- the notices of the PUSH that is packed next
abbrev pub notices_packed : Hub → Session → List Notice
notices_packed hub session = ((tells_now hub).packed session.subscriptions session.queue).0

-- where there are any, what is written for them is read as them, and a frame holds it
abbrev pub CanBeTold : Timers → List Notice → Type 0
CanBeTold timers [] = Unit {0}
CanBeTold timers (n ∷ ns) = IsReadable (tells (n ∷ ns)) × (length (server_octets timers (tells (n ∷ ns))) < 2 ^ 16)

-- of a sound hub: the next PUSH, and the one behind the answer to a SUBSCRIBE
pub record PushesCanBeTold : Type 0 where
  pub packed : (hub : Hub) (number : ℕ) (session : Session) → IsSoundHub hub → session_of hub number ≡ Some session → CanBeTold hub.timers (notices_packed hub session)
  pub first : (hub : Hub) (number : ℕ) (session : Session) (question : Question) → IsSoundHub hub → session_of hub number ≡ Some session → IsTrue (is_name question.name)
      → CanBeTold hub.timers (first_answer hub session question)

-- a PUSH of the names that fit, or nothing where none has a net (RFC 8765, 6.3)
abbrev pub PacksLeaveIt : Type 0
PacksLeaveIt = (hub : Hub) (told : List (ℕ × ℕ)) (session : Session) (client : Client) (c : Connection) (up_wire down_wire : List ℕ)
    → IsTrue (is_open session.standing) → CanBeTold hub.timers (notices_packed hub session) → IsUnderWay hub told session client c up_wire down_wire
    → IsUnderWay hub told (with_next_push (keeps_now hub) (tells_now hub) (now hub) session) client c up_wire down_wire

-- the Retry Delay of an established session, and the end of any other (RFC 8490, 6.6.1)
abbrev pub StopsLeaveIt : Type 0
StopsLeaveIt = (hub : Hub) (rcode delay : ℕ) (told : List (ℕ × ℕ)) (session : Session) (client : Client) (c : Connection) (up_wire down_wire : List ℕ)
    → session.standing ≡ AskedToStop rcode delay → rcode < 16 → delay < 2 ^ 32 → IsUnderWay hub told session client c up_wire down_wire
    → IsUnderWay hub told (stopped (keeps_now hub) rcode delay (now hub) session) client c up_wire down_wire

-- ---- a reaction

-- What a session makes of a message that may be taken up, once it is out of the input and the timers are restarted: a question that is
-- served is accepted, and any other is refused with NOTAUTH; an UNSUBSCRIBE ends its subscription; a RECONFIRM changes nothing of
-- the session; a Keepalive is granted (RFC 8765, 6.2, 6.4 and 6.5; RFC 8490, 7.1).
abbrev pub reaction : Hub → ClientMessage → Session → Session
reaction hub (subscribes id question) session =
    if is_served_at (state_now hub) question then with_accepted (keeps_now hub) (tells_now hub) (now hub) id question session
    else answers (keeps_now hub) false (now hub) (refusal_to id notauth) session
reaction hub (unsubscribes id) session = unsubscribed (keeps_now hub) id session
reaction hub (reconfirms rr) session = session
reaction hub (requests_keepalive id) session = granted hub.timers (answers (keeps_now hub) true (now hub) (grant_to id hub.timers.inactivity hub.timers.keepalive) session)

-- of a SUBSCRIBE: its name has the home that it had at the start, and what follows the answer can be read
abbrev pub Needs : Hub → ClientMessage → Session → Type 0
Needs hub (subscribes id question) session = (is_served_at (state_now hub) question ≡ is_served_at hub.start question) × CanBeTold hub.timers (first_answer hub session question)
Needs hub _ session = Unit {0}

-- the first of the messages that come up is out of the input, and the others are left; with the octets handed out the ends of first
-- answers are told
abbrev pub ReactionsLeaveIt : Type 0
ReactionsLeaveIt = (hub : Hub) (told : List (ℕ × ℕ)) (session : Session) (client : Client) (c : Connection) (up_wire down_wire : List ℕ) (m : ClientMessage) (others : List ClientMessage) (rest : List ℕ) (clocks : Clocks)
    → let before : Session = record session { input = rest; clocks = clocks } in
    (i : IsUnderWay hub told session client c up_wire down_wire)
    → IsTrue (is_open session.standing) → Needs hub m before → i.ups ≡ m ∷ others → going_up before c up_wire ≡ flat_map (λ m. frame (message_octets m)) others
    → IsUnderWay hub (remembers (reaction hub m before).subscriptions told) (reaction hub m before) client c up_wire down_wire

-- ---- a call of `give`

-- the octets that it handed out are on the wire, and with them the ends of the first answers of what is active were told
pub record BehindGiving (g : Giving) (number : ℕ) (told : List (ℕ × ℕ)) (client : Client) (c : Connection) (up_wire down_wire : List ℕ) : Type 0 where
  pub later : Session
  pub there : session_of g.hub number ≡ Some later
  pub flight : IsUnderWay g.hub (remembers later.subscriptions told) later client c up_wire (down_wire ++ g.octets)

-- a live session in which no whole message waits, and any that isn't live
abbrev pub ReactsToNone : SessionStatus → Session → Type 0
ReactsToNone Live session = first_message session.input ≡ None
ReactsToNone _ session = Unit {0}

-- the numbers of a stop that was asked for fit their fields (RFC 8490, 6.6.1)
abbrev pub StopFits : SessionStatus → Type 0
StopFits (AskedToStop rcode delay) = (rcode < 16) × (delay < 2 ^ 32)
StopFits _ = Unit {0}

-- what waits to go is handed on first, then no message is reacted to
abbrev pub QuietGivesLeaveIt : Type 0
QuietGivesLeaveIt = (hub : Hub) (number room : ℕ) (told : List (ℕ × ℕ)) (session : Session) (client : Client) (c : Connection) (up_wire down_wire : List ℕ)
    → session_of hub number ≡ Some session → (is_empty session.output ≡ false) ⊎ ReactsToNone session.standing session → StopFits session.standing
    → CanBeTold hub.timers (notices_packed hub session) → IsUnderWay hub told session client c up_wire down_wire
    → BehindGiving (give hub number room) number told client c up_wire down_wire
