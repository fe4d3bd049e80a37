-- A client of a script and its session, and what is under way between both, inside a line and between two.
--     IsJoined hub shown seat number session c      inside a line
--     Waits c      the client has taken each whole message that came, unless it has closed
--     SeatStands hub shown seat, WorldStands shown world      between two lines
--     PassesSo number world shown seat c p      octets passed, and both are still joined
use Rattle.std.specs.Prelude.{◌≡◌, ℕ, ◌+◌, ◌≤◌, List, ◌++◌, length, Option, Some, None, IsTrue, false}
use Rattle.std.specs.List.{AllByRecursion}
use Rattle.push_base.specs.Limits.{max_input}
use Rattle.dsotlv.specs.Laws.{AreOctets}
use Rattle.dsotlv.specs.Answers.{stop_message}
use Rattle.dsotlv.specs.Messages.{first_message}
use Rattle.dsosession.specs.declared.session.EndReason.{EndReason}
use Rattle.dsosession.specs.declared.session.CloseReason.{CloseReason}
use Rattle.dsosession.specs.declared.session.CloseReason.TheVariants.{Delay}
use Rattle.pushsession.specs.declared.session_status.SessionStatus.{SessionStatus}
use Rattle.pushsession.specs.Sessions.{is_open}
use Rattle.pushserver.specs.PlainHubs.{Hub, Session, size_of_made}
use Rattle.pushserver.specs.Hubs.{session_of}
use Rattle.pushserver.specs.Calls.{HubCall, after_calls}
use Rattle.pushclient.specs.Clients.{Connection}
use Rattle.inflight.specs.Flight.{IsUnderWay}
use Rattle.scripts.specs.Lines.{Word}
use Rattle.replay.specs.World.{World, Seat}
use Rattle.replay.specs.PassedOctets.{Passed, max_wire}
use Rattle.replay.specs.Promises.{EndedByItself, ShownPoints, ShowsNoLater, point_taken, is_end_by_itself, IsUnconnected, NumbersFit}
use Rattle.script_laws.specs.Reached.{FitCalls, IsReached, Began, AreFor}

-- if it has closed, then by a Retry Delay, behind which the session doesn't go on (RFC 8490, 6.6.1)
abbrev pub ClosedByDelay : SessionStatus → Option CloseReason → Type 0
ClosedByDelay standing None = Unit {0}
ClosedByDelay standing (Some (Delay ms rcode)) = is_open standing ≡ false
ClosedByDelay standing (Some _) = ⊥

pub record IsJoined (hub : Hub) (shown : ShownPoints) (seat : Seat) (number : ℕ) (session : Session) (c : Connection) : Type 0 where
  pub there : session_of hub number ≡ Some session
  pub connected : seat.client.connection ≡ Some c
  pub flight : IsUnderWay hub seat.filled session seat.client c seat.up_wire seat.down_wire
  pub reached : seat.reached ≡ size_of_made flight.taken + length c.input
  pub up_wire : length seat.up_wire ≤ max_wire
  pub down_wire : length seat.down_wire ≤ max_wire
  pub input : length c.input ≤ max_input
  -- what the client wrote, and what of it is on the wire, are octets
  pub octets : AreOctets (seat.up_wire ++ c.output)
  pub ended : EndedByItself session.standing
  pub closed : ClosedByDelay session.standing c.closed
  -- while it is open it has taken no Retry Delay
  pub unstopped : c.closed ≡ None → AllByRecursion (λ m. (rcode delay : ℕ) → m.message ≡ stop_message rcode delay → ⊥) flight.taken
  pub start : ℕ
  pub began : Began hub number start
  -- no point was shown that is behind that of the last message taken
  pub shown_before : ShowsNoLater shown (point_taken start flight.taken)

abbrev pub Waits : Connection → Type 0
Waits c = c.closed ≡ None → first_message c.input ≡ None

-- ---- between two lines

-- a seat that has the session of a number
pub record StandsWith (hub : Hub) (shown : ShownPoints) (seat : Seat) (number : ℕ) : Type 0 where
  pub lone : seat.is_lone ≡ false
  pub session : Session
  pub connection : Connection
  pub joined : IsJoined hub shown seat number session connection
  pub waits : first_message connection.input ≡ None
  pub unclosed : connection.closed ≡ None

abbrev pub SeatStands : Hub → ShownPoints → Seat → Type 0
SeatStands hub shown seat = elim seat.session as (λ _. Type 0) [ None ↦ IsUnconnected hub shown seat | Some number ↦ StandsWith hub shown seat number ]

-- what has been shown to each client
abbrev pub ShownToEach : Type 0
ShownToEach = Word → ShownPoints

pub record WorldStands (shown : ShownToEach) (world : World) : Type 0 where
  pub reached : IsReached world.hub
  pub numbers : NumbersFit world
  pub seats : AllByRecursion (λ s. SeatStands world.hub (shown s.word) s) world.seats

-- ---- octets pass

-- the hub is as calls for this session alone left it, and the client with its connection is still joined to the session; an end that was told came by itself
pub record PassesSo (number : ℕ) (world : World) (shown : ShownPoints) (seat : Seat) (c : Connection) (p : Passed) : Type 0 where
  pub calls : List HubCall
  pub fit : FitCalls calls
  pub own : AreFor number calls
  pub world_is : p.world ≡ record world { hub = after_calls calls world.hub }
  pub word : p.seat.word ≡ seat.word
  pub lone : p.seat.is_lone ≡ seat.is_lone
  pub session : p.seat.session ≡ seat.session
  pub later : Session
  pub connection : Connection
  pub joined : IsJoined p.world.hub shown p.seat number later connection
  pub waits : Waits c → Waits connection
  pub over : (reason : EndReason) → p.over ≡ Some reason → IsTrue (is_end_by_itself reason)
