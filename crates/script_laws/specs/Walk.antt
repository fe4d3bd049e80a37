-- What lines do to a world that stands, kind by kind.
--     OfSays, OfUps, OfEmits, OfDowns      so it is of each of the four passings
--     Keeps, RoundsPass, SettlesPass      octets pass between a client and its session
--     AsksStay, MomentsStay      a client that is joined is asked for something, or comes to a moment
--     OthersLeaveSeats      calls that aren't for a seat's session leave it as it stands
use Rattle.std.specs.Prelude.{◌≡◌, ℕ, ◌≤◌, false, List, Option, Some, None, IsTrue}
use Rattle.dsotlv.specs.Laws.{AreOctets}
use Rattle.dsosession.specs.declared.session.EndReason.{EndReason}
use Rattle.dsosession.specs.declared.session.CloseReason.{CloseReason}
use Rattle.dsosession.specs.declared.session.CloseReason.TheVariants as closes
use Rattle.pushserver.specs.PlainHubs.{Hub, Session}
use Rattle.pushserver.specs.Hubs.{newest, now, connect}
use Rattle.pushserver.specs.Calls.{HubCall, after_calls}
use Rattle.pushclient.specs.Clients.{Client, Connection, connected, closed_as}
use Rattle.pushclient.specs.Steps as steps
use Rattle.inflight.specs.Flight.{AreSoundWishes}
use Rattle.scripts.specs.declared.line.Call.{Call}
use Rattle.replay.specs.World.{World, Seat, cut_seat}
use Rattle.replay.specs.PassedOctets.{Passed, Exchanged, say, up, emit, down, round, settled, exchanged}
use Rattle.replay.specs.Text.{called}
use Rattle.replay.specs.Promises.{ShownPoints, is_end_by_itself, IsUnconnected}
use Rattle.script_laws.specs.Lines.{IsCallWithin}
use Rattle.script_laws.specs.Reached.{FitCalls, IsReached, AreFor, Avoids}
use Rattle.script_laws.specs.Joined.{IsJoined, SeatStands, StandsWith, PassesSo, Waits}

-- ---- octets pass

abbrev pub Keeps : (World → Seat → Passed) → ℕ → Type 0
Keeps passing number = (world : World) (shown : ShownPoints) (seat : Seat) (session : Session) (c : Connection)
    → IsReached world.hub → IsJoined world.hub shown seat number session c → PassesSo number world shown seat c (passing world seat)

-- so it is of each of the four passings, whatever the bound
abbrev pub OfSays : ((World → Seat → Passed) → ℕ → Type 0) → Type 0
OfSays Holds = (n number : ℕ) → Holds (say n) number

abbrev pub OfUps : ((World → Seat → Passed) → ℕ → Type 0) → Type 0
OfUps Holds = (n number : ℕ) → Holds (up number n) number

abbrev pub OfEmits : ((World → Seat → Passed) → ℕ → Type 0) → Type 0
OfEmits Holds = (n number : ℕ) → Holds (emit number n) number

abbrev pub OfDowns : ((World → Seat → Passed) → ℕ → Type 0) → Type 0
OfDowns Holds = (n number : ℕ) → Holds (down n) number

-- the first passing, and behind it the second
abbrev pub RoundsPass : Type 0
RoundsPass = (number : ℕ) → Keeps (round number) number

abbrev pub SettlesPass : Type 0
SettlesPass = (turns number : ℕ) (over : Option EndReason) → ((reason : EndReason) → over ≡ Some reason → IsTrue (is_end_by_itself reason))
    → Keeps (λ world seat. settled turns number world seat over) number

-- once octets have come down, each whole message is taken, or the client has closed
abbrev pub DownsWait : Type 0
DownsWait = (n number : ℕ) (world : World) (shown : ShownPoints) (seat : Seat) (session : Session) (c later : Connection) → IsReached world.hub → IsJoined world.hub shown seat number session c
    → Waits c → (down n world seat).seat.client.connection ≡ Some later → Waits later

-- an exchange with the session of a peer is calls for this session alone
pub record IsExchangeOf (number : ℕ) (hub : Hub) (x : Exchanged) : Type 0 where
  pub calls : List HubCall
  pub fit : FitCalls calls
  pub own : AreFor number calls
  pub hub_is : x.hub ≡ after_calls calls hub

abbrev pub ExchangesAreCalls : Type 0
ExchangesAreCalls = (turns number : ℕ) (octets so_far : List ℕ) (hub : Hub) → AreOctets octets → IsExchangeOf number hub (exchanged turns number octets hub so_far)

-- ---- the client is asked for something

-- with another client in its place the seat is still joined to its session, if it has not closed
pub record StaysJoined (hub : Hub) (shown : ShownPoints) (seat : Seat) (number : ℕ) (session : Session) (c : Connection) (later : Client) : Type 0 where
  pub connection : Connection
  pub there : later.connection ≡ Some connection
  pub input : connection.input ≡ c.input
  pub joined : connection.closed ≡ None → IsJoined hub shown (record seat { client = later }) number session connection

abbrev pub KeepsJoined : (Client → Client) → Type 0
KeepsJoined next = (hub : Hub) (shown : ShownPoints) (seat : Seat) (number : ℕ) (session : Session) (c : Connection)
    → IsReached hub → IsJoined hub shown seat number session c → c.closed ≡ None → StaysJoined hub shown seat number session c (next seat.client)

pub record AsksStay : Type 0 where
  pub joined : (call : Call) → IsCallWithin call → KeepsJoined (λ client. (called call client).1)
  pub unclosed : (call : Call) (client : Client) (c : Connection) → client.connection ≡ Some c → c.closed ≡ None → closed_as (called call client).1 ≡ None

-- at a moment it may close, by its own timer alone (RFC 8490, 6.4)
pub record MomentsStay : Type 0 where
  pub joined : (t : ℕ) → KeepsJoined (λ client. steps.moment client t)
  pub closes_so : (t : ℕ) (client : Client) (c : Connection) (reason : CloseReason) → client.connection ≡ Some c → c.closed ≡ None → closed_as (steps.moment client t) ≡ Some reason → reason ≡ closes.Idle

-- ---- a connection opens and is cut

-- without a connection the questions stay few, different and within bounds, whatever the client is asked for, and at any moment
pub record WishesStaySound : Type 0 where
  pub asked : (call : Call) (client : Client) → client.connection ≡ None → IsCallWithin call → AreSoundWishes client.wishes → AreSoundWishes (called call client).1.wishes
  pub unconnected : (call : Call) (client : Client) → client.connection ≡ None → (called call client).1.connection ≡ None
  pub timed : (t : ℕ) (client : Client) → client.connection ≡ None → ((steps.moment client t).connection ≡ None) × ((steps.moment client t).wishes ≡ client.wishes)

-- a client without a connection is joined to a new session of the hub
abbrev pub NewOnesAreJoined : Type 0
NewOnesAreJoined = (hub : Hub) (shown : ShownPoints) (seat : Seat) (number : ℕ) → IsReached hub → seat.is_lone ≡ false → IsUnconnected hub shown seat → (connect hub).0 ≡ Some number
    → let later = record seat { client = connected (now hub) seat.client; session = Some number } in StandsWith (connect hub).1 shown later number

-- a seat whose connection is cut stands alone, whatever was under way
abbrev pub CutsStandAlone : Type 0
CutsStandAlone = (hub : Hub) (shown : ShownPoints) (seat : Seat) (number : ℕ) (session : Session) (c : Connection) (later : Hub) → IsReached hub → IsJoined hub shown seat number session c → newest hub ≤ newest later
    → IsUnconnected later shown (cut_seat seat)

-- ---- the calls of others

abbrev pub OthersLeaveSeats : Type 0
OthersLeaveSeats = (hub : Hub) (shown : ShownPoints) (seat : Seat) (calls : List HubCall) → IsReached hub → FitCalls calls → Avoids seat.session calls → SeatStands hub shown seat → SeatStands (after_calls calls hub) shown seat
