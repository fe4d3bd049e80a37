-- What goes on between a session and its client: no message ends it, octets pass by the calls of either end, and what was taken stays.
--     NoMessageEndsIt      each call of `give` leaves a live session live, but where it falls behind, and a client's step closes at a Retry Delay alone
--     SessionsTakeOctets, ClientsTakeOctets, ClientsGiveOctets      the calls by which octets pass
--     TakenIsCounted, TakenStays      which messages were taken follows from what was made and what comes down
--     GivesTakeNothing, OtherCallsTakeNothing      so it stays behind each call of the hub
use Rattle.std.specs.Prelude.{◌≡◌, ℕ, ◌+◌, ◌<◌, Bool, true, false, List, ◌∷◌, ◌++◌, length, take, drop, min, Some, IsTrue, ◌==◌}
use Rattle.std.specs.List.{IsDistinct}
use Rattle.dsosession.specs.declared.session.CloseReason.{CloseReason}
use Rattle.dsosession.specs.declared.session.CloseReason.TheVariants as closes
use Rattle.dsosession.specs.declared.session.EndReason.TheVariants as ends
use Rattle.pushsession.specs.declared.session_status.SessionStatus.{SessionStatus}
use Rattle.pushsession.specs.declared.session_status.SessionStatus.TheVariants.{Live, Ended}
use Rattle.pushsession.specs.Sessions.{is_open}
use Rattle.pushserver.specs.declared.given.Given.{Given}
use Rattle.pushserver.specs.declared.given.Given.TheVariants.{Bytes, Worked, Nothing, End}
use Rattle.pushserver.specs.Calls.{HubCall, called}
use Rattle.pushserver.specs.Giving.{give}
use Rattle.pushserver.specs.Hubs.{session_of, taken_by, take_octets}
use Rattle.pushserver.specs.PlainHubs.{Session, Made, Hub, Giving, size_of_made}
use Rattle.pushclient.specs.Clients.{Client, Connection, open_connection, closed_as, room_of, take_octets as client_takes, give_octets as client_gives}
use Rattle.pushclient.specs.ServerMessages.{delays}
use Rattle.pushclient.specs.Steps.{step}
use Rattle.inflight.specs.Messages.{Flying}
use Rattle.inflight.specs.Ends.{BothEnds}
use Rattle.inflight.specs.Flight.{InFlight, IsUnderWay}
use Rattle.flight_laws.specs.OtherCalls.{IsOfOthers}
use Rattle.flight_laws.specs.Turns.{BehindGiving}

-- ---- no message ends it

-- the answer tells no end and no stop
abbrev pub gives_on : Given → Bool
gives_on (Bytes n) = true
gives_on Worked = true
gives_on Nothing = true
gives_on _ = false

-- it is live, and the answer says no end; or it fell behind by an entry that it asked for, and the answer says that
abbrev pub GivesOn : SessionStatus → Given → Type 0
GivesOn Live given = IsTrue (gives_on given)
GivesOn (Ended reason) given = (point : ℕ) × (reason ≡ ends.Behind point) × (given ≡ End reason)
GivesOn _ given = ⊥

-- the session is there behind a call of `give`, and goes on so
pub record GoesOn (g : Giving) (number : ℕ) : Type 0 where
  pub later : Session
  pub there : session_of g.hub number ≡ Some later
  pub goes_on : GivesOn later.standing g.given

-- of a live session, whatever waits to go, and whatever of the client's messages came
abbrev pub SessionsGoOn : Type 0
SessionsGoOn = (hub : Hub) (number room : ℕ) (told : List (ℕ × ℕ)) (session : Session) (client : Client) (c : Connection) (up_wire down_wire : List ℕ)
    → session_of hub number ≡ Some session → session.standing ≡ Live → IsUnderWay hub told session client c up_wire down_wire → GoesOn (give hub number room) number

-- the first of these messages is a Retry Delay, by which it closes, and the session doesn't go on (RFC 8490, 6.6.1)
pub record IsDelayed (session : Session) (flying : List Flying) (reason : CloseReason) : Type 0 where
  pub rcode : ℕ
  pub delay : ℕ
  pub first : Flying
  pub others : List Flying
  pub comes : flying ≡ first ∷ others
  pub says : first.says ≡ delays rcode delay
  pub closes_so : reason ≡ closes.Delay delay rcode
  pub stopped : is_open session.standing ≡ false

-- an open client closes by a step only where such a message comes down; the IDs of active subscriptions differ
abbrev pub ClientsGoOn : Type 0
ClientsGoOn = (hub : Hub) (told : List (ℕ × ℕ)) (session : Session) (client : Client) (c : Connection) (up_wire down_wire : List ℕ) (reason : CloseReason)
    → IsDistinct (λ s t. s.id == t.id) session.subscriptions → open_connection client ≡ Some c
    → (before : IsUnderWay hub told session client c up_wire down_wire) → closed_as (step client).1 ≡ Some reason → IsDelayed session before.flying reason

pub record NoMessageEndsIt : Type 0 where
  pub session : SessionsGoOn
  pub client : ClientsGoOn

-- ---- octets pass

-- the same messages were taken, come down and go up
pub record AreTheSame {e later : BothEnds} {up down up_later down_later : List ℕ} (before : InFlight e up down) (after : InFlight later up_later down_later) : Type 0 where
  pub taken : after.taken ≡ before.taken
  pub flying : after.flying ≡ before.flying
  pub ups : after.ups ≡ before.ups

-- a front of what comes up is brought to a session of a hub, which takes so many octets of it as the call says; the others stay on the wire
abbrev pub SessionsTakeOctets : Type 0
SessionsTakeOctets = (hub : Hub) (number n : ℕ) (told : List (ℕ × ℕ)) (session : Session) (client : Client) (c : Connection) (up_wire down_wire : List ℕ) → session_of hub number ≡ Some session
    → (before : IsUnderWay hub told session client c up_wire down_wire)
    → let k = taken_by hub number (take n up_wire) in
    let hub_later = take_octets hub number (take n up_wire) in
    let later : Session = record session { input = session.input ++ take k up_wire } in
    (session_of hub_later number ≡ Some later) × (after : IsUnderWay hub_later told later client c (drop k up_wire) down_wire) × AreTheSame before after

-- a front of what comes down is brought to a client, which takes as much as it has room for; the others stay on the wire
abbrev pub ClientsTakeOctets : Type 0
ClientsTakeOctets = (hub : Hub) (n : ℕ) (told : List (ℕ × ℕ)) (session : Session) (client : Client) (c : Connection) (up_wire down_wire : List ℕ) → client.connection ≡ Some c
    → (before : IsUnderWay hub told session client c up_wire down_wire)
    → let k = min (length (take n down_wire)) (room_of client) in
    let client_later = client_takes (take n down_wire) client in
    let later : Connection = record c { input = c.input ++ take k down_wire } in
    (client_later.connection ≡ Some later) × (after : IsUnderWay hub told session client_later later up_wire (drop k down_wire)) × AreTheSame before after

-- a front of a client's output goes onto the wire
abbrev pub ClientsGiveOctets : Type 0
ClientsGiveOctets = (hub : Hub) (n : ℕ) (told : List (ℕ × ℕ)) (session : Session) (client : Client) (c : Connection) (up_wire down_wire : List ℕ) → client.connection ≡ Some c
    → (before : IsUnderWay hub told session client c up_wire down_wire)
    → let client_later = client_gives n client in
    let later : Connection = record c { output = drop n c.output } in
    (client_later.connection ≡ Some later) × (after : IsUnderWay hub told session client_later later (up_wire ++ take n c.output) down_wire) × AreTheSame before after

-- ---- what was taken

-- the octets of the messages taken, and those that come down, are as many as those of what was made
abbrev pub TakenIsCounted : Type 0
TakenIsCounted = (e : BothEnds) (up down : List ℕ) (i : InFlight e up down) → size_of_made i.taken + length down ≡ size_of_made e.made

-- where more was made, or nothing, and just its octets come down besides, the same messages were taken
abbrev pub TakenStays : Type 0
TakenStays = (e later : BothEnds) (up down up_later down_later : List ℕ) (more : List Made) → later.made ≡ e.made ++ more → length down_later ≡ length down + size_of_made more
    → (i : InFlight e up down) (j : InFlight later up_later down_later) → j.taken ≡ i.taken

-- behind a call of `give`, and behind each other call, of a session whose number was given out: the client has taken the same messages
abbrev pub GivesTakeNothing : Type 0
GivesTakeNothing = (hub : Hub) (number room : ℕ) (told : List (ℕ × ℕ)) (session : Session) (client : Client) (c : Connection) (up_wire down_wire : List ℕ)
    → number < hub.numbers_given → session_of hub number ≡ Some session → (before : IsUnderWay hub told session client c up_wire down_wire)
    → (behind : BehindGiving (give hub number room) number told client c up_wire down_wire) → behind.flight.taken ≡ before.taken

abbrev pub OtherCallsTakeNothing : Type 0
OtherCallsTakeNothing = (hub : Hub) (call : HubCall) (number : ℕ) (told : List (ℕ × ℕ)) (session later : Session) (client : Client) (c : Connection) (up_wire down_wire : List ℕ)
    → IsOfOthers number call → number < hub.numbers_given → session_of hub number ≡ Some session → session_of (called call hub) number ≡ Some later
    → (before : IsUnderWay hub told session client c up_wire down_wire) (after : IsUnderWay (called call hub) told later client c up_wire down_wire) → after.taken ≡ before.taken
