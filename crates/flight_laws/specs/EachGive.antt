-- What is under way still fits behind each call of `give`, whatever the session does: it reacts to a message of the client, packs a
-- PUSH, stops, hands on octets, or does nothing.
--     ReactingGivesLeaveIt      a live session reacts to the first message that is whole in its input
--     GivesLeaveIt      any call
use Rattle.std.specs.Prelude.{◌≡◌, ℕ, List, [], Some}
use Rattle.dsotlv.specs.Messages.{first_message}
use Rattle.pushsession.specs.declared.session_status.SessionStatus.TheVariants.{Live}
use Rattle.pushserver.specs.Hubs.{session_of}
use Rattle.pushserver.specs.Giving.{give}
use Rattle.pushserver.specs.PlainHubs.{Session, Hub}
use Rattle.pushserver.specs.SoundHubs.{IsSoundHub}
use Rattle.pushclient.specs.Clients.{Client, Connection}
use Rattle.flight_laws.specs.Turns.{BehindGiving, StopFits}
use Rattle.inflight.specs.Flight.{IsUnderWay}

abbrev pub ReactingGivesLeaveIt : Type 0
ReactingGivesLeaveIt = (hub : Hub) (number room : ℕ) (told : List (ℕ × ℕ)) (session : Session) (client : Client) (c : Connection) (up_wire down_wire : List ℕ) (found : List ℕ × List ℕ)
    → IsSoundHub hub → session_of hub number ≡ Some session → session.standing ≡ Live → session.output ≡ [] → first_message session.input ≡ Some found
    → IsUnderWay hub told session client c up_wire down_wire → BehindGiving (give hub number room) number told client c up_wire down_wire

-- the numbers of a stop that was asked for fit their fields (RFC 8490, 6.6.1)
abbrev pub GivesLeaveIt : Type 0
GivesLeaveIt = (hub : Hub) (number room : ℕ) (told : List (ℕ × ℕ)) (session : Session) (client : Client) (c : Connection) (up_wire down_wire : List ℕ)
    → IsSoundHub hub → session_of hub number ≡ Some session → StopFits session.standing
    → IsUnderWay hub told session client c up_wire down_wire → BehindGiving (give hub number room) number told client c up_wire down_wire
