-- What the other calls of the hub do to a session and its client: updates, datagrams, moments, connections, stops, of this session too,
-- and what comes for other sessions, is given of them, or ends them. What is under way still fits.
--     IsOfOthers number call      a call that neither brings octets to the session of this number, nor gives of it, nor ends its connection
--     OtherCallsLeaveIt      each such call
use Rattle.std.specs.Prelude.{◌≡◌, ℕ, List, Some}
use Rattle.pushserver.specs.Calls.{HubCall, takes, gives, ends, called}
use Rattle.pushserver.specs.Hubs.{session_of}
use Rattle.pushserver.specs.PlainHubs.{Session, Hub}
use Rattle.pushclient.specs.Clients.{Client, Connection}
use Rattle.inflight.specs.Flight.{IsUnderWay}

abbrev pub IsOfOthers : ℕ → HubCall → Type 0
IsOfOthers number (takes other piece) = number ≡ other → ⊥
IsOfOthers number (gives other room) = number ≡ other → ⊥
IsOfOthers number (ends other) = number ≡ other → ⊥
IsOfOthers number _ = Unit {0}

-- the session is there after the call, and what is under way still fits both ends; an entry or a moment may end it, and a stop may be asked of it
abbrev pub OtherCallsLeaveIt : Type 0
OtherCallsLeaveIt = (hub : Hub) (call : HubCall) (number : ℕ) (told : List (ℕ × ℕ)) (session : Session) (client : Client) (c : Connection) (up_wire down_wire : List ℕ)
    → IsOfOthers number call → session_of hub number ≡ Some session → IsUnderWay hub told session client c up_wire down_wire
    → (later : Session) × (session_of (called call hub) number ≡ Some later) × IsUnderWay (called call hub) told later client c up_wire down_wire
