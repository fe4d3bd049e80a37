-- A world still stands where calls that are for one session alone, or for none, changed its hub, and one seat changed with them.
--     SeatsPass      the seat keeps its session
--     HubsGoOn      no seat changes
--     SeatsOpen      the seat gets a new session
--     SeatsAreCut, PeersAreCut, SeatsPassAndAreCut      the connection of a seat, or of a peer, is cut; a seat passes octets, and is cut
use Rattle.std.specs.Prelude.{◌≡◌, ℕ, List, [], ◌∷◌, ◌++◌, Some, None}
use Rattle.pushserver.specs.Hubs.{connect}
use Rattle.pushserver.specs.Calls.{HubCall, after_calls}
use Rattle.scripts.specs.Lines.{Word}
use Rattle.replay.specs.World.{World, Seat, seat_of, with_seat, session_number, cut_seat, cut_connection, cut_peer, hub_without}
use Rattle.script_laws.specs.Reached.{FitCalls}
use Rattle.script_laws.specs.Numbers.{KeepNumbers, AreForNoOther}
use Rattle.script_laws.specs.Joined.{SeatStands, ShownToEach, WorldStands}

-- a seat passes octets, or is asked for something: calls for its session alone, if it has one
abbrev pub SeatsPass : Type 0
SeatsPass = (shown : ShownToEach) (world : World) (w : Word) (seat later : Seat) (calls : List HubCall) → WorldStands shown world → seat_of world w ≡ Some seat → later.word ≡ seat.word → later.session ≡ seat.session
    → FitCalls calls → KeepNumbers calls → AreForNoOther seat.session calls → SeatStands (after_calls calls world.hub) (shown seat.word) later
    → WorldStands shown (with_seat later (record world { hub = after_calls calls world.hub }))

-- calls for no session, or for that of a peer
abbrev pub HubsGoOn : Type 0
HubsGoOn = (shown : ShownToEach) (world : World) (w : Word) (calls : List HubCall) → WorldStands shown world → FitCalls calls → KeepNumbers calls → AreForNoOther (session_number world w) calls
    → WorldStands shown (record world { hub = after_calls calls world.hub })

-- a seat without a session gets a new one
abbrev pub SeatsOpen : Type 0
SeatsOpen = (shown : ShownToEach) (world : World) (w : Word) (seat later : Seat) (number : ℕ) → WorldStands shown world → seat_of world w ≡ Some seat → seat.session ≡ None → (connect world.hub).0 ≡ Some number
    → later.word ≡ seat.word → later.session ≡ Some number → SeatStands (connect world.hub).1 (shown seat.word) later
    → WorldStands shown (with_seat later (record world { hub = (connect world.hub).1 }))

-- a peer more, whose word nobody has, gets one
abbrev pub PeersOpen : Type 0
PeersOpen = (shown : ShownToEach) (world : World) (w : Word) (number : ℕ) → WorldStands shown world → seat_of world w ≡ None → session_number world w ≡ None → (connect world.hub).0 ≡ Some number
    → WorldStands shown (record world { hub = (connect world.hub).1; peers = world.peers ++ (w, number) ∷ [] })

-- the seat that is cut stands alone
abbrev pub SeatsAreCut : Type 0
SeatsAreCut = (shown : ShownToEach) (world : World) (w : Word) (seat later : Seat) → WorldStands shown world → seat_of world w ≡ Some seat → later.word ≡ seat.word → later.session ≡ seat.session
    → SeatStands (hub_without seat.session world.hub) (shown seat.word) (cut_seat later) → WorldStands shown (cut_connection later world)

-- the seat passes octets, and then is cut
abbrev pub SeatsPassAndAreCut : Type 0
SeatsPassAndAreCut = (shown : ShownToEach) (world : World) (w : Word) (seat later : Seat) (calls : List HubCall) → WorldStands shown world → seat_of world w ≡ Some seat → later.word ≡ seat.word → later.session ≡ seat.session
    → FitCalls calls → KeepNumbers calls → AreForNoOther seat.session calls → SeatStands (hub_without seat.session (after_calls calls world.hub)) (shown seat.word) (cut_seat later)
    → WorldStands shown (cut_connection later (with_seat later (record world { hub = after_calls calls world.hub })))

abbrev pub PeersAreCut : Type 0
PeersAreCut = (shown : ShownToEach) (world : World) (w : Word) → WorldStands shown world → WorldStands shown (cut_peer w world)
