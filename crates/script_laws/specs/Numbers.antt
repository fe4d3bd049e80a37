-- The numbers of a hub's sessions, and whose they are in a world, behind calls and changes of seats and peers.
--     KeepsNumbers call      it neither connects nor ends a session
--     IsForNoOther session call      no octets in or out of another session, and not the end of one
--     CallsKeepNumbers, NewOnesAreFound, FullHubsStay      the numbers of a hub
--     CallsFit, SeatsChangeFit, SeatsComeFit, SeatsOpenFit, PeersOpenFit, SeatsAreCutFit, PeersAreCutFit      the numbers of a world still fit
--     ChangedSeatsAreFound      seats behind a change of one
--     OwnCallsAreForNoOther, OtherSeatsAvoid, SeatsAvoidPeers, AllAvoid      seats whose sessions calls aren't for
use Rattle.std.specs.Prelude.{◌≡◌, ℕ, ◌+◌, Bool, false, List, [], ◌∷◌, ◌++◌, map, Option, Some, None}
use Rattle.std.specs.List.{AllByRecursion}
use Rattle.std.specs.Str.{bytes_eq}
use Rattle.pushsession.specs.Sessions.{new_session}
use Rattle.pushserver.specs.PlainHubs.{Hub}
use Rattle.pushserver.specs.Hubs.{now, keeps_now, session_of, connect}
use Rattle.pushserver.specs.Calls.{HubCall, connects, takes, gives, ends, after_calls}
use Rattle.scripts.specs.Lines.{Word}
use Rattle.replay.specs.World.{World, Seat, new_seat, seat_of, with_seat, session_number, cut_connection, cut_peer}
use Rattle.replay.specs.Promises.{NumbersFit}
use Rattle.script_laws.specs.Reached.{IsReached, AreFor, Avoids}

-- ---- the hub

abbrev pub numbers_in : Hub → List ℕ
numbers_in hub = map (λ e. e.0) hub.sessions

abbrev pub KeepsNumbers : HubCall → Type 0
KeepsNumbers connects = ⊥
KeepsNumbers (ends number) = ⊥
KeepsNumbers _ = Unit {0}

abbrev pub KeepNumbers : List HubCall → Type 0
KeepNumbers calls = AllByRecursion KeepsNumbers calls

abbrev pub CallsKeepNumbers : Type 0
CallsKeepNumbers = (hub : Hub) (calls : List HubCall) → KeepNumbers calls → (numbers_in (after_calls calls hub) ≡ numbers_in hub) × ((after_calls calls hub).numbers_given ≡ hub.numbers_given)

-- a new session has the number that is given next, which no session had, and stands last
pub record IsNewIn (hub : Hub) (number : ℕ) : Type 0 where
  pub next : number ≡ hub.numbers_given
  pub fresh : session_of hub number ≡ None
  pub there : session_of (connect hub).1 number ≡ Some (new_session (keeps_now hub) (now hub))
  pub numbers : numbers_in (connect hub).1 ≡ numbers_in hub ++ number ∷ []
  pub given : (connect hub).1.numbers_given ≡ hub.numbers_given + 1

abbrev pub NewOnesAreFound : Type 0
NewOnesAreFound = (hub : Hub) (number : ℕ) → IsReached hub → (connect hub).0 ≡ Some number → IsNewIn hub number

-- where none is connected the hub stays
abbrev pub FullHubsStay : Type 0
FullHubsStay = (hub : Hub) → (connect hub).0 ≡ None → (connect hub).1 ≡ hub

-- ---- the world

abbrev pub CallsFit : Type 0
CallsFit = (world : World) (calls : List HubCall) → KeepNumbers calls → NumbersFit world → NumbersFit (record world { hub = after_calls calls world.hub })

-- a seat with the same word and the same session stands in the place of one
abbrev pub SeatsChangeFit : Type 0
SeatsChangeFit = (world : World) (w : Word) (seat later : Seat) → seat_of world w ≡ Some seat → later.word ≡ seat.word → later.session ≡ seat.session
    → NumbersFit world → NumbersFit (with_seat later world)

-- a seat more, whose word nobody has
abbrev pub SeatsComeFit : Type 0
SeatsComeFit = (world : World) (w : Word) (is_lone : Bool) → seat_of world w ≡ None → session_number world w ≡ None
    → NumbersFit world → NumbersFit (record world { seats = world.seats ++ new_seat w is_lone ∷ [] })

-- a seat without a session gets a new one
abbrev pub SeatsOpenFit : Type 0
SeatsOpenFit = (world : World) (w : Word) (seat later : Seat) (number : ℕ) → seat_of world w ≡ Some seat → seat.session ≡ None → (connect world.hub).0 ≡ Some number
    → later.word ≡ seat.word → later.session ≡ Some number → NumbersFit world → NumbersFit (with_seat later (record world { hub = (connect world.hub).1 }))

-- a new session is that of a peer more, whose word nobody has
abbrev pub PeersOpenFit : Type 0
PeersOpenFit = (world : World) (w : Word) (number : ℕ) → seat_of world w ≡ None → session_number world w ≡ None → (connect world.hub).0 ≡ Some number
    → NumbersFit world → NumbersFit (record world { hub = (connect world.hub).1; peers = world.peers ++ (w, number) ∷ [] })

-- the connection of a seat is cut, if it has one
abbrev pub SeatsAreCutFit : Type 0
SeatsAreCutFit = (world : World) (w : Word) (seat later : Seat) → seat_of world w ≡ Some seat → later.word ≡ seat.word → later.session ≡ seat.session
    → NumbersFit world → NumbersFit (cut_connection later world)

-- a peer is cut, if there is one
abbrev pub PeersAreCutFit : Type 0
PeersAreCutFit = (world : World) (w : Word) → NumbersFit world → NumbersFit (cut_peer w world)

-- a seat with the same word is found in its place, and others as before
abbrev pub ChangedSeatsAreFound : Type 0
ChangedSeatsAreFound = (world : World) (w : Word) (seat later : Seat) → seat_of world w ≡ Some seat → later.word ≡ seat.word
    → (seat_of (with_seat later world) w ≡ Some later) × ((v : Word) → bytes_eq v w ≡ false → seat_of (with_seat later world) v ≡ seat_of world v)

-- ---- whom calls are for

-- no octets in or out of another session than this one, and not the end of another; where there is none, of any
abbrev pub IsForNoOther : Option ℕ → HubCall → Type 0
IsForNoOther session (takes other piece) = session ≡ Some other
IsForNoOther session (gives other room) = session ≡ Some other
IsForNoOther session (ends other) = session ≡ Some other
IsForNoOther session _ = Unit {0}

abbrev pub AreForNoOther : Option ℕ → List HubCall → Type 0
AreForNoOther session calls = AllByRecursion (IsForNoOther session) calls

-- calls for a session alone are for no other, and leave the numbers
abbrev pub OwnCallsAreForNoOther : Type 0
OwnCallsAreForNoOther = (number : ℕ) (calls : List HubCall) → AreFor number calls → AreForNoOther (Some number) calls × KeepNumbers calls

-- what is for no session is avoided by each
abbrev pub AllAvoid : Type 0
AllAvoid = (session : Option ℕ) (calls : List HubCall) → AreForNoOther None calls → Avoids session calls

-- what is for no other session than that of one seat is avoided by the seats with other words
abbrev pub OtherSeatsAvoid : Type 0
OtherSeatsAvoid = (world : World) (w : Word) (seat : Seat) (calls : List HubCall) → NumbersFit world → seat_of world w ≡ Some seat → AreForNoOther seat.session calls
    → AllByRecursion (λ s. bytes_eq s.word w ≡ false → Avoids s.session calls) world.seats

-- what is for no other session than that of a peer is avoided by each seat
abbrev pub SeatsAvoidPeers : Type 0
SeatsAvoidPeers = (world : World) (w : Word) (calls : List HubCall) → NumbersFit world → AreForNoOther (session_number world w) calls
    → AllByRecursion (λ s. Avoids s.session calls) world.seats
