-- What lines do, by cases: what holds of each world that a line may leave holds of the world behind it.
--     stop-does, cut-does, exchange-does, send-does      at a session
--     ask-does, open-does, feed-does      to a client
--     made_or_not hub b, has_room hub      a call that may make a session, and whether it does
--     with_peer w world      the world with one peer more
--     hub_timed t, moment_now t      the world behind the hub's moment, and that moment
use Rattle.std.proofs.Common.{◌≡◌, ℕ, ◌+◌, Bool, true, false, cond, ◌&&◌, List, [], ◌∷◌, ◌++◌, length, Option, Some, None, option_map, codes, refl}
use Rattle.std.specs.Prelude.{nat_lt}
use Rattle.push_base.specs.Limits.{max_number}
use Rattle.dsosession.specs.declared.session.EndReason.{EndReason}
use Rattle.pushserver.specs.PlainHubs.{Hub}
use Rattle.pushserver.specs.Hubs as hubs
use Rattle.pushserver.specs.Hubs.{now, connect, max_sessions}
use Rattle.pushserver.proofs.Walks.{with_new}
use Rattle.pushclient.specs.Clients.{connected, is_connected}
use Rattle.scripts.specs.Lines.{Word}
use Rattle.scripts.specs.declared.line.Call.{Call}
use Rattle.replay.specs.World.{Seat, World, seat_of, session_number, stopped_hub, cut_connection, cut_peer, with_seat}
use Rattle.replay.specs.PassedOctets.{exchanged, enough}
use Rattle.replay.specs.Text.{Printed, quietly, printing, called, asks, opens, exchanges, sends, feeds, stops, cuts, finished}
use Rattle.replay.proofs.worlds.FedSeats.{fed, fed_words, feeds_as, feeds_by}
use Rattle.replay.proofs.worlds.SeatLines.{asks_by, opens_as, opens_by}

-- the world with one peer more
abbrev pub with_peer : Word → World → World
with_peer w world = record world { hub = with_new world.hub; peers = world.peers ++ (w, world.hub.numbers_given) ∷ [] }

-- a call that may make a session: it is made, or it isn't
abbrev pub made_or_not : Hub → Bool → Option ℕ × Hub
made_or_not hub b = cond b (Some hub.numbers_given, with_new hub) (None, hub)

abbrev pub has_room : Hub → Bool
has_room hub = nat_lt (length hub.sessions) max_sessions && nat_lt hub.numbers_given max_number

-- a client that opens a connection, by such a call
abbrev hub_opened : World → Seat → Option ℕ × Hub → Printed
hub_opened world seat r = elim r.0 as (λ _. Printed) [
  | None ↦ printing (codes "noseat" ∷ seat.word ∷ []) world
  | Some number ↦ printing (codes "open" ∷ seat.word ∷ []) (with_seat (record seat { client = connected (now world.hub) seat.client; session = Some number }) (record world { hub = r.1 }))
]

-- what a peer's line does, by the session that the peer has, and by the one that is made
module _ (world : World) (w : Word) (octets : List ℕ) where
  abbrev new_place : Option ℕ × Hub → Option (ℕ × World)
  new_place r = option_map (λ number. (number, record world { hub = r.1; peers = world.peers ++ (w, number) ∷ [] })) r.0

  abbrev by_place : Option (ℕ × World) → Printed
  by_place o = elim o as (λ _. Printed) [
    | None ↦ printing (codes "noseat" ∷ w ∷ []) world
    | Some place ↦ exchanges w place.0 octets place.1
  ]

  abbrev pub by_connected : Option ℕ × Hub → Printed
  by_connected r = by_place (new_place r)

  abbrev pub by_number : Option ℕ → Printed
  by_number o = by_place (elim o as (λ _. Option (ℕ × World)) [ Some number ↦ Some (number, world) | None ↦ new_place (connect world.hub) ])

module _ (world : World) where
  abbrev pub hub_timed : ℕ → Printed
  hub_timed t = quietly (record world { hub = hubs.moment world.hub t })

  abbrev pub moment_now : ℕ → ℕ
  moment_now t = now (hubs.moment world.hub t)

  abbrev pub stopped : ℕ → ℕ → Option ℕ → World
  stopped rcode delay o = record world { hub = stopped_hub o rcode delay world.hub }

  abbrev pub exchanged_with : ℕ → List ℕ → World
  exchanged_with number octets = record world { hub = (exchanged enough number octets world.hub []).hub }

  module _ (P : World → Type 0) (w : Word) where
    -- a stop is that of a client's session, or of a peer's, if it has one
    pub stop-does : (rcode delay : ℕ) → ((seat : Seat) → seat_of world w ≡ Some seat → P (stopped rcode delay seat.session)) → P (stopped rcode delay (session_number world w)) → P (stops w rcode delay world).0
    stop-does rcode delay client_stops peer = by (seat_of world w) refl
      where
        session_by : Option Seat → Option ℕ
        session_by o = elim o as (λ _. Option ℕ) [ Some seat ↦ seat.session | None ↦ session_number world w ]

        by : (o : Option Seat) → seat_of world w ≡ o → P (stopped rcode delay (session_by o))
        by None e = peer
        by (Some seat) e = client_stops seat e

    -- a cut is that of a peer, or of a client
    pub cut-does : ((seat : Seat) → seat_of world w ≡ Some seat → P (cut_connection seat world)) → P (cut_peer w world) → P (cuts w world).0
    cut-does client_cut peer = by (seat_of world w) refl
      where
        by : (o : Option Seat) → seat_of world w ≡ o → P (elim o as (λ _. World) [ None ↦ cut_peer w world | Some seat ↦ cut_connection seat world ])
        by None e = peer
        by (Some seat) e = client_cut seat e

    -- octets go to a session and back, and where its end is told the peer is cut
    pub exchange-does : (number : ℕ) (octets : List ℕ) → P (exchanged_with number octets) → P (cut_peer w (exchanged_with number octets)) → P (exchanges w number octets world).0
    exchange-does number octets behind cut = by (exchanged enough number octets world.hub []).over
      where
        by : (o : Option EndReason) → P (elim o as (λ _. World) [ None ↦ exchanged_with number octets | Some reason ↦ cut_peer w (exchanged_with number octets) ])
        by None = behind
        by (Some reason) = cut

    -- they go to the session that the peer has, or to a new one, if there is room
    pub send-does : (octets : List ℕ) → ((number : ℕ) → session_number world w ≡ Some number → P (exchanges w number octets world).0) → P (exchanges w world.hub.numbers_given octets (with_peer w world)).0 → P world → P (sends w octets world).0
    send-does octets known new none = by (session_number world w) refl
      where
        by_room : (b : Bool) → P (by_connected world w octets (made_or_not world.hub b)).0
        by_room true = new
        by_room false = none

        by : (o : Option ℕ) → session_number world w ≡ o → P (by_number world w octets o).0
        by (Some number) e = known number e
        by None e = by_room (has_room world.hub)

    -- a call of a client
    pub ask-does : (call : Call) → P world → ((seat : Seat) → seat_of world w ≡ Some seat → P (with_seat (record seat { client = (called call seat.client).1 }) world)) → P (asks call w world).0
    ask-does call none asked = by (seat_of world w) refl
      where
        by : (o : Option Seat) → seat_of world w ≡ o → P (asks_by call w world o).0
        by None e = none
        by (Some seat) e = asked seat e

    -- the opening of its connection
    pub open-does : P world → ((seat : Seat) → seat_of world w ≡ Some seat → P (with_seat (record seat { client = connected (now world.hub) seat.client }) world))
        → ((seat : Seat) → seat_of world w ≡ Some seat → seat.is_lone ≡ false → P (with_seat (record seat { client = connected (now world.hub) seat.client; session = Some world.hub.numbers_given }) (record world { hub = with_new world.hub })))
        → P (opens w world).0
    open-does none alone joined = by (seat_of world w) refl
      where
        by_room : (seat : Seat) → seat_of world w ≡ Some seat → seat.is_lone ≡ false → (b : Bool) → P (hub_opened world seat (made_or_not world.hub b)).0
        by_room seat e hub true = joined seat e hub
        by_room seat e hub false = none

        by_seat : (seat : Seat) → seat_of world w ≡ Some seat → (is_open is_lone : Bool) → seat.is_lone ≡ is_lone → P (opens_as w world seat is_open is_lone).0
        by_seat seat e true is_lone is = none
        by_seat seat e false true is = alone seat e
        by_seat seat e false false is = by_room seat e is (has_room world.hub)

        by : (o : Option Seat) → seat_of world w ≡ o → P (opens_by w world o).0
        by None e = none
        by (Some seat) e = by_seat seat e (is_connected seat.client) seat.is_lone refl

    -- octets to it, and what follows
    pub feed-does : (octets : List ℕ) → P world → ((seat : Seat) → seat_of world w ≡ Some seat → is_connected seat.client ≡ true → P (finished (fed_words octets seat) (fed octets world seat)).0) → P (feeds w octets world).0
    feed-does octets none some = by (seat_of world w) refl
      where
        by_open : (seat : Seat) → seat_of world w ≡ Some seat → (b : Bool) → is_connected seat.client ≡ b → P (feeds_as w octets world seat b).0
        by_open seat e true connects = some seat e connects
        by_open seat e false connects = none

        by : (o : Option Seat) → seat_of world w ≡ o → P (feeds_by w octets world o).0
        by None e = none
        by (Some seat) e = by_open seat e (is_connected seat.client) refl
