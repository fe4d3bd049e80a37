-- Octets come down: they go into the client as it has room, and it steps until it waits or has closed.
--     joined-fed      behind octets that go in
--     downs-pass, downs-wait
use Rattle.std.proofs.Common.{◌≡◌, ℕ, zero, suc, ◌+◌, ◌-◌, ◌≤◌, ◌==◌, Bool, true, false, ◌||◌, cond, List, [], ◌++◌, length, take, drop, min, Option, Some, None, sym, ap, ◌∙◌, subst, refl, arith, le_trans}
use Rattle.std.specs.Prelude.{is_some}
use Rattle.std.specs.List.{AllByRecursion}
use Rattle.std.proofs.lemmas.List.{length-append, length-take, length-drop, take-append-le, drop-append-le, drop-drop, take-append-drop}
use Rattle.push_base.specs.Limits.{max_input}
use Rattle.dsosession.specs.declared.session.CloseReason.{CloseReason}
use Rattle.pushserver.specs.PlainHubs.{Hub, Session, size_of_made}
use Rattle.pushclient.specs.Clients.{Client, Connection, room_of, take_octets}
use Rattle.pushclient.proofs.SoundWishes.{some_is}
use Rattle.inflight.specs.Flight.{IsUnderWay}
use Rattle.flight_laws.proofs.OctetCalls.{clients-take}
use Rattle.replay.specs.PassedOctets.{Delivered, delivered, enough, stepped}
use Rattle.replay.specs.World.{Seat}
use Rattle.replay.specs.Promises.{ShownPoints, ShowsNoLater, point_taken}
use Rattle.script_laws.specs.Reached.{IsReached, ReachedSessions}
use Rattle.script_laws.specs.Joined.{IsJoined, Waits}
use Rattle.script_laws.specs.Walk.{Keeps, OfDowns, DownsWait}
use Rattle.script_laws.specs.Turns.{owes}
use Rattle.script_laws.proofs.turns.Owing.{takes-owe}
use Rattle.script_laws.proofs.downs.Stepping.{TakesAll, joined-stepped}
use Rattle.script_laws.proofs.downs.Stops.{IsNoStop}

-- octets go from the downward wire into the client
abbrev fed : ℕ → Seat → Seat
fed k seat = record seat { client = take_octets (take k seat.down_wire) seat.client; down_wire = drop k seat.down_wire; reached = seat.reached + k }

abbrev room_on : Option Connection → ℕ
room_on o = elim o as (λ _. ℕ) [ None ↦ 0 | Some c ↦ max_input - length c.input ]

abbrev open_by : Option Connection → Option Connection
open_by o = elim o as (λ _. Option Connection) [ None ↦ None | Some c ↦ cond (is_some c.closed) None (Some c) ]

-- what waits at a client, and what it has room for, is no more than may
room-fits : (client : Client) (c : Connection) → client.connection ≡ Some c → length c.input ≤ max_input → length c.input + room_of client ≤ max_input
room-fits client c there within = subst (λ n. length c.input + n ≤ max_input) (sym (ap (λ (o : Option Connection). room_on (open_by o)) there)) (by c.closed)
  where
    by : (o : Option CloseReason) → length c.input + room_on (cond {A = Option Connection} (is_some o) None (Some c)) ≤ max_input
    by None = omega (arith, within)
    by (Some reason) = omega (arith, within)

module _ (hub : Hub) (shown : ShownPoints) (seat : Seat) (number : ℕ) (session : Session) (c : Connection) (j : IsJoined hub shown seat number session c) (k : ℕ)
    (there : k ≤ length seat.down_wire) (room : k ≤ room_of seat.client) where
  abbrev fuller : ℕ → Connection
  fuller m = record c { input = c.input ++ take m seat.down_wire }

  -- so many octets of the wire go in, all that are brought
  record GoesIn (m : ℕ) : Type 0 where
    connected : (take_octets (take k seat.down_wire) seat.client).connection ≡ Some (fuller m)
    flight : IsUnderWay hub seat.filled session (take_octets (take k seat.down_wire) seat.client) (fuller m) seat.up_wire (drop m seat.down_wire)
    taken : flight.taken ≡ j.flight.taken

  goes-in : GoesIn k
  goes-in =
      let all = clients-take hub k seat.filled session seat.client c seat.up_wire seat.down_wire j.connected j.flight in
      subst GoesIn (whole (length (take k seat.down_wire)) (room_of seat.client) (length seat.down_wire) (length-take k seat.down_wire) there room) (record { connected = all.0; flight = all.1; taken = all.2.taken })
    where
      whole : (piece most wire : ℕ) → piece ≡ min k wire → k ≤ wire → k ≤ most → min piece most ≡ k
      whole piece most wire is low high = omega (arith, is, low, high)

  pub joined-fed : IsJoined hub shown (fed k seat) number session (fuller k)
  joined-fed =
      let inside = length-append c.input (take k seat.down_wire) in
      let piece = length-take k seat.down_wire in
      record {
        there = j.there;
        connected = goes-in.connected;
        flight = goes-in.flight;
        reached = (let same = ap size_of_made goes-in.taken in omega (arith, same, inside, piece, there, j.reached));
        up_wire = j.up_wire;
        down_wire = omega (arith, length-drop k seat.down_wire, j.down_wire);
        input = omega (arith, inside, piece, there, room, room-fits seat.client c j.connected j.input);
        octets = j.octets;
        ended = j.ended;
        closed = j.closed;
        unstopped = λ still. subst (AllByRecursion IsNoStop) (sym goes-in.taken) (j.unstopped still);
        start = j.start;
        began = j.began;
        shown_before = subst (λ taken. ShowsNoLater shown (point_taken j.start taken)) (sym goes-in.taken) j.shown_before;
      }

-- ---- all that have room

-- the seat, with what was delivered so far
abbrev after : Seat → Delivered → Seat
after seat so_far = record seat { client = so_far.client; down_wire = drop so_far.count seat.down_wire; reached = seat.reached + so_far.count }

module _ (sessions : ReachedSessions) (hub : Hub) (shown : ShownPoints) (seat : Seat) (number : ℕ) (session : Session) (reached : IsReached hub) (Waited : Type 0) where
  -- and it waits, if it did before, and owes no more than before
  pub record Delivers (so_far : Delivered) : Type 0 where
    pub connection : Connection
    pub joined : IsJoined hub shown (after seat so_far) number session connection
    pub waits : Waited → Waits connection
    pub within : so_far.count ≤ length seat.down_wire
    pub owed : owes so_far.client ≤ owes seat.client

  module _ (octets behind : List ℕ) (so_far : Delivered) (whole : octets ++ behind ≡ drop so_far.count seat.down_wire) (d : Delivers so_far) where
    abbrev k : ℕ
    k = min (length octets) (room_of so_far.client)

    abbrev later : Delivered
    later = record { client = stepped enough (take_octets (take k octets) so_far.client); count = so_far.count + k; left = drop k octets }

    few : k ≤ length octets
    few = omega arith

    lies-there : k ≤ length (drop so_far.count seat.down_wire)
    lies-there = omega (arith, few, ap length whole, length-append octets behind)

    front : take k (drop so_far.count seat.down_wire) ≡ take k octets
    front = sym (ap (take k) whole) ∙ take-append-le k octets behind few

    left : drop k octets ++ behind ≡ drop later.count seat.down_wire
    left = sym (drop-append-le k octets behind few) ∙ ap (drop k) whole ∙ drop-drop k so_far.count seat.down_wire

    abbrev fed_connection : Connection
    fed_connection = record d.connection { input = d.connection.input ++ take k (drop so_far.count seat.down_wire) }

    fed-joined : IsJoined hub shown (fed k (after seat so_far)) number session fed_connection
    fed-joined = joined-fed hub shown (after seat so_far) number session d.connection d.joined k lies-there (omega arith)

    stepped-joined : TakesAll sessions hub shown number session reached (fed k (after seat so_far)) (stepped enough (fed k (after seat so_far)).client)
    stepped-joined = joined-stepped sessions hub shown number session reached enough (fed k (after seat so_far)) fed_connection fed-joined (omega (arith, fed-joined.input))

    turned : Delivers later
    turned = record {
      connection = stepped-joined.connection;
      joined = subst (λ (x : Client × List ℕ × ℕ). IsJoined hub shown (record seat { client = x.0; down_wire = x.1; reached = x.2 }) number session stepped-joined.connection)
          (λ i. (stepped enough (take_octets (front i) so_far.client), drop-drop k so_far.count seat.down_wire i, sums seat.reached so_far.count k i)) stepped-joined.joined;
      waits = λ waited. stepped-joined.waits;
      within = fits so_far.count k (length seat.down_wire) (length (drop so_far.count seat.down_wire)) lies-there (length-drop so_far.count seat.down_wire) d.within;
      owed = le_trans (subst (λ (os : List ℕ). owes (stepped enough (take_octets os so_far.client)) ≤ owes (take_octets os so_far.client)) front stepped-joined.owed)
          (subst (λ n. n ≤ owes seat.client) (sym (takes-owe (take k octets) so_far.client)) d.owed);
    }
      where
        sums : (a b c : ℕ) → a + b + c ≡ a + (b + c)
        sums a b c = omega arith

        fits : (count k wire left : ℕ) → k ≤ left → left ≡ wire - count → count ≤ wire → count + k ≤ wire
        fits count k wire left low is high = omega (arith, low, is, high)

  all-delivered : (turns : ℕ) (octets behind : List ℕ) (so_far : Delivered) → octets ++ behind ≡ drop so_far.count seat.down_wire → Delivers so_far → Delivers (delivered turns octets so_far)
  all-delivered zero octets behind so_far whole d = d
  all-delivered (suc turns) octets behind so_far whole d =
      by (k octets behind so_far whole d == 0 || k octets behind so_far whole d == length octets)
      (all-delivered turns (drop (k octets behind so_far whole d) octets) behind (later octets behind so_far whole d) (left octets behind so_far whole d) (turned octets behind so_far whole d))
    where
      by : (b : Bool) → Delivers (delivered turns (drop (k octets behind so_far whole d) octets) (later octets behind so_far whole d))
          → Delivers (elim b as (λ _. Delivered) [ true ↦ later octets behind so_far whole d | false ↦ delivered turns (drop (k octets behind so_far whole d) octets) (later octets behind so_far whole d) ])
      by true others = turned octets behind so_far whole d
      by false others = others

-- ---- the laws

abbrev pub begun : ℕ → Seat → Delivered
begun n seat = record { client = seat.client; count = 0; left = take n seat.down_wire }

pub delivers : (sessions : ReachedSessions) (n number : ℕ) (hub : Hub) (shown : ShownPoints) (seat : Seat) (session : Session) (c : Connection) (reached : IsReached hub) → IsJoined hub shown seat number session c
    → Delivers sessions hub shown seat number session reached (Waits c) (delivered enough (take n seat.down_wire) (begun n seat))
delivers sessions n number hub shown seat session c reached j =
    all-delivered sessions hub shown seat number session reached (Waits c) enough (take n seat.down_wire) (drop n seat.down_wire) (begun n seat) (take-append-drop n seat.down_wire) (record {
      connection = c;
      joined = subst (λ m. IsJoined hub shown (record seat { reached = m }) number session c) (none-more seat.reached) j;
      waits = λ waited. waited;
      within = omega arith;
      owed = omega arith;
    })
  where
    none-more : (m : ℕ) → m ≡ m + 0
    none-more m = omega arith

pub downs-pass : ReachedSessions → OfDowns Keeps
downs-pass sessions n number world shown seat session c reached j =
    let all = delivers sessions n number world.hub shown seat session c reached j in
    record {
      calls = [];
      fit = tt;
      own = tt;
      world_is = refl;
      word = refl;
      lone = refl;
      session = refl;
      later = session;
      connection = all.connection;
      joined = all.joined;
      waits = all.waits;
      over = λ reason is. absurd cc;
    }

pub downs-wait : ReachedSessions → DownsWait
downs-wait sessions n number world shown seat session c later reached j waited there =
    let p = downs-pass sessions n number world shown seat session c reached j in
    subst Waits (some_is p.connection later (sym p.joined.connected ∙ there)) (p.waits waited)
