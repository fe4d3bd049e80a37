-- Octets pass from the client onto its wire, and from there into the session.
--     octets-of-front, octets-of-rest      both parts of octets are octets
--     same-taken      what follows where the same messages were taken
--     says-pass, ups-pass
use Rattle.std.proofs.Common.{◌≡◌, ℕ, ◌+◌, ◌-◌, ◌≤◌, ◌<◌, List, [], ◌∷◌, ◌++◌, length, take, drop, min, Option, Some, None, refl, sym, ◌∙◌, ap, subst, arith, length-take, length-drop, length-append, take-append-drop, append_assoc}
use Rattle.std.proofs.Math.Seq.{take-append_seam, drop-append_seam}
use Rattle.std.proofs.lemmas.List.{take_min}
use Rattle.std.proofs.lemmas.List.Elements.{All-append, All-take, All-drop}
use Rattle.std.specs.List.{AllByRecursion}
use Rattle.dsotlv.specs.Laws.{AreOctets}
use Rattle.dsotlv.specs.Answers.{stop_message}
use Rattle.pushsession.specs.Sessions.{room_of}
use Rattle.pushserver.specs.PlainHubs.{Session, Hub, Made, size_of_made}
use Rattle.pushserver.specs.Hubs.{session_of, taken_by, take_octets}
use Rattle.pushserver.specs.Calls.{HubCall, takes}
use Rattle.pushclient.specs.Clients.{Connection, output_of, give_octets}
use Rattle.inflight.specs.Flight.{IsUnderWay}
use Rattle.flight_laws.specs.GoesOn.{AreTheSame}
use Rattle.flight_laws.proofs.OctetCalls.{sessions-take, clients-give}
use Rattle.replay.specs.World.{World, Seat}
use Rattle.replay.specs.PassedOctets.{Passed, passed, max_wire}
use Rattle.replay.specs.Promises.{ShownPoints, ShowsNoLater, point_taken}
use Rattle.script_laws.specs.Reached.{BegunOnesGoOn, FitCalls}
use Rattle.script_laws.specs.Joined.{IsJoined, PassesSo}
use Rattle.script_laws.specs.Walk.{Keeps, OfSays, OfUps}

abbrev IsOctet : ℕ → Type 0
IsOctet o = o < 256

-- ---- parts of octets

pub octets-of-front : (xs ys : List ℕ) → AreOctets (xs ++ ys) → AreOctets xs
octets-of-front xs ys all = subst AreOctets (take-append_seam xs ys) (All-take IsOctet (length xs) (xs ++ ys) all)

pub octets-of-rest : (xs ys : List ℕ) → AreOctets (xs ++ ys) → AreOctets ys
octets-of-rest xs ys all = subst AreOctets (drop-append_seam xs ys) (All-drop IsOctet (length xs) (xs ++ ys) all)

-- a front goes from one list to the end of the one before it
moved-over : (xs ys : List ℕ) (k : ℕ) → (xs ++ take k ys) ++ drop k ys ≡ xs ++ ys
moved-over xs ys k = append_assoc xs (take k ys) (drop k ys) ∙ ap (λ (zs : List ℕ). xs ++ zs) (take-append-drop k ys)

-- ---- what follows where the same messages were taken

-- none of them asks to stop
abbrev pub AskNoStop : List Made → Type 0
AskNoStop made = AllByRecursion (λ m. (rcode delay : ℕ) → m.message ≡ stop_message rcode delay → ⊥) made

pub record SameTaken (shown : ShownPoints) (seat : Seat) (c : Connection) (start : ℕ) (taken : List Made) : Type 0 where
  pub reached : seat.reached ≡ size_of_made taken + length c.input
  pub unstopped : c.closed ≡ None → AskNoStop taken
  pub shown_before : ShowsNoLater shown (point_taken start taken)

pub same-taken : (hub : Hub) (shown : ShownPoints) (seat : Seat) (number : ℕ) (session : Session) (c : Connection) (j : IsJoined hub shown seat number session c) (taken : List Made) → taken ≡ j.flight.taken
    → SameTaken shown seat c j.start taken
same-taken hub shown seat number session c j taken same = subst (SameTaken shown seat c j.start) (sym same) (record { reached = j.reached; unstopped = j.unstopped; shown_before = j.shown_before })

-- ---- onto the wire

module _ (number : ℕ) (world : World) (shown : ShownPoints) (seat : Seat) (session : Session) (c : Connection) (j : IsJoined world.hub shown seat number session c) where
  abbrev said : ℕ → List ℕ → Passed
  said k piece = passed world (record seat { client = give_octets k seat.client; up_wire = seat.up_wire ++ piece }) k

  says-many : (k : ℕ) → length (seat.up_wire ++ take k c.output) ≤ max_wire → PassesSo number world shown seat c (said k (take k c.output))
  says-many k short =
      let gave = clients-give world.hub k seat.filled session seat.client c seat.up_wire seat.down_wire j.connected j.flight in
      let same = same-taken world.hub shown seat number session c j gave.1.taken gave.2.taken in
      record {
        calls = [];
        fit = tt;
        own = tt;
        world_is = refl;
        word = refl;
        lone = refl;
        session = refl;
        later = session;
        connection = record c { output = drop k c.output };
        joined = record {
          there = j.there;
          connected = gave.0;
          flight = gave.1;
          reached = same.reached;
          unstopped = same.unstopped;
          up_wire = short;
          down_wire = j.down_wire;
          input = j.input;
          octets = subst AreOctets (sym (moved-over seat.up_wire c.output k)) j.octets;
          ended = j.ended;
          closed = j.closed;
          start = j.start;
          began = j.began;
          shown_before = same.shown_before;
        };
        waits = λ waits. waits;
        over = λ reason none. absurd cc;
      }

  -- no more than the wire has room for
  fits-wire : (most wire n size piece : ℕ) → wire ≤ most → piece ≡ min (min n (most - wire)) size → wire + piece ≤ most
  fits-wire most wire n size piece short is = omega (arith, short, is)

  says-front : (m : ℕ) → length seat.up_wire + length (take m c.output) ≤ max_wire → PassesSo number world shown seat c (said (length (take m c.output)) (take m c.output))
  says-front m short =
      let k = length (take m c.output) in
      let same : take k c.output ≡ take m c.output = ap (λ n. take n c.output) (length-take m c.output) ∙ take_min m c.output in
      let fits : length (seat.up_wire ++ take k c.output) ≤ max_wire = subst (λ n. n ≤ max_wire) (sym (ap (λ (os : List ℕ). length (seat.up_wire ++ os)) same ∙ length-append seat.up_wire (take m c.output))) short in
      subst (λ (piece : List ℕ). PassesSo number world shown seat c (said k piece)) same (says-many k fits)

  says-output : (n : ℕ) (output : List ℕ) → output ≡ c.output
      → let piece = take (min n (max_wire - length seat.up_wire)) output in PassesSo number world shown seat c (said (length piece) piece)
  says-output n output is =
      let m : ℕ = min n (max_wire - length seat.up_wire) in
      subst (λ (os : List ℕ). PassesSo number world shown seat c (said (length (take m os)) (take m os))) (sym is)
      (says-front m (fits-wire max_wire (length seat.up_wire) n (length c.output) (length (take m c.output)) j.up_wire (length-take m c.output)))

pub says-pass : OfSays Keeps
says-pass n number world shown seat session c reached j =
    says-output number world shown seat session c j n (output_of seat.client) (ap (λ (o : Option Connection). elim o as (λ _. List ℕ) [ None ↦ [] | Some d ↦ d.output ]) j.connected)

-- ---- into the session

module _ (begun-on : BegunOnesGoOn) where
  module _ (number : ℕ) (world : World) (shown : ShownPoints) (seat : Seat) (session : Session) (c : Connection) (j : IsJoined world.hub shown seat number session c) where
    abbrev rose : ℕ → Passed
    rose k = passed (record world { hub = take_octets world.hub number (take k seat.up_wire) }) (record seat { up_wire = drop k seat.up_wire }) k

    -- the session has taken so many octets
    abbrev Took : ℕ → ℕ → Type 0
    Took k m =
        let hub_later : Hub = take_octets world.hub number (take k seat.up_wire) in
        let later : Session = record session { input = session.input ++ take m seat.up_wire } in
        (session_of hub_later number ≡ Some later) × (after : IsUnderWay hub_later seat.filled later seat.client c (drop m seat.up_wire) seat.down_wire) × AreTheSame j.flight after

    ups-many : (k : ℕ) → taken_by world.hub number (take k seat.up_wire) ≡ k → PassesSo number world shown seat c (rose k)
    ups-many k all =
        let took : Took k k = subst (Took k) all (sessions-take world.hub number k seat.filled session seat.client c seat.up_wire seat.down_wire j.there j.flight) in
        let same = same-taken world.hub shown seat number session c j took.1.taken took.2.taken in
        let calls : List HubCall = takes number (take k seat.up_wire) ∷ [] in
        let octets : AreOctets seat.up_wire = octets-of-front seat.up_wire c.output j.octets in
        let fits : FitCalls calls = ((All-take IsOctet k seat.up_wire octets, tt), tt) in
        record {
          calls = calls;
          fit = fits;
          own = (refl, tt);
          world_is = refl;
          word = refl;
          lone = refl;
          session = refl;
          later = record session { input = session.input ++ take k seat.up_wire };
          connection = c;
          joined = record {
            there = took.0;
            connected = j.connected;
            flight = took.1;
            reached = same.reached;
            unstopped = same.unstopped;
            up_wire = fewer max_wire (length seat.up_wire) k (length (drop k seat.up_wire)) j.up_wire (length-drop k seat.up_wire);
            down_wire = j.down_wire;
            input = j.input;
            octets = All-append IsOctet (drop k seat.up_wire) c.output (All-drop IsOctet k seat.up_wire octets) (octets-of-rest seat.up_wire c.output j.octets);
            ended = j.ended;
            closed = j.closed;
            start = j.start;
            began = begun-on world.hub number j.start calls j.began fits;
            shown_before = same.shown_before;
          };
          waits = λ waits. waits;
          over = λ reason none. absurd cc;
        }
      where
        fewer : (most wire k left : ℕ) → wire ≤ most → left ≡ wire - k → left ≤ most
        fewer most wire k left short is = omega (arith, short, is)

    -- of a front as many octets as the call says, and of these all
    all-taken : (n : ℕ) → let k = taken_by world.hub number (take n seat.up_wire) in taken_by world.hub number (take k seat.up_wire) ≡ k
    all-taken n =
        let k : ℕ = taken_by world.hub number (take n seat.up_wire) in
        let first : k ≡ min (length (take n seat.up_wire)) (room_of session) = by_room (take n seat.up_wire) in
        by_room (take k seat.up_wire) ∙ counted (length seat.up_wire) n (room_of session) k (length (take n seat.up_wire)) (length (take k seat.up_wire)) first (length-take n seat.up_wire) (length-take k seat.up_wire)
      where
        by_room : (piece : List ℕ) → taken_by world.hub number piece ≡ min (length piece) (room_of session)
        by_room piece = ap (λ (o : Option Session). elim o as (λ _. ℕ) [ None ↦ 0 | Some s ↦ min (length piece) (room_of s) ]) j.there

        counted : (whole n room k front taken : ℕ) → k ≡ min front room → front ≡ min n whole → taken ≡ min k whole → min taken room ≡ k
        counted whole n room k front taken first is all = omega (arith, first, is, all)

  pub ups-pass : OfUps Keeps
  ups-pass n number world shown seat session c reached j = ups-many number world shown seat session c j (taken_by world.hub number (take n seat.up_wire)) (all-taken number world shown seat session c j n)
