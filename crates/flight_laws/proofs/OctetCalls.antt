-- Octets pass by the calls of either end, and what is under way stays the same.
--     sessions-take, clients-take, clients-give
use Rattle.std.proofs.Common.{◌≡◌, ℕ, ◌≤◌, List, ◌++◌, length, take, drop, min, Option, Some, None, sym, ap, ◌∙◌, refl, arith, length-take, take-take}
use Rattle.std.specs.Prelude.{option_map}
use Rattle.std.proofs.lemmas.List.{take_min}
use Rattle.pushsession.specs.Sessions.{room_of as session_room, with_piece}
use Rattle.pushserver.specs.Hubs.{session_of, taken_by, take_octets}
use Rattle.pushserver.specs.PlainHubs.{Session}
use Rattle.livesessions.proofs.SessionLists.{found-in}
use Rattle.pushclient.specs.Clients.{Connection, room_of, take_octets as client_takes, give_octets as client_gives}
use Rattle.inflight.specs.Flight.{IsUnderWay}
use Rattle.flight_laws.specs.GoesOn.{AreTheSame, SessionsTakeOctets, ClientsTakeOctets, ClientsGiveOctets}
use Rattle.flight_laws.proofs.Passing.{last_moves, middle_moves}

-- a front of a front, by how much room there is
front-of-front : (n room : ℕ) (xs : List ℕ) → take room (take n xs) ≡ take (min (length (take n xs)) room) xs
front-of-front n room xs =
    let ys = take n xs in
    let k : ℕ = min (length ys) room in
    let same : min room (length ys) ≡ k = turned room (length ys) in
    let within : k ≤ n = low (length ys) n (length xs) room (length-take n xs) in
    sym (take_min room ys) ∙ ap (λ m. take m ys) same ∙ take-take k n xs within
  where
    turned : (a b : ℕ) → min a b ≡ min b a
    turned a b = omega arith

    low : (size n whole room : ℕ) → size ≡ min n whole → min size room ≤ n
    low size n whole room is = omega (arith, is)

pub sessions-take : SessionsTakeOctets
sessions-take hub number n told session client c up_wire down_wire there before =
    let piece = take n up_wire in
    let some : taken_by hub number piece ≡ min (length piece) (session_room session) = ap (λ (o : Option Session). elim o as (λ _. ℕ) [ None ↦ 0 | Some s ↦ min (length piece) (session_room s) ]) there in
    by (taken_by hub number piece) some
  where
    piece : List ℕ
    piece = take n up_wire

    by : (k : ℕ) → k ≡ min (length piece) (session_room session)
        → let later : Session = record session { input = session.input ++ take k up_wire } in
        (session_of (take_octets hub number piece) number ≡ Some later) × (after : IsUnderWay (take_octets hub number piece) told later client c (drop k up_wire) down_wire) × AreTheSame before after
    by k is =
        let later : Session = record session { input = session.input ++ take k up_wire } in
        let front : take (session_room session) piece ≡ take k up_wire = front-of-front n (session_room session) up_wire ∙ ap (λ m. take m up_wire) (sym is) in
        let after : IsUnderWay (take_octets hub number piece) told later client c (drop k up_wire) down_wire = record {
          taken = before.taken;
          flying = before.flying;
          ups = before.ups;
          made = before.made;
          whole_down = before.whole_down;
          whole_up = λ going. sym (middle_moves session.input up_wire c.output k) ∙ before.whole_up going;
          fit = before.fit;
        } in (
          found-in number (with_piece piece) hub.sessions ∙ ap (option_map (with_piece piece)) there ∙ ap (λ os. Some (record session { input = session.input ++ os })) front,
          after,
          record { taken = refl; flying = refl; ups = refl },
        )

pub clients-take : ClientsTakeOctets
clients-take hub n told session client c up_wire down_wire there before =
    let piece = take n down_wire in
    let k : ℕ = min (length piece) (room_of client) in
    let later : Connection = record c { input = c.input ++ take k down_wire } in
    let after : IsUnderWay hub told session (client_takes piece client) later up_wire (drop k down_wire) = record {
      taken = before.taken;
      flying = before.flying;
      ups = before.ups;
      made = before.made;
      whole_down = sym (middle_moves c.input down_wire session.output k) ∙ before.whole_down;
      whole_up = before.whole_up;
      fit = before.fit;
    } in (
      ap (option_map (λ (d : Connection). record d { input = d.input ++ take (room_of client) piece })) there ∙ ap (λ os. Some (record c { input = c.input ++ os })) (front-of-front n (room_of client) down_wire),
      after,
      record { taken = refl; flying = refl; ups = refl },
    )

pub clients-give : ClientsGiveOctets
clients-give hub n told session client c up_wire down_wire there before =
    let later : Connection = record c { output = drop n c.output } in
    let after : IsUnderWay hub told session (client_gives n client) later (up_wire ++ take n c.output) down_wire = record {
      taken = before.taken;
      flying = before.flying;
      ups = before.ups;
      made = before.made;
      whole_down = before.whole_down;
      whole_up = λ going. sym (last_moves session.input up_wire c.output n) ∙ before.whole_up going;
      fit = before.fit;
    } in (
      ap (option_map (λ (d : Connection). record d { output = drop n d.output })) there,
      after,
      record { taken = refl; flying = refl; ups = refl },
    )
