-- What the lines do to a world: octets pass, both ends react.
--     emitted, delivered, settled, exchanged      give until a count; octets to a client; both ends until nothing moves; octets to a peer's session and back
--     reached_by octets client, fed_client octets client      the client behind octets, and then without what it had to send
--     by_session passing world seat      a passing where the seat has a session
use Rattle.std.specs.Prelude.{ℕ, zero, suc, ◌+◌, ◌-◌, ◌^◌, Bool, true, false, not, ◌&&◌, ◌||◌, List, [], ◌++◌, length, take, drop, min, Option, Some, None, is_some, nat_lt, ◌==◌, if◌then◌else◌}
use Rattle.dsosession.specs.declared.session.EndReason.{EndReason}
use Rattle.pushserver.specs.declared.given.Given.TheVariants.{Bytes, Worked, Nothing, Ending, End}
use Rattle.pushserver.specs.PlainHubs.{Subscription, Hub, Giving}
use Rattle.pushserver.specs.Hubs.{session_of, taken_by, take_octets}
use Rattle.pushserver.specs.Giving.{give}
use Rattle.pushclient.specs.declared.client.Step.TheVariants.{Waiting, Closed}
use Rattle.pushclient.specs.Clients as clients
use Rattle.pushclient.specs.Clients.{Client, output_of, give_octets, room_of}
use Rattle.pushclient.specs.Steps.{step}
use Rattle.pushclient.specs.HandedOut.{without_output}
use Rattle.scripts.specs.Lines.{max_octets_passed}
use Rattle.replay.specs.World.{Seat, World}
use Rattle.inflight.specs.Ends.{remembers}

-- A number of turns: each moves an octet or reacts to a message.
abbrev pub enough : ℕ
enough = 2 ^ 64

-- a wire holds so many octets
abbrev pub max_wire : ℕ
max_wire = max_octets_passed

-- what calls of give made: the octets, whether a message was reacted to, the end if one was answered, and the first answers told
pub record Emitted : Type 0 where
  pub hub : Hub
  pub octets : List ℕ
  pub reacted : Bool
  pub over : Option EndReason
  pub filled : List (ℕ × ℕ)

abbrev pub subscriptions_in : Hub → ℕ → List Subscription
subscriptions_in hub number = elim (session_of hub number) [ None ↦ [] | Some session ↦ session.subscriptions ]

abbrev pub with_giving : Giving → ℕ → Emitted → Emitted
with_giving g number so_far = record so_far { hub = g.hub; octets = so_far.octets ++ g.octets; filled = remembers (subscriptions_in g.hub number) so_far.filled }

-- give again and again, until so many octets came, or it answers Nothing, Ending or End
abbrev pub emitted : ℕ → ℕ → ℕ → Emitted → Emitted
emitted zero number budget so_far = so_far
emitted (suc turns) number budget so_far = elim (budget == 0) [
  | true ↦ so_far
  | false ↦ (let g = give so_far.hub number budget in elim g.given [
    | Bytes n ↦ emitted turns number (budget - n) (with_giving g number so_far)
    | Worked ↦ emitted turns number budget (record (with_giving g number so_far) { reacted = true })
    | Nothing ↦ with_giving g number so_far
    | Ending ↦ with_giving g number so_far
    | End reason ↦ record (with_giving g number so_far) { over = Some reason }
  ])
]

abbrev pub nothing_emitted : Hub → List (ℕ × ℕ) → Emitted
nothing_emitted hub filled = record { hub = hub; octets = []; reacted = false; over = None; filled = filled }

-- what one passing of octets did
pub record Passed : Type 0 where
  pub world : World
  pub seat : Seat
  pub count : ℕ
  pub reacted : Bool
  pub over : Option EndReason

abbrev pub passed : World → Seat → ℕ → Passed
passed world seat count = record { world = world; seat = seat; count = count; reacted = false; over = None }

-- from the client onto the upward wire
abbrev pub say : ℕ → World → Seat → Passed
say n world seat =
    let piece = take (min n (max_wire - length seat.up_wire)) (output_of seat.client) in
    passed world (record seat { client = give_octets (length piece) seat.client; up_wire = seat.up_wire ++ piece }) (length piece)

-- from the upward wire into the session
abbrev pub up : ℕ → ℕ → World → Seat → Passed
up number n world seat =
    let k = taken_by world.hub number (take n seat.up_wire) in
    passed (record world { hub = take_octets world.hub number (take k seat.up_wire) }) (record seat { up_wire = drop k seat.up_wire }) k

-- from the session onto the downward wire
abbrev pub emit : ℕ → ℕ → World → Seat → Passed
emit number n world seat =
    let e = emitted enough number (min n (max_wire - length seat.down_wire)) (nothing_emitted world.hub seat.filled) in
    record { world = record world { hub = e.hub }; seat = record seat { down_wire = seat.down_wire ++ e.octets; filled = e.filled }; count = length e.octets; reacted = e.reacted || nat_lt 0 (length e.octets); over = e.over }

-- steps until the client waits or has closed
abbrev pub stepped : ℕ → Client → Client
stepped zero client = client
stepped (suc turns) client = (let one = step client in elim one.0 [
  | Waiting ↦ client
  | Closed reason ↦ one.1
  | _ ↦ stepped turns one.1
])

-- what of the octets went in, and the client after it
pub record Delivered : Type 0 where
  pub client : Client
  pub count : ℕ
  pub left : List ℕ

-- octets that have room go in, and the client steps until it waits; again, until none is left or none was taken
abbrev pub delivered : ℕ → List ℕ → Delivered → Delivered
delivered zero octets so_far = so_far
delivered (suc turns) octets so_far =
    let k = min (length octets) (room_of so_far.client) in
    let later : Delivered = record { client = stepped enough (clients.take_octets (take k octets) so_far.client); count = so_far.count + k; left = drop k octets } in
    elim (k == 0 || k == length octets) [ true ↦ later | false ↦ delivered turns (drop k octets) later ]

abbrev pub to_client : List ℕ → Client → Delivered
to_client octets client = delivered enough octets (record { client = client; count = 0; left = octets })

-- the client behind octets
abbrev pub reached_by : List ℕ → Client → Client
reached_by octets client = (to_client octets client).client

-- one behind octets that has then handed out all
abbrev pub fed_client : List ℕ → Client → Client
fed_client octets client = without_output (reached_by octets client)

-- from the downward wire to the client
abbrev pub down : ℕ → World → Seat → Passed
down n world seat =
    let d = to_client (take n seat.down_wire) seat.client in
    record { world = world; seat = record seat { client = d.client; down_wire = drop d.count seat.down_wire; reached = seat.reached + d.count }; count = d.count; reacted = nat_lt 0 d.count; over = None }

-- one passing behind another
abbrev pub and_then : Passed → (World → Seat → Passed) → Passed
and_then first next = (let second = next first.world first.seat in record second { count = first.count + second.count; reacted = first.reacted || second.reacted; over = if is_some first.over then first.over else second.over })

-- whether a passing moved nothing and reacted to nothing
abbrev pub is_still : Passed → Bool
is_still p = p.count == 0 && not p.reacted

abbrev pub round : ℕ → World → Seat → Passed
round number world seat = and_then (and_then (and_then (say max_wire world seat) (up number max_wire)) (emit number max_wire)) (down max_wire)

-- rounds until one moves no octet and reacts to no message
abbrev pub settled : ℕ → ℕ → World → Seat → Option EndReason → Passed
settled zero number world seat over = record (passed world seat 0) { over = over }
settled (suc turns) number world seat over =
    let r = round number world seat in
    let so_far : Option EndReason = if is_some over then over else r.over in
    elim (is_still r) [ true ↦ record r { over = so_far } | false ↦ settled turns number r.world r.seat so_far ]

-- without a session nothing passes
abbrev pub by_session : (ℕ → World → Seat → Passed) → World → Seat → Passed
by_session passing world seat = elim seat.session as (λ _. Passed) [ None ↦ passed world seat 0 | Some number ↦ passing number world seat ]

-- all octets that have room go in, and give is called until it answers Nothing, Ending or End; again, until none is left or none was taken
pub record Exchanged : Type 0 where
  pub hub : Hub
  pub octets : List ℕ
  pub over : Option EndReason

abbrev pub exchanged : ℕ → ℕ → List ℕ → Hub → List ℕ → Exchanged
exchanged zero number octets hub so_far = record { hub = hub; octets = so_far; over = None }
exchanged (suc turns) number octets hub so_far =
    let k = taken_by hub number octets in
    let e = emitted enough number enough (nothing_emitted (take_octets hub number (take k octets)) []) in
    let done : Exchanged = record { hub = e.hub; octets = so_far ++ e.octets; over = e.over } in
    elim (k == 0 || k == length octets) [ true ↦ done | false ↦ exchanged turns number (drop k octets) e.hub (so_far ++ e.octets) ]
