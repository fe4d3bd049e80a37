-- The calls of the hub that lines make, one behind the other.
--     emit_calls turns number budget hub      octets are asked for until so many came
--     exchange_calls turns number octets hub      octets go into a session and out of it
--     settle_calls turns number world seat      rounds between a client and its session
--     hub_calls event, way_calls way, passes_calls way w, client_calls event w, session_calls event w      what each class of lines does to the hub (on links: Text)
--     line_calls line world, script_calls lines world      what a line does to the hub, and what lines do
--     LinesAreCalls, ScriptsAreCalls      the hub behind them is that behind these calls
--     AreFirst calls script      a script begins with these calls
use Rattle.std.specs.Prelude.{◌≡◌, ℕ, zero, suc, ◌-◌, true, false, ◌||◌, cond, List, [], ◌∷◌, ◌++◌, take, drop, length, min, flat_map, Option, Some, None, ◌==◌}
use Rattle.pushserver.specs.declared.given.Given.TheVariants.{Bytes, Worked, Nothing, Ending, End}
use Rattle.pushserver.specs.PlainHubs.{Hub}
use Rattle.pushserver.specs.Hubs.{now, connect, moment, taken_by, take_octets}
use Rattle.pushserver.specs.Giving.{give}
use Rattle.pushserver.specs.Calls.{HubCall, updates, moves, connects, takes, gives, stops, ends, after_calls}
use Rattle.pushclient.specs.Clients.{closed_as, is_connected}
use Rattle.pushclient.specs.Steps as steps
use Rattle.scripts.specs.Lines.{Word, ScriptLine, hub_event, link_event, client_passing, client_event, session_event}
use Rattle.scripts.specs.declared.line.HubEvent.{HubEvent}
use Rattle.scripts.specs.declared.line.HubEvent.TheVariants as hub_events
use Rattle.scripts.specs.declared.line.Way.{Way}
use Rattle.scripts.specs.declared.line.Way.TheVariants as ways
use Rattle.scripts.specs.declared.line.ClientEvent.{ClientEvent}
use Rattle.scripts.specs.declared.line.ClientEvent.TheVariants as client_events
use Rattle.scripts.specs.declared.line.SessionEvent.{SessionEvent}
use Rattle.scripts.specs.declared.line.SessionEvent.TheVariants as session_events
use Rattle.replay.specs.World.{World, Seat, start_world, seat_of, session_number, is_over}
use Rattle.replay.specs.PassedOctets as passing
use Rattle.replay.specs.PassedOctets.{Passed, enough, max_wire, round, settled, is_still, exchanged, fed_client}
use Rattle.replay.specs.TextWords.{by_history}
use Rattle.replay.specs.Text.{placed, passing_of, session_of_word, link_calls, line_does, world_after}

-- ---- octets go in and out

-- give again and again, until so many octets came, or it answers Nothing, Ending or End
abbrev pub emit_calls : ℕ → ℕ → ℕ → Hub → List HubCall
emit_calls zero number budget hub = []
emit_calls (suc turns) number budget hub = elim (budget == 0) [
  | true ↦ []
  | false ↦ (let g = give hub number budget in gives number budget ∷ (elim g.given [
    | Bytes n ↦ emit_calls turns number (budget - n) g.hub
    | Worked ↦ emit_calls turns number budget g.hub
    | Nothing ↦ []
    | Ending ↦ []
    | End reason ↦ []
  ]))
]

-- all octets that have room go in, and all that is said for them comes out
abbrev pub fed_calls : ℕ → List ℕ → Hub → List HubCall
fed_calls number piece hub = takes number piece ∷ emit_calls enough number enough (take_octets hub number piece)

-- again, until none is left or none was taken
abbrev pub exchange_calls : ℕ → ℕ → List ℕ → Hub → List HubCall
exchange_calls zero number octets hub = []
exchange_calls (suc turns) number octets hub =
    let k = taken_by hub number octets in
    let first = fed_calls number (take k octets) hub in
    elim (k == 0 || k == length octets) [ true ↦ first | false ↦ first ++ exchange_calls turns number (drop k octets) (after_calls first hub) ]

-- ---- a client and its session

abbrev pub up_calls : ℕ → ℕ → World → Seat → List HubCall
up_calls number n world seat = takes number (take (taken_by world.hub number (take n seat.up_wire)) seat.up_wire) ∷ []

abbrev pub out_calls : ℕ → ℕ → World → Seat → List HubCall
out_calls number n world seat = emit_calls enough number (min n (max_wire - length seat.down_wire)) world.hub

abbrev pub round_calls : ℕ → World → Seat → List HubCall
round_calls number world seat =
    let said = passing.say max_wire world seat in
    let risen = passing.up number max_wire said.world said.seat in
    up_calls number max_wire said.world said.seat ++ out_calls number max_wire risen.world risen.seat

abbrev pub settle_calls : ℕ → ℕ → World → Seat → List HubCall
settle_calls zero number world seat = []
settle_calls (suc turns) number world seat =
    let r = round number world seat in
    elim (is_still r) [ true ↦ round_calls number world seat | false ↦ round_calls number world seat ++ settle_calls turns number r.world r.seat ]

-- ---- connections begin and end

abbrev pub end_calls : Option ℕ → List HubCall
end_calls None = []
end_calls (Some number) = ends number ∷ []

-- a connection that is over is cut
abbrev pub cut_calls : Passed → List HubCall
cut_calls p = cond (is_over p.over (closed_as p.seat.client)) (end_calls p.seat.session) []

-- those of a passing, where the seat has a session
abbrev pub with_session : (ℕ → World → Seat → List HubCall) → World → Seat → List HubCall
with_session calls world seat = elim seat.session as (λ _. List HubCall) [ None ↦ [] | Some number ↦ calls number world seat ]

-- a passing of octets, and what its end makes
abbrev pub passing_calls : (ℕ → World → Seat → List HubCall) → (ℕ → World → Seat → Passed) → World → Seat → List HubCall
passing_calls calls passes world seat = with_session calls world seat ++ cut_calls (passing.by_session passes world seat)

abbrev pub of_seat : (World → Seat → List HubCall) → Word → World → List HubCall
of_seat calls w world = elim (seat_of world w) [ None ↦ [] | Some seat ↦ calls world seat ]

-- where a place is free
abbrev pub connect_calls : Hub → List HubCall
connect_calls hub = elim (connect hub).0 [ None ↦ [] | Some number ↦ connects ∷ [] ]

abbrev pub open_calls : World → Seat → List HubCall
open_calls world seat = cond (is_connected seat.client) [] (cond seat.is_lone [] (connect_calls world.hub))

-- a client at the hub's moment, which may close
abbrev pub timed_calls : ℕ → Seat → List HubCall
timed_calls t seat = cond (is_over None (closed_as (steps.moment seat.client t))) (end_calls seat.session) []

-- octets to a lone client, which may close
abbrev pub feed_calls : List ℕ → World → Seat → List HubCall
feed_calls octets world seat = cond (is_connected seat.client) (cond (is_over None (closed_as (fed_client octets seat.client))) (end_calls seat.session) []) []

-- ---- a peer's octets

-- a peer that has no session gets one, where there is a place
abbrev pub place_calls : Word → World → List HubCall
place_calls w world = elim (session_number world w) [ None ↦ connect_calls world.hub | Some number ↦ [] ]

-- octets go in and out, and a session whose end was told goes
abbrev pub exchanges_calls : Word → ℕ → List ℕ → World → List HubCall
exchanges_calls w number octets world =
    exchange_calls enough number octets world.hub ++ (elim (exchanged enough number octets world.hub []).over as (λ _. List HubCall) [ None ↦ [] | Some reason ↦ end_calls (session_number world w) ])

abbrev pub send_calls : Word → List ℕ → World → List HubCall
send_calls w octets world = elim (placed w world) [ None ↦ [] | Some place ↦ place_calls w world ++ exchanges_calls w place.0 octets place.1 ]

abbrev pub stop_calls : Option ℕ → ℕ → ℕ → List HubCall
stop_calls None rcode delay = []
stop_calls (Some number) rcode delay = stops number rcode delay ∷ []

-- ---- lines

abbrev pub hub_calls : HubEvent → World → List HubCall
hub_calls (hub_events.At t) world = moves t ∷ flat_map (timed_calls (now (moment world.hub t))) world.seats
hub_calls (hub_events.Update message) world = updates message ∷ []
hub_calls hub_events.Point world = []

-- octets of a client with a session pass
abbrev pub way_calls : Way → ℕ → World → Seat → List HubCall
way_calls (ways.Say n) number world seat = []
way_calls (ways.Up n) number world seat = up_calls number n world seat
way_calls (ways.Emit n) number world seat = out_calls number n world seat
way_calls (ways.Down n) number world seat = []
way_calls ways.Settle number world seat = settle_calls enough number world seat

-- of the client of a word
abbrev pub passes_calls : Way → Word → World → List HubCall
passes_calls way w world = of_seat (passing_calls (way_calls way) (passing_of way)) w world

abbrev pub client_calls : ClientEvent → Word → World → List HubCall
client_calls client_events.Open w world = of_seat open_calls w world
client_calls (client_events.Feed octets) w world = of_seat (feed_calls octets) w world
client_calls (client_events.Show question written) w world = []

abbrev pub session_calls : SessionEvent → Word → World → List HubCall
session_calls (session_events.Send octets) w world = send_calls w octets world
session_calls (session_events.Stop rcode delay) w world = stop_calls (session_of_word world w) rcode delay
session_calls session_events.Cut w world = elim (seat_of world w) [ None ↦ end_calls (session_number world w) | Some seat ↦ end_calls seat.session ]

abbrev pub line_calls : ScriptLine → World → List HubCall
line_calls (hub_event event) world = hub_calls event world
line_calls (link_event w event) world = link_calls event w world
line_calls (client_passing w way) world = passes_calls way w world
line_calls (client_event w event) world = client_calls event w world
line_calls (session_event w event) world = session_calls event w world
line_calls _ world = []

abbrev pub script_calls : List ScriptLine → World → List HubCall
script_calls [] world = []
script_calls (line ∷ lines) world = line_calls line world ++ script_calls lines (line_does by_history line world).0

abbrev pub LinesAreCalls : Type 0
LinesAreCalls = (line : ScriptLine) (world : World) → (line_does by_history line world).0.hub ≡ after_calls (line_calls line world) world.hub

abbrev pub ScriptsAreCalls : Type 0
ScriptsAreCalls = (lines : List ScriptLine) (world : World) → (world_after lines world).hub ≡ after_calls (script_calls lines world) world.hub

-- a script begins with these calls; they may end between two lines, or within one
pub record AreFirst (calls : List HubCall) (script : List ScriptLine) : Type 0 where
  pub behind : List HubCall
  pub are : script_calls script (start_world script) ≡ calls ++ behind
