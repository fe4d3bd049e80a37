-- What holds of each call that a line makes, where it holds of calls for the sessions of clients that bring their octets.
--     HoldsOfCalls P Good Has      P of each call, if what it brings is good, and the session that it is for is one of these
--     Ready      a client whose octets are good, and whose session is one of these
--     line-each      of the calls of a line, if it holds of those of a line that sends
--     sends-each      of these, for any session
use Rattle.std.proofs.Common.{◌≡◌, ℕ, zero, suc, ◌-◌, ◌<◌, ◌^◌, Bool, true, false, cond, not, ◌&&◌, List, [], ◌∷◌, ◌++◌, length, take, min, Option, Some, None, refl}
use Rattle.std.specs.Prelude.{◌==◌, flat_map}
use Rattle.std.specs.List.{AllByRecursion}
use Rattle.std.specs.Str.{bytes_eq}
use Rattle.coalesce.proofs.ReadBack.{each-append}
use Rattle.dsotlv.specs.Laws.{AreOctets}
use Rattle.dsosession.specs.declared.session.EndReason.{EndReason}
use Rattle.pushserver.specs.PlainHubs.{Hub}
use Rattle.pushserver.specs.Hubs as hubs
use Rattle.pushserver.specs.Hubs.{now, connect, taken_by}
use Rattle.pushserver.specs.Calls.{HubCall, updates as updating, hears as hearing, goes as going, moves as moving, connects as connecting, takes as taking, gives as giving, stops as stopping, ends as ending}
use Rattle.pushserver.proofs.session_steps.Lists.{found-each}
use Rattle.pushclient.specs.Clients.{Client, closed_as, is_connected, output_of}
use Rattle.pushclient.specs.Steps as steps
use Rattle.scripts.specs.Lines.{Word, ScriptLine, silent, head_line, joining, hub_event, link_event, client_call, client_passing, client_event, session_event, send}
use Rattle.scripts.specs.declared.line.HubEvent.{HubEvent}
use Rattle.scripts.specs.declared.line.HubEvent.TheVariants as hub_events
use Rattle.scripts.specs.declared.line.LinkEvent.{LinkEvent}
use Rattle.scripts.specs.declared.line.LinkEvent.TheVariants as link_events
use Rattle.scripts.specs.declared.line.Way.{Way}
use Rattle.scripts.specs.declared.line.Way.TheVariants as ways
use Rattle.scripts.specs.declared.line.ClientEvent.{ClientEvent}
use Rattle.scripts.specs.declared.line.ClientEvent.TheVariants as client_events
use Rattle.scripts.specs.declared.line.SessionEvent.{SessionEvent}
use Rattle.scripts.specs.declared.line.SessionEvent.TheVariants as session_events
use Rattle.replay.specs.World.{World, Seat, seat_of, session_number, is_over}
use Rattle.replay.specs.PassedOctets as passing
use Rattle.replay.specs.PassedOctets.{Passed, enough, max_wire, round, exchanged, fed_client}
use Rattle.replay.specs.Text.{placed, passing_of, passes_way, session_of_word, link_calls}
use Rattle.replay.proofs.worlds.Keeping.{InParts}
use Rattle.replay.proofs.worlds.KeptByLines.{KeepsClients, IsReady}
use Rattle.script_laws.specs.Lines.{IsHubWithin, IsLinkWithin, IsSessionWithin, AreWithin}
use Rattle.replay.specs.LineCalls.{up_calls, out_calls, round_calls, settle_calls, end_calls, cut_calls, passing_calls, of_seat, connect_calls, open_calls, timed_calls, feed_calls, place_calls, exchange_calls, exchanges_calls, send_calls, stop_calls, hub_calls, way_calls, client_calls, session_calls, line_calls}
use Rattle.script_laws.proofs.calls.Emitting.{all-emitted, all-exchanged}

pub record HoldsOfCalls (P : HubCall → Type 0) (Good : List ℕ → Type 0) (Has : ℕ → Type 0) : Type 0 where
  pub updates : (message : List ℕ) → AreOctets message → P (updating message)
  pub hears : (link : ℕ) (datagram : List ℕ) → AreOctets datagram → P (hearing link datagram)
  pub goes : (link : ℕ) → P (going link)
  pub moves : (t : ℕ) → P (moving t)
  pub connects : P connecting
  pub takes : (number : ℕ) (piece : List ℕ) → Has number → Good piece → P (taking number piece)
  pub gives : (number room : ℕ) → Has number → P (giving number room)
  pub stops : (number rcode delay : ℕ) → rcode < 16 → delay < 2 ^ 32 → P (stopping number rcode delay)
  pub ends : (number : ℕ) → P (ending number)

module _ (P : HubCall → Type 0) (Good : List ℕ → Type 0) (Has : ℕ → Type 0) (holds : HoldsOfCalls P Good Has) (parts : InParts Good) (C : Client → Type 0) (clients : KeepsClients Good C) where
  abbrev Each : List HubCall → Type 0
  Each calls = AllByRecursion P calls

  abbrev HasSession : Seat → Type 0
  HasSession seat = (number : ℕ) → seat.session ≡ Some number → Has number

  abbrev pub Ready : Seat → Type 0
  Ready seat = IsReady Good C seat × HasSession seat

  -- ---- connections begin and end

  ends-each : (o : Option ℕ) → Each (end_calls o)
  ends-each None = tt
  ends-each (Some number) = (holds.ends number, tt)

  ends-if : (b : Bool) (o : Option ℕ) → Each (cond b (end_calls o) [])
  ends-if true o = ends-each o
  ends-if false o = tt

  connects-each : (hub : Hub) → Each (connect_calls hub)
  connects-each hub = by (connect hub).0
    where
      by : (o : Option ℕ) → Each (elim o as (λ _. List HubCall) [ None ↦ [] | Some number ↦ connecting ∷ [] ])
      by None = tt
      by (Some number) = (holds.connects, tt)

  -- ---- octets pass

  outs-each : (number n : ℕ) (world : World) (seat : Seat) → Has number → Each (out_calls number n world seat)
  outs-each number n world seat has = all-emitted P number (λ room. holds.gives number room has) enough _ world.hub

  ups-each : (number n : ℕ) (world : World) (seat : Seat) → Has number → IsReady Good C seat → Each (up_calls number n world seat)
  ups-each number n world seat has ready =
      let k : ℕ = taken_by world.hub number (take n seat.up_wire) in
      (holds.takes number (take k seat.up_wire) has (parts.front k seat.up_wire ready.wire), tt)

  -- the client behind each passing
  says-ready : (n : ℕ) (world : World) (seat : Seat) → IsReady Good C seat → IsReady Good C (passing.say n world seat).seat
  says-ready n world seat r =
      let count : ℕ = min n (max_wire - length seat.up_wire) in
      let piece : List ℕ = take count (output_of seat.client) in
      record {
        wire = parts.behind seat.up_wire piece r.wire (parts.front count (output_of seat.client) (clients.says seat.client r.client));
        client = clients.gives seat.client (length piece) r.client;
      }

  rounds-ready : (number : ℕ) (world : World) (seat : Seat) → IsReady Good C seat → IsReady Good C (round number world seat).seat
  rounds-ready number world seat r =
      let first = passing.say max_wire world seat in
      let said = says-ready max_wire world seat r in
      let second = passing.up number max_wire first.world first.seat in
      let third = passing.emit number max_wire second.world second.seat in
      record {
        wire = parts.rest (taken_by first.world.hub number (take max_wire first.seat.up_wire)) first.seat.up_wire said.wire;
        client = clients.delivers third.seat.client (take max_wire third.seat.down_wire) said.client;
      }

  rounds-each : (number : ℕ) (world : World) (seat : Seat) → Has number → IsReady Good C seat → Each (round_calls number world seat)
  rounds-each number world seat has ready =
      let said = passing.say max_wire world seat in
      let risen = passing.up number max_wire said.world said.seat in
      each-append P (up_calls number max_wire said.world said.seat) (out_calls number max_wire risen.world risen.seat) (ups-each number max_wire said.world said.seat has (says-ready max_wire world seat ready))
      (outs-each number max_wire risen.world risen.seat has)

  settles-each : (turns number : ℕ) (world : World) (seat : Seat) → Has number → IsReady Good C seat → Each (settle_calls turns number world seat)
  settles-each zero number world seat has ready = tt
  settles-each (suc turns) number world seat has ready = by (settles-each turns number r.world r.seat has (rounds-ready number world seat ready)) (r.count == 0 && not r.reacted)
    where
      r : Passed
      r = round number world seat

      by : Each (settle_calls turns number r.world r.seat) → (b : Bool)
          → Each (elim b as (λ _. List HubCall) [ true ↦ round_calls number world seat | false ↦ round_calls number world seat ++ settle_calls turns number r.world r.seat ])
      by rest true = rounds-each number world seat has ready
      by rest false = each-append P (round_calls number world seat) (settle_calls turns number r.world r.seat) (rounds-each number world seat has ready) rest

  ways-each : (way : Way) (number : ℕ) (world : World) (seat : Seat) → Has number → IsReady Good C seat → Each (way_calls way number world seat)
  ways-each (ways.Say n) number world seat has ready = tt
  ways-each (ways.Up n) number world seat has ready = ups-each number n world seat has ready
  ways-each (ways.Emit n) number world seat has ready = outs-each number n world seat has
  ways-each (ways.Down n) number world seat has ready = tt
  ways-each ways.Settle number world seat has ready = settles-each enough number world seat has ready

  passes-each : (way : Way) (w : Word) (world : World) → AllByRecursion Ready world.seats → Each (of_seat (passing_calls (way_calls way) (passing_of way)) w world)
  passes-each way w world ready = by (seat_of world w) refl
    where
      own : (seat : Seat) → Ready seat → (o : Option ℕ) → seat.session ≡ o → Each (elim o as (λ _. List HubCall) [ None ↦ [] | Some number ↦ way_calls way number world seat ])
      own seat is None none = tt
      own seat is (Some number) has = ways-each way number world seat (is.1 number has) is.0

      by : (o : Option Seat) → seat_of world w ≡ o → Each (elim o as (λ _. List HubCall) [ None ↦ [] | Some seat ↦ passing_calls (way_calls way) (passing_of way) world seat ])
      by None there = tt
      by (Some seat) there =
          let p : Passed = passes_way way world seat in
          each-append P (elim seat.session as (λ _. List HubCall) [ None ↦ [] | Some number ↦ way_calls way number world seat ]) (cut_calls p)
          (own seat (found-each Ready (λ s. bytes_eq s.word w) world.seats seat ready there).0 seat.session refl)
          (ends-if (is_over p.over (closed_as p.seat.client)) p.seat.session)

  -- ---- clients

  timed-each : (t : ℕ) (seats : List Seat) → Each (flat_map (timed_calls t) seats)
  timed-each t [] = tt
  timed-each t (seat ∷ seats) = each-append P (timed_calls t seat) (flat_map (timed_calls t) seats) (ends-if (is_over None (closed_as (steps.moment seat.client t))) seat.session) (timed-each t seats)

  opens-each : (w : Word) (world : World) → Each (of_seat open_calls w world)
  opens-each w world = by (seat_of world w)
    where
      by_lone : (b : Bool) → Each (cond b [] (connect_calls world.hub))
      by_lone true = tt
      by_lone false = connects-each world.hub

      by_open : (seat : Seat) (b : Bool) → Each (cond b [] (cond seat.is_lone [] (connect_calls world.hub)))
      by_open seat true = tt
      by_open seat false = by_lone seat.is_lone

      by : (o : Option Seat) → Each (elim o as (λ _. List HubCall) [ None ↦ [] | Some seat ↦ open_calls world seat ])
      by None = tt
      by (Some seat) = by_open seat (is_connected seat.client)

  feeds-each : (w : Word) (octets : List ℕ) (world : World) → Each (of_seat (feed_calls octets) w world)
  feeds-each w octets world = by (seat_of world w)
    where
      by_open : (seat : Seat) (b : Bool) → Each (cond b (cond (is_over None (closed_as (fed_client octets seat.client))) (end_calls seat.session) []) [])
      by_open seat true = ends-if (is_over None (closed_as (fed_client octets seat.client))) seat.session
      by_open seat false = tt

      by : (o : Option Seat) → Each (elim o as (λ _. List HubCall) [ None ↦ [] | Some seat ↦ feed_calls octets world seat ])
      by None = tt
      by (Some seat) = by_open seat (is_connected seat.client)

  -- ---- sessions

  cuts-each : (w : Word) (world : World) → Each (session_calls session_events.Cut w world)
  cuts-each w world = by (seat_of world w)
    where
      by : (o : Option Seat) → Each (elim o as (λ _. List HubCall) [ None ↦ end_calls (session_number world w) | Some seat ↦ end_calls seat.session ])
      by None = ends-each (session_number world w)
      by (Some seat) = ends-each seat.session

  stops-each : (o : Option ℕ) (rcode delay : ℕ) → rcode < 16 → delay < 2 ^ 32 → Each (stop_calls o rcode delay)
  stops-each None rcode delay small short = tt
  stops-each (Some number) rcode delay small short = (holds.stops number rcode delay small short, tt)

  pub sends-each : ((number : ℕ) → Has number) → (w : Word) (octets : List ℕ) (world : World) → Good octets → Each (send_calls w octets world)
  sends-each has w octets world good = by (placed w world)
    where
      ended : (there : World) (o : Option EndReason) → Each (elim o as (λ _. List HubCall) [ None ↦ [] | Some reason ↦ end_calls (session_number there w) ])
      ended there None = tt
      ended there (Some reason) = ends-each (session_number there w)

      comes : (o : Option ℕ) → Each (elim o as (λ _. List HubCall) [ None ↦ connect_calls world.hub | Some number ↦ [] ])
      comes None = connects-each world.hub
      comes (Some number) = tt

      by : (o : Option (ℕ × World)) → Each (elim o as (λ _. List HubCall) [ None ↦ [] | Some place ↦ place_calls w world ++ exchanges_calls w place.0 octets place.1 ])
      by None = tt
      by (Some place) =
          let over = (exchanged enough place.0 octets place.1.hub []).over in
          let exchange = exchange_calls enough place.0 octets place.1.hub in
          let last = elim over as (λ _. List HubCall) [ None ↦ [] | Some reason ↦ end_calls (session_number place.1 w) ] in
          each-append P (place_calls w world) (exchange ++ last) (comes (session_number world w))
          (each-append P exchange last (all-exchanged P place.0 (λ room. holds.gives place.0 room (has place.0)) Good parts (λ piece brings. holds.takes place.0 piece (has place.0) brings) enough octets place.1.hub good) (ended place.1 over))

  -- ---- lines

  hub-each : (event : HubEvent) (world : World) → IsHubWithin event → Each (hub_calls event world)
  hub-each (hub_events.At t) world is = (holds.moves t, timed-each (now (hubs.moment world.hub t)) world.seats)
  hub-each (hub_events.Update message) world is = (holds.updates message is.0, tt)
  hub-each hub_events.Point world is = tt

  link-each : (event : LinkEvent) (w : Word) (world : World) → IsLinkWithin event → Each (link_calls event w world)
  link-each (link_events.Hear datagram) w world is = (holds.hears _ datagram is.0, tt)
  link-each link_events.Gone w world is = (holds.goes _, tt)
  link-each link_events.Asks w world is = tt

  client-each : (event : ClientEvent) (w : Word) (world : World) → Each (client_calls event w world)
  client-each client_events.Open w world = opens-each w world
  client-each (client_events.Feed octets) w world = feeds-each w octets world
  client-each (client_events.Show question written) w world = tt

  session-each : (event : SessionEvent) (w : Word) (world : World) → IsSessionWithin w event → ((octets : List ℕ) → event ≡ session_events.Send octets → Each (send_calls w octets world)) → Each (session_calls event w world)
  session-each (session_events.Send octets) w world is sends = sends octets refl
  session-each (session_events.Stop rcode delay) w world is sends = stops-each (session_of_word world w) rcode delay is.0 is.1
  session-each session_events.Cut w world is sends = cuts-each w world

  pub line-each : (line : ScriptLine) (world : World) → AreWithin line → AllByRecursion Ready world.seats → ((w : Word) (octets : List ℕ) → line ≡ send w octets → Each (send_calls w octets world)) → Each (line_calls line world)
  line-each silent world is ready sends = tt
  line-each (head_line line) world is ready sends = tt
  line-each (joining w is_lone) world is ready sends = tt
  line-each (hub_event event) world is ready sends = hub-each event world is
  line-each (link_event w event) world is ready sends = link-each event w world is
  line-each (client_call w call) world is ready sends = tt
  line-each (client_passing w way) world is ready sends = passes-each way w world ready
  line-each (client_event w event) world is ready sends = client-each event w world
  line-each (session_event w event) world is ready sends = session-each event w world is (λ octets same. sends w octets (λ i. session_event w (same i)))
