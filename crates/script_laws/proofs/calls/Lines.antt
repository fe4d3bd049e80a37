-- Each line is calls of the hub, and so is each script.
--     lines-are-calls, scripts-are-calls      the hub behind them
--     calls-behind      the calls of lines, and of others behind them
use Rattle.std.proofs.Common.{◌≡◌, ℕ, Bool, true, false, cond, List, [], ◌∷◌, ◌++◌, fold, Option, Some, None, option_map, refl, sym, ◌∙◌, ap, append_assoc, codes}
use Rattle.std.specs.Prelude.{flat_map}
use Rattle.dsosession.specs.declared.session.EndReason.{EndReason}
use Rattle.pushserver.specs.PlainHubs.{Hub}
use Rattle.pushserver.specs.Hubs as hubs
use Rattle.pushserver.specs.Hubs.{now, connect}
use Rattle.pushserver.specs.Calls.{HubCall, connects, after_calls}
use Rattle.pushclient.specs.Clients.{closed_as, is_connected, connected}
use Rattle.pushclient.specs.Steps as steps
use Rattle.scripts.specs.Lines.{Word, ScriptLine, silent, head_line, joining, hub_event, link_event, client_call, client_passing, client_event, session_event}
use Rattle.scripts.specs.declared.line.HubEvent.{HubEvent}
use Rattle.scripts.specs.declared.line.HubEvent.TheVariants as hub_events
use Rattle.scripts.specs.declared.line.Call.{Call}
use Rattle.scripts.specs.declared.line.Way.{Way}
use Rattle.scripts.specs.declared.line.ClientEvent.{ClientEvent}
use Rattle.scripts.specs.declared.line.ClientEvent.TheVariants as client_events
use Rattle.scripts.specs.declared.line.SessionEvent.{SessionEvent}
use Rattle.scripts.specs.declared.line.SessionEvent.TheVariants as session_events
use Rattle.replay.specs.World.{World, Seat, seat_of, session_number, world_cut_if, with_seat, with_client, is_over, cut_peer, cut_connection, stopped_hub}
use Rattle.replay.specs.PassedOctets.{Passed, Exchanged, enough, exchanged, fed_client}
use Rattle.replay.specs.TextWords.{by_history}
use Rattle.replay.specs.Text.{Printed, quietly, printing, passing_of, passes_way, passes, asks, timed, exchanges, sends, opens_lone, opens_hub, opens, cuts, feeds_connected, feeds, session_of_word, hub_does, client_does, session_does, line_does, world_after}
use Rattle.replay.proofs.calls.Behind.{withouts-by}
use Rattle.replay.proofs.calls.Passed.{sessions-by}
use Rattle.replay.proofs.worlds.SeatLines.{asks_by}
use Rattle.replay.proofs.worlds.OneWorld.{shows-leave}
use Rattle.replay.proofs.worlds.PassedWorlds.{does_by}
use Rattle.replay.specs.LineCalls.{end_calls, cut_calls, passing_calls, with_session, of_seat, connect_calls, open_calls, timed_calls, feed_calls, exchange_calls, exchanges_calls, send_calls, stop_calls, hub_calls, way_calls, client_calls, session_calls, line_calls, script_calls, LinesAreCalls, ScriptsAreCalls}
use Rattle.script_laws.proofs.hubs.Reaching.{calls-append}
use Rattle.script_laws.proofs.calls.Emitting as emitting

-- ---- ends

cuts-if : (over : Bool) (seat : Seat) (world : World) → (world_cut_if over seat world).hub ≡ after_calls (cond over (end_calls seat.session) []) world.hub
cuts-if true seat world = withouts-by seat.session world.hub
cuts-if false seat world = refl

-- octets of a client pass, with what follows their end
passes-so : (way : Way) (w : Word) (world : World) → (passes way w world).0.hub ≡ after_calls (of_seat (passing_calls (way_calls way) (passing_of way)) w world) world.hub
passes-so way w world = by (seat_of world w)
  where
    by : (o : Option Seat) → (does_by way w world o).0.hub ≡ after_calls (elim o as (λ _. List HubCall) [ None ↦ [] | Some seat ↦ passing_calls (way_calls way) (passing_of way) world seat ]) world.hub
    by None = refl
    by (Some seat) =
        let p : Passed = passes_way way world seat in
        cuts-if (is_over p.over (closed_as p.seat.client)) p.seat (with_seat p.seat p.world)
        ∙ ap (λ (h : Hub). after_calls (cut_calls p) h) (sessions-by way world seat)
        ∙ sym (calls-append (with_session (way_calls way) world seat) (cut_calls p) world.hub)

-- ---- clients

timed-so : (t : ℕ) (seats : List Seat) (p : Printed) → (fold (timed t) p seats).0.hub ≡ after_calls (flat_map (timed_calls t) seats) p.0.hub
timed-so t [] p = refl
timed-so t (seat ∷ seats) p =
    let later : Seat = with_client (λ c. steps.moment c t) seat in
    timed-so t seats (timed t p seat)
    ∙ ap (λ (h : Hub). after_calls (flat_map (timed_calls t) seats) h) (cuts-if (is_over None (closed_as later.client)) later (with_seat later p.0))
    ∙ sym (calls-append (timed_calls t seat) (flat_map (timed_calls t) seats) p.0.hub)

opens-hub : (world : World) (seat : Seat) → (opens_hub seat world).0.hub ≡ after_calls (connect_calls world.hub) world.hub
opens-hub world seat = by (connect world.hub).0
  where
    by : (o : Option ℕ) → (elim o as (λ _. Printed) [
      | None ↦ printing (codes "noseat" ∷ seat.word ∷ []) world
      | Some number ↦ printing (codes "open" ∷ seat.word ∷ []) (with_seat (record seat { client = connected (now world.hub) seat.client; session = Some number }) (record world { hub = (connect world.hub).1 }))
    ]).0.hub ≡ after_calls (elim o as (λ _. List HubCall) [ None ↦ [] | Some number ↦ connects ∷ [] ]) world.hub
    by None = refl
    by (Some number) = refl

opens-so : (w : Word) (world : World) → (opens w world).0.hub ≡ after_calls (of_seat open_calls w world) world.hub
opens-so w world = by (seat_of world w)
  where
    by_lone : (seat : Seat) (b : Bool) → (cond b (opens_lone seat world) (opens_hub seat world)).0.hub ≡ after_calls (cond b [] (connect_calls world.hub)) world.hub
    by_lone seat true = refl
    by_lone seat false = opens-hub world seat

    by_open : (seat : Seat) (b : Bool) → (cond b (printing (codes "already" ∷ w ∷ []) world) (cond seat.is_lone (opens_lone seat world) (opens_hub seat world))).0.hub
        ≡ after_calls (cond b [] (cond seat.is_lone [] (connect_calls world.hub))) world.hub
    by_open seat true = refl
    by_open seat false = by_lone seat seat.is_lone

    by : (o : Option Seat) → (elim o as (λ _. Printed) [
      | None ↦ quietly world
      | Some seat ↦ cond (is_connected seat.client) (printing (codes "already" ∷ w ∷ []) world) (cond seat.is_lone (opens_lone seat world) (opens_hub seat world))
    ]).0.hub ≡ after_calls (elim o as (λ _. List HubCall) [ None ↦ [] | Some seat ↦ open_calls world seat ]) world.hub
    by None = refl
    by (Some seat) = by_open seat (is_connected seat.client)

feeds-so : (w : Word) (octets : List ℕ) (world : World) → (feeds w octets world).0.hub ≡ after_calls (of_seat (feed_calls octets) w world) world.hub
feeds-so w octets world = by (seat_of world w)
  where
    by_open : (seat : Seat) (b : Bool) → (cond b (feeds_connected octets world seat) (printing (codes "bytes" ∷ w ∷ codes "-" ∷ []) world)).0.hub
        ≡ after_calls (cond b (cond (is_over None (closed_as (fed_client octets seat.client))) (end_calls seat.session) []) []) world.hub
    by_open seat true = let later : Seat = with_client (fed_client octets) seat in cuts-if (is_over None (closed_as later.client)) later (with_seat later world)
    by_open seat false = refl

    by : (o : Option Seat) → (elim o as (λ _. Printed) [
      | None ↦ quietly world
      | Some seat ↦ cond (is_connected seat.client) (feeds_connected octets world seat) (printing (codes "bytes" ∷ w ∷ codes "-" ∷ []) world)
    ]).0.hub ≡ after_calls (elim o as (λ _. List HubCall) [ None ↦ [] | Some seat ↦ feed_calls octets world seat ]) world.hub
    by None = refl
    by (Some seat) = by_open seat (is_connected seat.client)

cut-so : (w : Word) (world : World) → (cuts w world).0.hub ≡ after_calls (session_calls session_events.Cut w world) world.hub
cut-so w world = by (seat_of world w)
  where
    by : (o : Option Seat) → (elim o as (λ _. World) [ None ↦ cut_peer w world | Some seat ↦ cut_connection seat world ]).hub
        ≡ after_calls (elim o as (λ _. List HubCall) [ None ↦ end_calls (session_number world w) | Some seat ↦ end_calls seat.session ]) world.hub
    by None = withouts-by (session_number world w) world.hub
    by (Some seat) = withouts-by seat.session world.hub

-- ---- peers

exchanges-so : (w : Word) (number : ℕ) (octets : List ℕ) (world : World) → (exchanges w number octets world).0.hub ≡ after_calls (exchanges_calls w number octets world) world.hub
exchanges-so w number octets world = by x.over
  where
    x : Exchanged
    x = exchanged enough number octets world.hub []

    later : World
    later = record world { hub = x.hub }

    calls : List HubCall
    calls = exchange_calls enough number octets world.hub

    is : x.hub ≡ after_calls calls world.hub
    is = (emitting.exchanges enough number octets world.hub []).hub_is

    by : (o : Option EndReason) → (elim o as (λ _. World) [ None ↦ later | Some reason ↦ cut_peer w later ]).hub
        ≡ after_calls (calls ++ (elim o as (λ _. List HubCall) [ None ↦ [] | Some reason ↦ end_calls (session_number world w) ])) world.hub
    by None = is ∙ sym (calls-append calls [] world.hub)
    by (Some reason) =
        withouts-by (session_number world w) x.hub ∙ ap (λ (h : Hub). after_calls (end_calls (session_number world w)) h) is
        ∙ sym (calls-append calls (end_calls (session_number world w)) world.hub)

sends-so : (w : Word) (octets : List ℕ) (world : World) → (sends w octets world).0.hub ≡ after_calls (send_calls w octets world) world.hub
sends-so w octets world = by (session_number world w)
  where
    with_peer : ℕ → World
    with_peer number = record world { hub = (connect world.hub).1; peers = world.peers ++ (w, number) ∷ [] }

    place_of : Option ℕ → Option ℕ → Option (ℕ × World)
    place_of known made = elim known as (λ _. Option (ℕ × World)) [ Some number ↦ Some (number, world) | None ↦ option_map (λ number. (number, with_peer number)) made ]

    does : Option (ℕ × World) → World
    does p = (elim p as (λ _. Printed) [ None ↦ printing (codes "noseat" ∷ w ∷ []) world | Some place ↦ exchanges w place.0 octets place.1 ]).0

    connecting : Option ℕ → List HubCall
    connecting made = elim made as (λ _. List HubCall) [ None ↦ [] | Some number ↦ connects ∷ [] ]

    placing : Option ℕ → Option ℕ → List HubCall
    placing known made = elim known as (λ _. List HubCall) [ None ↦ connecting made | Some number ↦ [] ]

    calls_of : Option ℕ → Option ℕ → List HubCall
    calls_of known made = elim (place_of known made) as (λ _. List HubCall) [ None ↦ [] | Some place ↦ placing known made ++ exchanges_calls w place.0 octets place.1 ]

    by_made : (made : Option ℕ) → (does (place_of None made)).hub ≡ after_calls (calls_of None made) world.hub
    by_made None = refl
    by_made (Some number) = exchanges-so w number octets (with_peer number)

    by : (known : Option ℕ) → (does (place_of known (connect world.hub).0)).hub ≡ after_calls (calls_of known (connect world.hub).0) world.hub
    by (Some number) = exchanges-so w number octets world
    by None = by_made (connect world.hub).0

stops-so : (rcode delay : ℕ) (world : World) (o : Option ℕ) → stopped_hub o rcode delay world.hub ≡ after_calls (stop_calls o rcode delay) world.hub
stops-so rcode delay world None = refl
stops-so rcode delay world (Some number) = refl

-- ---- lines

asks-so : (call : Call) (w : Word) (world : World) → (asks call w world).0.hub ≡ world.hub
asks-so call w world = by (seat_of world w)
  where
    by : (o : Option Seat) → (asks_by call w world o).0.hub ≡ world.hub
    by None = refl
    by (Some seat) = refl

hub-so : (event : HubEvent) (world : World) → (hub_does event world).0.hub ≡ after_calls (hub_calls event world) world.hub
hub-so (hub_events.At t) world = (let later = hubs.moment world.hub t in timed-so (now later) world.seats (record world { hub = later }, []))
hub-so (hub_events.Update message) world = refl
hub-so hub_events.Point world = refl

client-so : (event : ClientEvent) (w : Word) (world : World) → (client_does by_history event w world).0.hub ≡ after_calls (client_calls event w world) world.hub
client-so client_events.Open w world = opens-so w world
client-so (client_events.Feed octets) w world = feeds-so w octets world
client-so (client_events.Show question written) w world = ap (λ (x : World). x.hub) (shows-leave by_history w question written world)

session-so : (event : SessionEvent) (w : Word) (world : World) → (session_does event w world).0.hub ≡ after_calls (session_calls event w world) world.hub
session-so (session_events.Send octets) w world = sends-so w octets world
session-so (session_events.Stop rcode delay) w world = stops-so rcode delay world (session_of_word world w)
session-so session_events.Cut w world = cut-so w world

pub lines-are-calls : LinesAreCalls
lines-are-calls silent world = refl
lines-are-calls (head_line line) world = refl
lines-are-calls (joining w is_lone) world = refl
lines-are-calls (hub_event event) world = hub-so event world
lines-are-calls (link_event w event) world = refl
lines-are-calls (client_call w call) world = asks-so call w world
lines-are-calls (client_passing w way) world = passes-so way w world
lines-are-calls (client_event w event) world = client-so event w world
lines-are-calls (session_event w event) world = session-so event w world

-- ---- scripts

pub scripts-are-calls : ScriptsAreCalls
scripts-are-calls [] world = refl
scripts-are-calls (line ∷ lines) world =
    let later : World = (line_does by_history line world).0 in
    scripts-are-calls lines later ∙ ap (λ (h : Hub). after_calls (script_calls lines later) h) (lines-are-calls line world)
    ∙ sym (calls-append (line_calls line world) (script_calls lines later) world.hub)

-- the calls of lines, and behind them those of others
pub calls-behind : (lines more : List ScriptLine) (world : World) → script_calls (lines ++ more) world ≡ script_calls lines world ++ script_calls more (world_after lines world)
calls-behind [] more world = refl
calls-behind (line ∷ lines) more world =
    let later : World = (line_does by_history line world).0 in
    ap (λ (cs : List HubCall). line_calls line world ++ cs) (calls-behind lines more later)
    ∙ sym (append_assoc (line_calls line world) (script_calls lines later) (script_calls more (world_after lines later)))
