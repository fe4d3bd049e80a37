-- What every call keeps stays in each world that lines reach.
--     KeepsClients Good C, any-clients      what is kept of clients, and that nothing is
--     AreReady Good C world, any-ready      what is good of what clients have said
--     keeps-lines      the law
use Rattle.std.proofs.Common.{◌≡◌, ℕ, Bool, true, false, cond, List, [], ◌∷◌, fold, Option, Some, None, sym, subst, ◌-◌, take, min, length}
use Rattle.std.specs.Str.{bytes_eq}
use Rattle.coalesce.proofs.ReadBack.{each-append}
use Rattle.dnsname.specs.Names.{octets}
use Rattle.rrset.specs.declared.record.Question.{Question}
use Rattle.rrset.specs.declared.record.Rr.{Rr}
use Rattle.std.specs.List.{AllByRecursion}
use Rattle.pushserver.specs.PlainHubs.{Hub}
use Rattle.pushserver.specs.Calls.{updates, moves}
use Rattle.pushserver.specs.Hubs.{taken_by, now}
use Rattle.pushserver.proofs.session_steps.Lists.{found-each}
use Rattle.pushserver.proofs.Walks.{AnyMessage, BringsGood, IsKept, keeps-called, keeps-calls, with_new}
use Rattle.pushclient.specs.Clients.{Client, new_client, subscribe, unsubscribe, reconfirm as doubt, closed_as, connected, cut as cut_client, give_octets, output_of}
use Rattle.pushclient.specs.Steps as steps
use Rattle.scripts.specs.Lines.{Word, ScriptLine, silent, head_line, joining, hub_event, link_event, client_call, client_passing, client_event, session_event}
use Rattle.scripts.specs.declared.line.HubEvent.{HubEvent}
use Rattle.scripts.specs.declared.line.HubEvent.TheVariants as hub_events
use Rattle.scripts.specs.declared.line.LinkEvent.{LinkEvent}
use Rattle.scripts.specs.declared.line.LinkEvent.TheVariants as link_events
use Rattle.scripts.specs.declared.line.Call.{Call}
use Rattle.scripts.specs.declared.line.Call.TheVariants as calls
use Rattle.scripts.specs.declared.line.ClientEvent.{ClientEvent}
use Rattle.scripts.specs.declared.line.ClientEvent.TheVariants as client_events
use Rattle.scripts.specs.declared.line.SessionEvent.{SessionEvent}
use Rattle.scripts.specs.declared.line.SessionEvent.TheVariants as session_events
use Rattle.replay.specs.World.{Seat, World, seat_of, with_seat, with_client, joined, session_number, hub_without, stopped_hub, cut_connection, cut_peer, new_seat, cut_seat, is_over, world_cut_if}
use Rattle.replay.specs.PassedOctets.{enough, max_wire, to_client, reached_by}
use Rattle.replay.specs.TextWords.{by_history}
use Rattle.replay.specs.Text.{Printed, feeds, timed, called, asks, opens, exchanges, sends, cuts, session_of_word, line_does, link_calls, hub_does, client_does, session_does, world_after, seated, passes_way, passes}
use Rattle.replay.proofs.worlds.OneWorld.{shows-leave}
use Rattle.replay.proofs.worlds.FedSeats.{fed, fed_over}
use Rattle.replay.proofs.worlds.Keeping.{InParts, exchanged-keeps, give-keeps}
use Rattle.replay.proofs.worlds.LinesDoing.{with_peer, hub_timed, moment_now, exchanged_with, cut-does, exchange-does, send-does, ask-does, open-does, feed-does}
use Rattle.scripts.specs.declared.line.Way.{Way}
use Rattle.replay.proofs.worlds.PassedWorlds.{PassingsKeep, passing-keeps, passed-world, pass-does}
use Rattle.replay.proofs.worlds.Seats.{put_seat}
use Rattle.scripts.proofs.lines.SentOctets.{sent_by}

-- What is kept of a client, whatever it is called and told, if the names that it asks for, and the records that it doubts, are good; and what it has to send is good.
pub record KeepsClients (Good : List ℕ → Type 0) (C : Client → Type 0) : Type 0 where
  pub new : C new_client
  pub subscribes : (client : Client) (q : Question) → Good (octets q.name) → C client → C (subscribe client q).1
  pub unsubscribes : (client : Client) (q : Question) → C client → C (unsubscribe client q).1
  pub reconfirms : (client : Client) (rr : Rr) → Good (octets rr.owner) → Good rr.rdata → C client → C (doubt client rr).1
  pub connects : (client : Client) (t : ℕ) → C client → C (connected t client)
  pub cuts : (client : Client) → C client → C (cut_client client)
  pub times : (client : Client) (t : ℕ) → C client → C (steps.moment client t)
  pub gives : (client : Client) (n : ℕ) → C client → C (give_octets n client)
  pub delivers : (client : Client) (piece : List ℕ) → C client → C (to_client piece client).client
  pub says : (client : Client) → C client → Good (output_of client)

abbrev pub AnyClient : Client → Type 0
AnyClient client = Unit {0}

pub any-clients : KeepsClients AnyMessage AnyClient
any-clients = record {
  new = tt;
  subscribes = λ client q name c. tt;
  unsubscribes = λ client q c. tt;
  reconfirms = λ client rr name rdata c. tt;
  connects = λ client t c. tt;
  cuts = λ client c. tt;
  times = λ client t c. tt;
  gives = λ client n c. tt;
  delivers = λ client piece c. tt;
  says = λ client c. tt;
}

-- a client's octets on their way up are good
pub record IsReady (Good : List ℕ → Type 0) (C : Client → Type 0) (seat : Seat) : Type 0 where
  pub wire : Good seat.up_wire
  pub client : C seat.client

abbrev pub AreReady : (List ℕ → Type 0) → (Client → Type 0) → World → Type 0
AreReady Good C world = AllByRecursion (IsReady Good C) world.seats

any-seats : (seats : List Seat) → AllByRecursion (IsReady AnyMessage AnyClient) seats
any-seats [] = tt
any-seats (s ∷ ss) = (record { wire = tt; client = tt }, any-seats ss)

pub any-ready : (world : World) → AreReady AnyMessage AnyClient world
any-ready world = any-seats world.seats

-- an event on a link brings what its line sends
pub link-brings : (Good : List ℕ → Type 0) (event : LinkEvent) (w : Word) (world : World) → AllByRecursion Good (sent_by (link_event w event)) → AllByRecursion (BringsGood Good) (link_calls event w world)
link-brings Good (link_events.Hear datagram) w world q = (q.0, tt)
link-brings Good link_events.Gone w world q = (tt, tt)
link-brings Good link_events.Asks w world q = tt

module _ (Good : List ℕ → Type 0) (P : Hub → Type 0) (kept : IsKept Good P) (parts : InParts Good) (C : Client → Type 0) (clients : KeepsClients Good C) where
  abbrev Ready : Seat → Type 0
  Ready seat = IsReady Good C seat

  -- of the hub and of all clients
  pub record Has (world : World) : Type 0 where
    pub hub : P world.hub
    pub seats : AllByRecursion Ready world.seats

  keeps-without : (hub : Hub) (o : Option ℕ) → P hub → P (hub_without o hub)
  keeps-without hub None h = h
  keeps-without hub (Some number) h = kept.drops hub number h

  ready-put : (v : Word) (x : Seat) (seats : List Seat) → Ready x → AllByRecursion Ready seats → AllByRecursion Ready (put_seat v x seats)
  ready-put v x [] new all = tt
  ready-put v x (s ∷ ss) new all = (by (bytes_eq s.word v), ready-put v x ss new all.1)
    where
      by : (b : Bool) → Ready (cond b x s)
      by true = new
      by false = all.0

  ready-found : (w : Word) (world : World) (seat : Seat) → seat_of world w ≡ Some seat → Has world → Ready seat
  ready-found w world seat found h = (found-each Ready (λ s. bytes_eq s.word w) world.seats seat h.seats found).0

  keeps-put : (x : Seat) (world : World) → Ready x → Has world → Has (with_seat x world)
  keeps-put x world new h = record { hub = h.hub; seats = ready-put x.word x world.seats new h.seats }

  ready-cut : (seat : Seat) → Ready seat → Ready (cut_seat seat)
  ready-cut seat r = record { wire = parts.nothing; client = clients.cuts seat.client r.client }

  keeps-cut_peer : (w : Word) (world : World) → Has world → Has (cut_peer w world)
  keeps-cut_peer w world h = record { hub = keeps-without world.hub (session_number world w) h.hub; seats = h.seats }

  keeps-cut_connection : (seat : Seat) (world : World) → Ready seat → Has world → Has (cut_connection seat world)
  keeps-cut_connection seat world r h = record { hub = keeps-without world.hub seat.session h.hub; seats = ready-put seat.word (cut_seat seat) world.seats (ready-cut seat r) h.seats }

  keeps-cut_if : (over : Bool) (seat : Seat) (world : World) → Ready seat → Has world → Has (world_cut_if over seat world)
  keeps-cut_if false seat world r h = h
  keeps-cut_if true seat world r h = keeps-cut_connection seat world r h

  -- clients at a moment
  keeps-timed : (t : ℕ) (seats : List Seat) (p : Printed) → AllByRecursion Ready seats → Has p.0 → Has (fold (timed t) p seats).0
  keeps-timed t [] p all h = h
  keeps-timed t (seat ∷ seats) p all h =
      let later : Seat = record seat { client = steps.moment seat.client t } in
      let ready : Ready later = record { wire = all.0.wire; client = clients.times seat.client t all.0.client } in
      keeps-timed t seats (timed t p seat) all.1 (keeps-cut_if (is_over None (closed_as later.client)) later (with_seat later p.0) ready (keeps-put later p.0 ready h))

  keeps-exchanges : (w : Word) (number : ℕ) (octets : List ℕ) (world : World) → Good octets → Has world → Has (exchanges w number octets world).0
  keeps-exchanges w number octets world q h =
      let behind : Has (exchanged_with world number octets) = record { hub = exchanged-keeps Good P kept parts enough number octets world.hub [] q h.hub; seats = h.seats } in
      exchange-does world Has w number octets behind (keeps-cut_peer w (exchanged_with world number octets) behind)

  -- a world with a session more
  keeps-new : (world : World) → Has world → Has (record world { hub = with_new world.hub })
  keeps-new world h = record { hub = kept.makes world.hub h.hub; seats = h.seats }

  keeps-sends : (w : Word) (octets : List ℕ) (world : World) → Good octets → Has world → Has (sends w octets world).0
  keeps-sends w octets world q h =
      let new : Has (with_peer w world) = (let more = keeps-new world h in record { hub = more.hub; seats = more.seats }) in
      send-does world Has w octets (λ number is. keeps-exchanges w number octets world q h) (keeps-exchanges w world.hub.numbers_given octets (with_peer w world) q new) h

  keeps-cuts : (w : Word) (world : World) → Has world → Has (cuts w world).0
  keeps-cuts w world h = cut-does world Has w (λ seat e. keeps-cut_connection seat world (ready-found w world seat e h) h) (keeps-cut_peer w world h)

  keeps-stopped : (o : Option ℕ) (rcode delay : ℕ) (hub : Hub) → P hub → P (stopped_hub o rcode delay hub)
  keeps-stopped None rcode delay hub h = h
  keeps-stopped (Some number) rcode delay hub h = kept.asks_stop hub number rcode delay h

  -- a call of a client leaves the hub
  keeps-call : (w : Word) (call : Call) (client : Client) → AllByRecursion Good (sent_by (client_call w call)) → C client → C (called call client).1
  keeps-call w (calls.Ask question) client q c = clients.subscribes client question q.0 c
  keeps-call w (calls.Drop question) client q c = clients.unsubscribes client question c
  keeps-call w (calls.Reconfirm rr) client q c = clients.reconfirms client rr q.0 q.1.0 c

  keeps-asks : (call : Call) (w : Word) (world : World) → AllByRecursion Good (sent_by (client_call w call)) → Has world → Has (asks call w world).0
  keeps-asks call w world q h = ask-does world Has w call h (λ seat e.
      let r = ready-found w world seat e h in
      keeps-put (record seat { client = (called call seat.client).1 }) world (record { wire = r.wire; client = keeps-call w call seat.client q r.client }) h)

  keeps-opens : (w : Word) (world : World) → Has world → Has (opens w world).0
  keeps-opens w world h =
      open-does world Has w h (λ seat e. keeps-put (with_client (connected (now world.hub)) seat) world (ready seat e) h)
      (λ seat e hub. keeps-put (joined (now world.hub) world.hub.numbers_given seat) (record world { hub = with_new world.hub }) (record { wire = (ready seat e).wire; client = (ready seat e).client }) (keeps-new world h))
    where
      ready : (seat : Seat) → seat_of world w ≡ Some seat → Ready (with_client (connected (now world.hub)) seat)
      ready seat e = (let r = ready-found w world seat e h in record { wire = r.wire; client = clients.connects seat.client (now world.hub) r.client })

  -- one client more
  keeps-seated : (w : Word) (is_lone : Bool) (world : World) → Has world → Has (seated w is_lone world).0
  keeps-seated w is_lone world h = record { hub = h.hub; seats = each-append Ready world.seats (new_seat w is_lone ∷ []) h.seats (record { wire = parts.nothing; client = clients.new }, tt) }

  -- octets pass
  passings-keep : PassingsKeep Ready
  passings-keep = record {
    says = λ n world seat r.
        let piece = take (min n (max_wire - length seat.up_wire)) (output_of seat.client) in
        record { wire = parts.behind seat.up_wire piece r.wire (parts.front (min n (max_wire - length seat.up_wire)) (output_of seat.client) (clients.says seat.client r.client)); client = clients.gives seat.client (length piece) r.client };
    ups = λ number n world seat r. record { wire = parts.rest (taken_by world.hub number (take n seat.up_wire)) seat.up_wire r.wire; client = r.client };
    emits = λ number n world seat r. record { wire = r.wire; client = r.client };
    downs = λ n world seat r. record { wire = r.wire; client = clients.delivers seat.client (take n seat.down_wire) r.client };
  }

  keeps-passes : (way : Way) (w : Word) (world : World) → Has world → Has (passes way w world).0
  keeps-passes way w world h = pass-does Has way w world h (λ seat e.
      let p = passes_way way world seat in
      let both = passing-keeps P Ready passings-keep way world seat (λ number some. give-keeps Good P kept number) (λ number some hub x k ready i. kept.takes_in hub number (take k x.up_wire) (parts.front k x.up_wire ready.wire) i) h.hub
      (ready-found w world seat e h) in
      let later : Has p.world = record { hub = both.0; seats = subst (λ (x : World). AllByRecursion Ready x.seats) (sym (passed-world way world seat)) h.seats } in
      keeps-cut_if (is_over p.over (closed_as p.seat.client)) p.seat (with_seat p.seat p.world) both.1 (keeps-put p.seat p.world both.1 later))

  -- octets to a lone client
  keeps-feeds : (w : Word) (octets : List ℕ) (world : World) → Has world → Has (feeds w octets world).0
  keeps-feeds w octets world h = feed-does world Has w octets h (λ seat e connects.
      let p = fed octets world seat in
      let r = ready-found w world seat e h in
      let ready : Ready p.seat = record { wire = r.wire; client = clients.gives (reached_by octets seat.client) (length (output_of (reached_by octets seat.client))) (clients.delivers seat.client octets r.client) } in
      keeps-cut_if (fed_over octets world seat) p.seat (with_seat p.seat world) ready (keeps-put p.seat world ready h))

  -- ---- lines

  keeps-hub : (event : HubEvent) (world : World) → AllByRecursion Good (sent_by (hub_event event)) → Has world → Has (hub_does event world).0
  keeps-hub (hub_events.At t) world q h = keeps-timed (moment_now world t) world.seats (hub_timed world t) h.seats (record { hub = keeps-called Good P kept (moves t) world.hub tt h.hub; seats = h.seats })
  keeps-hub (hub_events.Update message) world q h = record { hub = keeps-called Good P kept (updates message) world.hub q.0 h.hub; seats = h.seats }
  keeps-hub hub_events.Point world q h = h

  keeps-client : (event : ClientEvent) (w : Word) (world : World) → Has world → Has (client_does by_history event w world).0
  keeps-client client_events.Open w world h = keeps-opens w world h
  keeps-client (client_events.Feed octets) w world h = keeps-feeds w octets world h
  keeps-client (client_events.Show question written) w world h = subst Has (sym (shows-leave by_history w question written world)) h

  keeps-session : (event : SessionEvent) (w : Word) (world : World) → AllByRecursion Good (sent_by (session_event w event)) → Has world → Has (session_does event w world).0
  keeps-session (session_events.Send octets) w world q h = keeps-sends w octets world q.0 h
  keeps-session (session_events.Stop rcode delay) w world q h = record { hub = keeps-stopped (session_of_word world w) rcode delay world.hub h.hub; seats = h.seats }
  keeps-session session_events.Cut w world q h = keeps-cuts w world h

  pub keeps-line : (line : ScriptLine) (world : World) → AllByRecursion Good (sent_by line) → Has world → Has (line_does by_history line world).0
  keeps-line silent world q h = h
  keeps-line (head_line line) world q h = h
  keeps-line (joining w is_lone) world q h = keeps-seated w is_lone world h
  keeps-line (hub_event event) world q h = keeps-hub event world q h
  keeps-line (link_event w event) world q h = record { hub = keeps-calls Good P kept (link_calls event w world) world.hub (link-brings Good event w world q) h.hub; seats = h.seats }
  keeps-line (client_call w call) world q h = keeps-asks call w world q h
  keeps-line (client_passing w way) world q h = keeps-passes way w world h
  keeps-line (client_event w event) world q h = keeps-client event w world h
  keeps-line (session_event w event) world q h = keeps-session event w world q h

  keeps-each : (lines : List ScriptLine) (world : World) → AllByRecursion (λ line. AllByRecursion Good (sent_by line)) lines → Has world → Has (world_after lines world)
  keeps-each [] world sent h = h
  keeps-each (line ∷ lines) world sent h = keeps-each lines (line_does by_history line world).0 sent.1 (keeps-line line world sent.0 h)

  pub keeps-lines : (lines : List ScriptLine) (world : World) → AllByRecursion (λ line. AllByRecursion Good (sent_by line)) lines → AreReady Good C world → P world.hub → P (world_after lines world).hub
  keeps-lines lines world sent ready h = (keeps-each lines world sent (record { hub = h; seats = ready })).hub
