-- The words of a world's clients behind lines: those that there were, and those that the lines name.
--     words-line, links-line      the law of a line, and that the links keep their words
--     distinct-front      no word twice among the first
use Rattle.std.proofs.Common.{◌≡◌, ℕ, Bool, true, false, List, [], ◌∷◌, ◌++◌, fold, Option, Some, None, option_to_list, ap, refl, sym, ◌∙◌, append-nil}
use Rattle.std.specs.List.{IsDistinct}
use Rattle.std.specs.Str.{bytes_eq}
use Rattle.std.proofs.lemmas.List.{map-append}
use Rattle.coalesce.proofs.Packing.{each-front}
use Rattle.pushserver.specs.Hubs.{now}
use Rattle.pushserver.proofs.Walks.{with_new}
use Rattle.pushclient.specs.Clients.{closed_as, connected}
use Rattle.pushclient.specs.Steps as steps
use Rattle.scripts.specs.Lines.{Word, ScriptLine, silent, head_line, joining, hub_event, link_event, client_call, client_passing, client_event, session_event}
use Rattle.scripts.specs.declared.line.HubEvent.{HubEvent}
use Rattle.scripts.specs.declared.line.HubEvent.TheVariants as hub_events
use Rattle.scripts.specs.declared.line.Call.{Call}
use Rattle.scripts.specs.declared.line.ClientEvent.{ClientEvent}
use Rattle.scripts.specs.declared.line.ClientEvent.TheVariants as client_events
use Rattle.scripts.specs.declared.line.SessionEvent.{SessionEvent}
use Rattle.scripts.specs.declared.line.SessionEvent.TheVariants as session_events
use Rattle.scripts.specs.Scripts.{client_word, AreDistinct}
use Rattle.replay.specs.World.{Seat, World, new_seat, with_seat, cut_seat, cut_connection, is_over, world_cut_if}
use Rattle.replay.specs.TextWords.{by_history}
use Rattle.replay.specs.Text.{Printed, timed, called, asks, opens, exchanges, feeds, line_does, hub_does, link_does, client_does, session_does, passes_way, passes}
use Rattle.replay.specs.KeptWorlds.{words_in}
use Rattle.replay.proofs.worlds.OneWorld.{shows-leave}
use Rattle.replay.proofs.worlds.FedSeats.{fed, fed_over}
use Rattle.replay.proofs.worlds.LinesDoing.{with_peer, hub_timed, moment_now, cut-does, exchange-does, send-does, ask-does, open-does, feed-does}
use Rattle.scripts.specs.declared.line.Way.{Way}
use Rattle.replay.proofs.worlds.PassedWorlds.{passed-world, pass-does}
use Rattle.replay.proofs.worlds.Seats.{words-put}

pub distinct-front : (xs ys : List Word) → AreDistinct (xs ++ ys) → AreDistinct xs
unfolding IsDistinct
distinct-front [] ys h = tt
distinct-front (x ∷ xs) ys h = (each-front (λ y. bytes_eq x y ≡ false) xs ys h.0, distinct-front xs ys h.1)

-- ---- the same words

-- of the clients and of the links
abbrev Same : World → World → Type 0
Same world later = (words_in later ≡ words_in world) × (later.links ≡ world.links)

same : (world : World) → Same world world
same world = (refl, refl)

and-then : (world between later : World) → Same between later → Same world between → Same world later
and-then world between later there here = (there.0 ∙ here.0, there.1 ∙ here.1)

same-put : (x : Seat) (world : World) → Same world (with_seat x world)
same-put x world = (words-put x world.seats, refl)

same-cut_connection : (seat : Seat) (world : World) → Same world (cut_connection seat world)
same-cut_connection seat world = (words-put (cut_seat seat) world.seats, refl)

same-cut_if : (over : Bool) (seat : Seat) (world : World) → Same world (world_cut_if over seat world)
same-cut_if false seat world = same world
same-cut_if true seat world = same-cut_connection seat world

same-timed : (t : ℕ) (seats : List Seat) (p : Printed) → Same p.0 (fold (timed t) p seats).0
same-timed t [] p = same p.0
same-timed t (seat ∷ seats) p =
    let later : Seat = record seat { client = steps.moment seat.client t } in
    let closed = timed t p seat in
    and-then p.0 closed.0 (fold (timed t) closed seats).0 (same-timed t seats closed)
    (and-then p.0 (with_seat later p.0) closed.0 (same-cut_if (is_over None (closed_as later.client)) later (with_seat later p.0)) (same-put later p.0))

module _ (world : World) where
  abbrev Keeps : World → Type 0
  Keeps later = Same world later

  same-exchanges : (w : Word) (number : ℕ) (octets : List ℕ) (there : World) → Keeps there → Keeps (exchanges w number octets there).0
  same-exchanges w number octets there h = exchange-does there Keeps w number octets h h

  same-asks : (call : Call) (w : Word) → Keeps (asks call w world).0
  same-asks call w = ask-does world Keeps w call (same world) (λ seat e. same-put (record seat { client = (called call seat.client).1 }) world)

  same-opens : (w : Word) → Keeps (opens w world).0
  same-opens w =
      open-does world Keeps w (same world) (λ seat e. same-put (record seat { client = connected (now world.hub) seat.client }) world)
      (λ seat e hub. same-put (record seat { client = connected (now world.hub) seat.client; session = Some world.hub.numbers_given }) (record world { hub = with_new world.hub }))

  -- a client whose octets pass keeps its word
  same-passes : (way : Way) (w : Word) → Keeps (passes way w world).0
  same-passes way w = pass-does Keeps way w world (same world) (λ seat e.
      let p = passes_way way world seat in
      let over = is_over p.over (closed_as p.seat.client) in
      let there : Same world p.world = (ap words_in (passed-world way world seat), ap (λ (v : World). v.links) (passed-world way world seat)) in
      and-then world (with_seat p.seat p.world) (world_cut_if over p.seat (with_seat p.seat p.world)) (same-cut_if over p.seat (with_seat p.seat p.world)) (and-then world p.world (with_seat p.seat p.world) (same-put p.seat p.world) there))

  same-feeds : (w : Word) (octets : List ℕ) → Keeps (feeds w octets world).0
  same-feeds w octets = feed-does world Keeps w octets (same world) (λ seat e connects.
      let p = fed octets world seat in
      let over = fed_over octets world seat in
      and-then world (with_seat p.seat world) (world_cut_if over p.seat (with_seat p.seat world)) (same-cut_if over p.seat (with_seat p.seat world)) (same-put p.seat world))

  same-hub : (event : HubEvent) → Keeps (hub_does event world).0
  same-hub (hub_events.At t) = same-timed (moment_now world t) world.seats (hub_timed world t)
  same-hub (hub_events.Update message) = same world
  same-hub hub_events.Point = same world

  same-client : (event : ClientEvent) (w : Word) → Keeps (client_does by_history event w world).0
  same-client client_events.Open w = same-opens w
  same-client (client_events.Feed octets) w = same-feeds w octets
  same-client (client_events.Show question written) w = (ap words_in (shows-leave by_history w question written world), ap (λ (v : World). v.links) (shows-leave by_history w question written world))

  same-session : (event : SessionEvent) (w : Word) → Keeps (session_does event w world).0
  same-session (session_events.Send octets) w =
      send-does world Keeps w octets (λ number is. same-exchanges w number octets world (same world)) (same-exchanges w world.hub.numbers_given octets (with_peer w world) (same world)) (same world)
  same-session (session_events.Stop rcode delay) w = same world
  same-session session_events.Cut w = cut-does world Keeps w (λ seat e. same-cut_connection seat world) (same world)

  -- the words behind a line that names the client, if it names one
  abbrev Adds : Option Word → World → Type 0
  Adds word later = (words_in later ≡ words_in world ++ option_to_list word) × (later.links ≡ world.links)

  quiet : (later : World) → Keeps later → Adds None later
  quiet later h = (h.0 ∙ sym (append-nil (words_in world)), h.1)

-- the words of the clients with the one that a line names, and those of the links
pub each-line : (line : ScriptLine) (world : World) → Adds world (client_word line) (line_does by_history line world).0
each-line silent world = quiet world world (same world)
each-line (head_line line) world = quiet world world (same world)
each-line (joining w is_lone) world = (map-append (λ (s : Seat). s.word) world.seats (new_seat w is_lone ∷ []), refl)
each-line (hub_event event) world = quiet world (hub_does event world).0 (same-hub world event)
each-line (link_event w event) world = quiet world (link_does event w world).0 (same world)
each-line (client_call w call) world = quiet world (asks call w world).0 (same-asks world call w)
each-line (client_passing w way) world = quiet world (passes way w world).0 (same-passes world way w)
each-line (client_event w event) world = quiet world (client_does by_history event w world).0 (same-client world event w)
each-line (session_event w event) world = quiet world (session_does event w world).0 (same-session world event w)

pub words-line : (line : ScriptLine) (world : World) → words_in (line_does by_history line world).0 ≡ words_in world ++ option_to_list (client_word line)
words-line line world = (each-line line world).0

pub links-line : (line : ScriptLine) (world : World) → (line_does by_history line world).0.links ≡ world.links
links-line line world = (each-line line world).1
