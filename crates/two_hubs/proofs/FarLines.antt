-- What a line of the second half, but for a carry, makes of its hub's history: nothing, or a later moment.
--     IsOwn line, own-line      no update, nothing of a link, and no octets of a peer
--     Makes hub later, line-makes
use Rattle.std.proofs.Common.{◌≡◌, ℕ, ◌&&◌, ◌||◌, not, Bool, true, false, cond, List, [], ◌∷◌, ◌++◌, fold, Option, Some, None, refl, sym, ◌∙◌, ap}
use Rattle.std.specs.Prelude.{codes}
use Rattle.history.specs.States.{accepts}
use Rattle.history.specs.declared.entry.Entry.TheVariants as entries
use Rattle.pushserver.specs.Hubs as hubs
use Rattle.pushserver.specs.Hubs.{now, state_now, can_enter, connect}
use Rattle.pushserver.specs.PlainHubs.{Hub}
use Rattle.pushserver.proofs.Walks.{holds-connect}
use Rattle.pushserver.proofs.hub_steps.Cases.{moment_as}
use Rattle.pushclient.specs.Clients.{closed_as, is_connected, connected, output_of}
use Rattle.pushclient.specs.Steps as steps
use Rattle.scripts.specs.Lines.{Word, ScriptLine, silent, head_line, joining, hub_event, link_event, client_call, client_passing, client_event, session_event}
use Rattle.scripts.specs.Scripts.{Known, is_among, fits}
use Rattle.scripts.specs.declared.line.HubEvent.TheVariants as hub_events
use Rattle.scripts.specs.declared.line.Call.{Call}
use Rattle.scripts.specs.declared.line.Way.{Way}
use Rattle.scripts.specs.declared.line.ClientEvent.{ClientEvent}
use Rattle.scripts.specs.declared.line.ClientEvent.TheVariants as client_events
use Rattle.scripts.specs.declared.line.SessionEvent.TheVariants as session_events
use Rattle.scripts.specs.WholeLines.{one, far_of, is_timers}
use Rattle.replay.specs.World.{World, Seat, seat_of, with_seat, session_number, hub_without, stopped_hub, world_cut_if, cut_connection, cut_peer, is_over}
use Rattle.replay.specs.PassedOctets.{Passed, passed, reached_by, fed_client}
use Rattle.replay.specs.TextWords.{by_history, bytes_words}
use Rattle.replay.specs.Text.{Printed, quietly, printing, finished, passing_of, passes_way, passes, way_words, asks, timed, moments, opens, opens_lone, opens_hub, cuts, feeds, feeds_connected, session_of_word, line_does}
use Rattle.replay.proofs.worlds.OneWorld.{shows-leave}
use Rattle.replay.proofs.worlds.PassedWorlds.{does_by}
use Rattle.replay.proofs.worlds.SeatLines.{asks_by}
use Rattle.script_laws.proofs.lines.Starting.{is_allowed}
use Rattle.script_laws.proofs.texts.Along.{seat-stands}
use Rattle.script_laws.proofs.texts.Shows.{stands_as}
use Rattle.two_hubs.proofs.Growing.{Unlinked}
use Rattle.two_hubs.proofs.Still.{way-still}
use Rattle.two_hubs.proofs.WorldsAlong.{IsStanding}

-- ---- such lines

abbrev pub IsOwn : ScriptLine → Type 0
IsOwn (hub_event (hub_events.Update message)) = ⊥
IsOwn (link_event w event) = ⊥
IsOwn (session_event w (session_events.Send octets)) = ⊥
IsOwn _ = Unit {0}

module _ (all : List Word) (is_far : Word → Bool) (among : (w : Word) → is_far w ≡ true → is_among all w ≡ true) where
  pub own-line : (k later : Known) (line : ScriptLine) → fits all k (far_of is_far (one line)) ≡ Some later → IsOwn (far_of is_far (one line))
  own-line k later silent f = tt
  own-line k later (head_line line) f = by (is_timers line)
    where
      by : (b : Bool) → IsOwn (cond b (head_line line) silent)
      by true = tt
      by false = tt
  own-line k later (joining w is_lone) f = tt
  own-line k later (hub_event (hub_events.At t)) f = tt
  own-line k later (hub_event (hub_events.Update message)) f = tt
  own-line k later (hub_event hub_events.Point) f = tt
  own-line k later (link_event w event) f = tt
  own-line k later (client_call w call) f = by (is_far w || false)
    where
      by : (b : Bool) → IsOwn (cond b (client_call w call) silent)
      by true = tt
      by false = tt
  own-line k later (client_passing w way) f = by (is_far w || false)
    where
      by : (b : Bool) → IsOwn (cond b (client_passing w way) silent)
      by true = tt
      by false = tt
  own-line k later (client_event w event) f = by (is_far w || false)
    where
      by : (b : Bool) → IsOwn (cond b (client_event w event) silent)
      by true = tt
      by false = tt
  own-line k later (session_event w (session_events.Send octets)) f = by (is_far w) refl f
    where
      by : (b : Bool) → is_far w ≡ b → fits all k (cond (b || false) (session_event w (session_events.Send octets)) silent) ≡ Some later → IsOwn (cond (b || false) (session_event w (session_events.Send octets)) silent)
      by true is g =
          let peer : not (is_among all w) ≡ true = (is_allowed _ _ _ g).0 in
          let wrong : false ≡ true = sym (ap not (among w is)) ∙ peer in
          absurd cc
      by false is g = tt
  own-line k later (session_event w (session_events.Stop rcode delay)) f = by (is_far w || false)
    where
      by : (b : Bool) → IsOwn (cond b (session_event w (session_events.Stop rcode delay)) silent)
      by true = tt
      by false = tt
  own-line k later (session_event w session_events.Cut) f = by (is_far w || false)
    where
      by : (b : Bool) → IsOwn (cond b (session_event w session_events.Cut) silent)
      by true = tt
      by false = tt

-- ---- what they make

pub data Makes (hub later : Hub) : Type 0 where
  nothing : later.history ≡ hub.history → Makes hub later
  moment : (t : ℕ) → later.history ≡ hub.history ++ entries.Moment t ∷ [] → Makes hub later

without-still : (o : Option ℕ) (hub : Hub) → (hub_without o hub).history ≡ hub.history
without-still None hub = refl
without-still (Some number) hub = refl

stopped-still : (o : Option ℕ) (rcode delay : ℕ) (hub : Hub) → (stopped_hub o rcode delay hub).history ≡ hub.history
stopped-still None rcode delay hub = refl
stopped-still (Some number) rcode delay hub = refl

cut-still : (b : Bool) (seat : Seat) (world : World) → (world_cut_if b seat world).hub.history ≡ world.hub.history
cut-still true seat world = without-still seat.session world.hub
cut-still false seat world = refl

connect-still : (hub : Hub) → (connect hub).1.history ≡ hub.history
connect-still hub = holds-connect (λ (h : Hub). h.history ≡ hub.history) hub refl refl

-- clients at a moment
timed-still : (t : ℕ) (seats : List Seat) (so_far : Printed) → (fold (timed t) so_far seats).0.hub.history ≡ so_far.0.hub.history
timed-still t [] so_far = refl
timed-still t (seat ∷ seats) so_far =
    let later : Seat = record seat { client = steps.moment seat.client t } in
    timed-still t seats (timed t so_far seat) ∙ cut-still (is_over None (closed_as later.client)) later (with_seat later so_far.0)

module _ (world : World) where
  abbrev Still : Printed → Type 0
  Still p = p.0.hub.history ≡ world.hub.history

  finished-still : (words : List (List ℕ)) (p : Passed) → p.world.hub.history ≡ world.hub.history → Still (finished words p)
  finished-still words p is = cut-still (is_over p.over (closed_as p.seat.client)) p.seat (with_seat p.seat p.world) ∙ is

  asks-still : (call : Call) (w : Word) → Still (asks call w world)
  asks-still call w = by (seat_of world w)
    where
      by : (o : Option Seat) → Still (asks_by call w world o)
      by None = refl
      by (Some seat) = refl

  opens-hub-still : (seat : Seat) → Still (opens_hub seat world)
  opens-hub-still seat = by (connect world.hub).0
    where
      by : (o : Option ℕ) → Still (elim o as (λ _. Printed) [
        | None ↦ printing (codes "noseat" ∷ seat.word ∷ []) world
        | Some number ↦ printing (codes "open" ∷ seat.word ∷ []) (with_seat (record seat { client = connected (now world.hub) seat.client; session = Some number }) (record world { hub = (connect world.hub).1 }))
      ])
      by None = refl
      by (Some number) = connect-still world.hub

  opens-still : (w : Word) → Still (opens w world)
  opens-still w = by (seat_of world w)
    where
      by_lone : (seat : Seat) (b : Bool) → Still (cond b (opens_lone seat world) (opens_hub seat world))
      by_lone seat true = refl
      by_lone seat false = opens-hub-still seat

      by_open : (seat : Seat) (b : Bool) → Still (cond b (printing (codes "already" ∷ w ∷ []) world) (cond seat.is_lone (opens_lone seat world) (opens_hub seat world)))
      by_open seat true = refl
      by_open seat false = by_lone seat seat.is_lone

      by : (o : Option Seat) → Still (elim o as (λ _. Printed) [
        | None ↦ quietly world
        | Some seat ↦ cond (is_connected seat.client) (printing (codes "already" ∷ w ∷ []) world) (cond seat.is_lone (opens_lone seat world) (opens_hub seat world))
      ])
      by None = refl
      by (Some seat) = by_open seat (is_connected seat.client)

  feeds-still : (w : Word) (octets : List ℕ) → Still (feeds w octets world)
  feeds-still w octets = by (seat_of world w)
    where
      by_open : (seat : Seat) (b : Bool) → Still (cond b (feeds_connected octets world seat) (printing (codes "bytes" ∷ w ∷ codes "-" ∷ []) world))
      by_open seat true = finished-still (bytes_words seat.word (output_of (reached_by octets seat.client))) (passed world (record seat { client = fed_client octets seat.client }) 0) refl
      by_open seat false = refl

      by : (o : Option Seat) → Still (elim o as (λ _. Printed) [
        | None ↦ quietly world
        | Some seat ↦ cond (is_connected seat.client) (feeds_connected octets world seat) (printing (codes "bytes" ∷ w ∷ codes "-" ∷ []) world)
      ])
      by None = refl
      by (Some seat) = by_open seat (is_connected seat.client)

  cuts-still : (w : Word) → Still (cuts w world)
  cuts-still w = by (seat_of world w)
    where
      by : (o : Option Seat) → (elim o as (λ _. World) [ None ↦ cut_peer w world | Some seat ↦ cut_connection seat world ]).hub.history ≡ world.hub.history
      by None = without-still (session_number world w) world.hub
      by (Some seat) = without-still seat.session world.hub

  module _ (standing : IsStanding world) (unlinked : Unlinked world.hub) where
    passes-still : (way : Way) (w : Word) → Still (passes way w world)
    passes-still way w = by (seat_of world w) refl
      where
        by_number : (seat : Seat) (o : Option ℕ) → seat.session ≡ o → stands_as world.hub (standing.0 seat.word) seat o → (elim o as (λ _. Passed) [ None ↦ passed world seat 0 | Some number ↦ passing_of way number world seat ]).world.hub.history ≡ world.hub.history
        by_number seat None has apart = refl
        by_number seat (Some number) has joined = way-still number (standing.0 seat.word) way world seat joined.session joined.connection standing.1.reached unlinked joined.joined

        by : (o : Option Seat) → seat_of world w ≡ o → Still (does_by way w world o)
        by None is = refl
        by (Some seat) is = finished-still (way_words way w (passes_way way world seat).count) (passes_way way world seat) (by_number seat seat.session refl (seat-stands standing.0 world w seat standing.1 is))

    moments-make : (t : ℕ) → Makes world.hub (moments t world).0.hub
    moments-make t = by (accepts (state_now world.hub) (entries.Moment t) && can_enter world.hub) (timed-still (now (hubs.moment world.hub t)) world.seats (quietly (record world { hub = hubs.moment world.hub t })))
      where
        later : Hub
        later = (moments t world).0.hub

        by : (b : Bool) → later.history ≡ (moment_as world.hub t b).history → Makes world.hub later
        by true is = moment t is
        by false is = nothing is

    client-still : (event : ClientEvent) (w : Word) → Still (line_does by_history (client_event w event) world)
    client-still client_events.Open w = opens-still w
    client-still (client_events.Feed octets) w = feeds-still w octets
    client-still (client_events.Show question written) w = ap (λ (x : World). x.hub.history) (shows-leave by_history w question written world)

    pub line-makes : (line : ScriptLine) → IsOwn line → Makes world.hub (line_does by_history line world).0.hub
    line-makes silent own = nothing refl
    line-makes (head_line line) own = nothing refl
    line-makes (joining w is_lone) own = nothing refl
    line-makes (hub_event (hub_events.At t)) own = moments-make t
    line-makes (hub_event (hub_events.Update message)) own = absurd own
    line-makes (hub_event hub_events.Point) own = nothing refl
    line-makes (link_event w event) own = absurd own
    line-makes (client_call w call) own = nothing (asks-still call w)
    line-makes (client_passing w way) own = nothing (passes-still way w)
    line-makes (client_event w event) own = nothing (client-still event w)
    line-makes (session_event w (session_events.Send octets)) own = absurd own
    line-makes (session_event w (session_events.Stop rcode delay)) own = nothing (stopped-still (session_of_word world w) rcode delay world.hub)
    line-makes (session_event w session_events.Cut) own = nothing (cuts-still w)
