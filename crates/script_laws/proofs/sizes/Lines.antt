-- Behind each line the clients of the hub owe little more.
--     AllSized n seats
--     sized-line      the law
use Rattle.std.proofs.Common.{◌≡◌, ℕ, suc, ◌+◌, ◌*◌, ◌≤◌, ◌^◌, Bool, true, false, cond, not, List, [], ◌∷◌, map, fold, Option, Some, None, refl, sym, ◌∙◌, ap, subst, arith, true≢false, le_trans}
use Rattle.std.specs.Prelude.{codes, is_some}
use Rattle.std.specs.List.{AllByRecursion}
use Rattle.std.specs.Str.{bytes_eq}
use Rattle.coalesce.proofs.ReadBack.{each-append}
use Rattle.pushserver.specs.Hubs as hubs
use Rattle.pushserver.specs.Hubs.{now, connect}
use Rattle.pushserver.proofs.hub_steps.Pairs.{all-weaken}
use Rattle.pushclient.specs.Clients.{Client, Connection, connected, closed_as, is_connected}
use Rattle.pushclient.specs.Steps as steps
use Rattle.pushclient.proofs.SoundWishes.{all_found}
use Rattle.inflight.specs.Flight.{AreSoundWishes}
use Rattle.scripts.specs.Lines.{Word, ScriptLine, silent, head_line, joining, hub_event, link_event, client_call, client_passing, client_event, session_event, feed}
use Rattle.scripts.specs.declared.line.HubEvent.{HubEvent}
use Rattle.scripts.specs.declared.line.HubEvent.TheVariants as hub_events
use Rattle.scripts.specs.declared.line.Call.{Call}
use Rattle.scripts.specs.declared.line.Way.{Way}
use Rattle.scripts.specs.declared.line.Way.TheVariants as ways
use Rattle.scripts.specs.declared.line.ClientEvent.{ClientEvent}
use Rattle.scripts.specs.declared.line.ClientEvent.TheVariants as client_events
use Rattle.scripts.specs.declared.line.SessionEvent.{SessionEvent}
use Rattle.scripts.specs.declared.line.SessionEvent.TheVariants as session_events
use Rattle.replay.specs.World.{World, Seat, new_seat, seat_of, with_seat, cut_seat, is_over, world_cut_if}
use Rattle.replay.specs.PassedOctets as running
use Rattle.replay.specs.PassedOctets.{Passed, passed, enough}
use Rattle.replay.specs.TextWords.{by_history}
use Rattle.replay.specs.Text.{Printed, quietly, printing, finished, passing_of, way_words, passes, timed, moments, called, asks, opens_lone, opens_hub, opens, cuts, exchanges, sends, feeds, stops, seated, hub_does, client_does, session_does, line_does}
use Rattle.replay.proofs.worlds.FedSeats.{fed, fed_words}
use Rattle.replay.proofs.worlds.LinesDoing.{with_peer, stop-does, cut-does, exchange-does, send-does, ask-does, feed-does}
use Rattle.replay.proofs.worlds.OneWorld.{shows-leave}
use Rattle.replay.proofs.worlds.PassedWorlds.{passed_as, does_by}
use Rattle.script_laws.specs.Joined.{SeatStands, StandsWith, ShownToEach, WorldStands, PassesSo}
use Rattle.script_laws.specs.Lines.{IsCallWithin, IsRead}
use Rattle.script_laws.specs.Turns.{owes, IsSized, LowersAlways}
use Rattle.script_laws.specs.Walk.{OfEmits, OfDowns, Keeps}
use Rattle.script_laws.proofs.emits.Passing.{rounds-pass}
use Rattle.script_laws.proofs.lines.Premises.{LineLaws, way-keeps}
use Rattle.script_laws.proofs.lines.Cutting.{stands-with, stands-alone}
use Rattle.script_laws.proofs.sizes.Asking.{most_more, called-owes, moment-owes, cut-owes, connected-owes}
use Rattle.script_laws.proofs.sizes.Passing.{OwesNoMore, lowers-owe, settles-owe}
use Rattle.script_laws.proofs.turns.Rounds.{says-lower, ups-lower, rounds-lower}
use Rattle.script_laws.proofs.texts.Along.{seat-stands}

abbrev pub AllSized : ℕ → List Seat → Type 0
AllSized n seats = AllByRecursion (IsSized n) seats

-- ---- seats

later-sized : (n : ℕ) (seats : List Seat) → AllSized n seats → AllSized (suc n) seats
later-sized n seats all = all-weaken (IsSized n) (IsSized (suc n)) (λ s sized own. longer (owes s.client) n (sized own)) seats all
  where
    longer : (owed n : ℕ) → owed ≤ 2 ^ 27 + 2 ^ 17 * n → owed ≤ 2 ^ 27 + 2 ^ 17 * suc n
    longer owed n h = omega (arith, h)

-- one that owes a frame more
more-sized : (n : ℕ) (seat : Seat) (later : Client) → IsSized n seat → owes later ≤ owes seat.client + most_more → IsSized (suc n) (record seat { client = later })
more-sized n seat later sized more own = sums (owes later) (owes seat.client) n more (sized own)
  where
    sums : (later before n : ℕ) → later ≤ before + most_more → before ≤ 2 ^ 27 + 2 ^ 17 * n → later ≤ 2 ^ 27 + 2 ^ 17 * suc n
    sums later before n more sized = omega (arith, more, sized)

-- one that owes no more
less-sized : (n : ℕ) (seat later : Seat) → later.is_lone ≡ seat.is_lone → owes later.client ≤ owes seat.client → IsSized n seat → IsSized n later
less-sized n seat later alone less sized own = le_trans less (sized (sym alone ∙ own))

put-sized : (n : ℕ) (x : Seat) (seats : List Seat) → IsSized n x → AllSized n seats → AllSized n (map (λ s. cond (bytes_eq s.word x.word) x s) seats)
put-sized n x [] sized all = tt
put-sized n x (s ∷ ss) sized all = (by (bytes_eq s.word x.word), put-sized n x ss sized all.1)
  where
    by : (b : Bool) → IsSized n (cond b x s)
    by true = sized
    by false = all.0

cut-sized : (n : ℕ) (seat : Seat) → IsSized n seat → IsSized n (cut_seat seat)
cut-sized n seat sized own = le_trans (cut-owes seat.client) (sized own)

abbrev Sized : ℕ → World → Type 0
Sized n world = AllSized n world.seats

where-sized : (n : ℕ) (over : Bool) (seat : Seat) (world : World) → IsSized n seat → Sized n world → Sized n (world_cut_if over seat world)
where-sized n false seat world sized all = all
where-sized n true seat world sized all = put-sized n (cut_seat seat) world.seats (cut-sized n seat sized) all

finished-sized : (n : ℕ) (words : List (List ℕ)) (p : Passed) → IsSized n p.seat → Sized n p.world → Sized n (finished words p).0
finished-sized n words p sized all =
    where-sized n (is_over p.over (closed_as p.seat.client)) p.seat (with_seat p.seat p.world) sized (put-sized n p.seat p.world.seats sized all)

pub found-sized : (n : ℕ) (world : World) (w : Word) (seat : Seat) → Sized n world → seat_of world w ≡ Some seat → IsSized n seat
found-sized n world w seat all found = all_found (IsSized n) (λ s. bytes_eq s.word w) world.seats seat all found

-- ---- lines of a world

module _ (n : ℕ) (world : World) (sized : Sized n world) where
  abbrev After : World → Type 0
  After later = Sized (suc n) later

  nothing-sized : After world
  nothing-sized = later-sized n world.seats sized

  seated-sized : (w : Word) (is_lone : Bool) → After (seated w is_lone world).0
  seated-sized w is_lone = each-append (IsSized (suc n)) world.seats (new_seat w is_lone ∷ []) nothing-sized ((λ own. omega arith), tt)

  asks-sized : (call : Call) (w : Word) → IsCallWithin call → After (asks call w world).0
  asks-sized call w within =
      ask-does world After w call nothing-sized
      (λ seat found.
      let later : Client = (called call seat.client).1 in
      put-sized (suc n) (record seat { client = later }) world.seats (more-sized n seat later (found-sized n world w seat sized found) (called-owes seat.client call within)) nothing-sized)

  -- ---- a moment

  timed-sized : (t : ℕ) (seats : List Seat) (p : Printed) → AllSized n seats → After p.0 → After (fold (timed t) p seats).0
  timed-sized t [] p some all = all
  timed-sized t (seat ∷ seats) p some all =
      let later : Seat = record seat { client = steps.moment seat.client t } in
      let one : IsSized (suc n) later = more-sized n seat (steps.moment seat.client t) some.0 (moment-owes seat.client t) in
      timed-sized t seats (timed t p seat) some.1
      (where-sized (suc n) (is_over None (closed_as later.client)) later (with_seat later p.0) one (put-sized (suc n) later p.0.seats one all))

  moments-sized : (t : ℕ) → After (moments t world).0
  moments-sized t =
      let later = hubs.moment world.hub t in
      timed-sized (now later) world.seats (record world { hub = later }, []) sized nothing-sized

  -- ---- a connection is cut

  cuts-sized : (w : Word) → After (cuts w world).0
  cuts-sized w =
      cut-does world After w
      (λ seat found.
      let later = later-sized n (seat ∷ []) (found-sized n world w seat sized found, tt) in
      put-sized (suc n) (cut_seat seat) world.seats (cut-sized (suc n) seat later.0) nothing-sized)
      nothing-sized

  -- ---- peers and the hub

  exchanges-sized : (w : Word) (number : ℕ) (octets : List ℕ) (at : World) → After at → After (exchanges w number octets at).0
  exchanges-sized w number octets at all = exchange-does at After w number octets all all

  sends-sized : (w : Word) (octets : List ℕ) → After (sends w octets world).0
  sends-sized w octets =
      send-does world After w octets (λ number known. exchanges-sized w number octets world nothing-sized) (exchanges-sized w world.hub.numbers_given octets (with_peer w world) nothing-sized) nothing-sized

  stops-sized : (w : Word) (rcode delay : ℕ) → After (stops w rcode delay world).0
  stops-sized w rcode delay = stop-does world After w rcode delay (λ seat found. nothing-sized) nothing-sized

  -- ---- lone clients

  lone-sized : (m : ℕ) (seat : Seat) (later : Client) → seat.is_lone ≡ true → IsSized m (record seat { client = later })
  lone-sized m seat later alone own = absurd (true≢false (sym alone ∙ own))

  feeds-sized : (w : Word) (octets : List ℕ) → ((seat : Seat) → seat_of world w ≡ Some seat → seat.is_lone ≡ true) → After (feeds w octets world).0
  feeds-sized w octets is_lone =
      feed-does world After w octets nothing-sized
      (λ seat found connects.
      let p : Passed = fed octets world seat in
      finished-sized (suc n) (fed_words octets seat) p (lone-sized (suc n) seat p.seat.client (is_lone seat found)) nothing-sized)

  -- ---- a connection opens

  module _ (shown : ShownToEach) (stands : WorldStands shown world) where
    wishes-sound : (w : Word) (seat : Seat) → seat_of world w ≡ Some seat → is_connected seat.client ≡ false → seat.is_lone ≡ false → AreSoundWishes seat.client.wishes
    wishes-sound w seat found closed own = by seat.session refl
      where
        here : SeatStands world.hub (shown seat.word) seat
        here = seat-stands shown world w seat stands found

        by : (o : Option ℕ) → seat.session ≡ o → AreSoundWishes seat.client.wishes
        by None none = (stands-alone world.hub (shown seat.word) seat none here).wishes (ap not own)
        by (Some number) has =
            let s : StandsWith world.hub (shown seat.word) seat number = stands-with world.hub (shown seat.word) seat number has here in
            absurd (true≢false (sym (ap (λ (o : Option Connection). is_some o) s.joined.connected) ∙ closed))

    hub-sized : (w : Word) (seat : Seat) → seat_of world w ≡ Some seat → is_connected seat.client ≡ false → seat.is_lone ≡ false → After (opens_hub seat world).0
    hub-sized w seat found closed own = by (connect world.hub).0
      where
        sound : AreSoundWishes seat.client.wishes
        sound = wishes-sound w seat found closed own

        grows : (owed n : ℕ) → owed ≤ 2 ^ 27 → owed ≤ 2 ^ 27 + 2 ^ 17 * suc n
        grows owed n h = omega (arith, h)

        by : (o : Option ℕ) → After (elim o as (λ _. Printed) [
          | None ↦ printing (codes "noseat" ∷ seat.word ∷ []) world
          | Some number ↦ printing (codes "open" ∷ seat.word ∷ []) (with_seat (record seat { client = connected (now world.hub) seat.client; session = Some number }) (record world { hub = (connect world.hub).1 }))
        ]).0
        by None = nothing-sized
        by (Some number) =
            put-sized (suc n) (record seat { client = connected (now world.hub) seat.client; session = Some number }) world.seats
            (λ is. grows (owes (connected (now world.hub) seat.client)) n (connected-owes (now world.hub) seat.client sound.few sound.fit)) nothing-sized

    opens-sized : (w : Word) → After (opens w world).0
    opens-sized w = by (seat_of world w) refl
      where
        by_kind : (seat : Seat) → seat_of world w ≡ Some seat → is_connected seat.client ≡ false → (b : Bool) → seat.is_lone ≡ b → After (cond b (opens_lone seat world) (opens_hub seat world)).0
        by_kind seat found closed true alone = put-sized (suc n) (record seat { client = connected (now world.hub) seat.client }) world.seats (lone-sized (suc n) seat (connected (now world.hub) seat.client) alone) nothing-sized
        by_kind seat found closed false own = hub-sized w seat found closed own

        by_open : (seat : Seat) → seat_of world w ≡ Some seat → (b : Bool) → is_connected seat.client ≡ b → After (cond b (printing (codes "already" ∷ w ∷ []) world) (cond seat.is_lone (opens_lone seat world) (opens_hub seat world))).0
        by_open seat found true open_is = nothing-sized
        by_open seat found false closed = by_kind seat found closed seat.is_lone refl

        by : (o : Option Seat) → seat_of world w ≡ o → After (elim o as (λ _. Printed) [
          | None ↦ quietly world
          | Some seat ↦ cond (is_connected seat.client) (printing (codes "already" ∷ w ∷ []) world) (cond seat.is_lone (opens_lone seat world) (opens_hub seat world))
        ]).0
        by None found = nothing-sized
        by (Some seat) found = by_open seat found (is_connected seat.client) refl

    -- ---- octets pass

    passes-sized : (way : Way) (w : Word) → ((number : ℕ) → Keeps (passing_of way number) number) → ((number : ℕ) → OwesNoMore (passing_of way number) number) → After (passes way w world).0
    passes-sized way w keeps less = by (seat_of world w) refl
      where
        later : (seat : Seat) → IsSized n seat → IsSized (suc n) seat
        later seat one = (later-sized n (seat ∷ []) (one, tt)).0

        words : Passed → List (List ℕ)
        words p = way_words way w p.count

        by_session : (seat : Seat) → seat_of world w ≡ Some seat → (o : Option ℕ) → seat.session ≡ o → After (finished (words (passed_as way world seat o)) (passed_as way world seat o)).0
        by_session seat found None has = finished-sized (suc n) (words (passed world seat 0)) (passed world seat 0) (later seat (found-sized n world w seat sized found)) nothing-sized
        by_session seat found (Some number) has =
            let here : StandsWith world.hub (shown seat.word) seat number = stands-with world.hub (shown seat.word) seat number has (seat-stands shown world w seat stands found) in
            let p : Passed = passing_of way number world seat in
            let so : PassesSo number world (shown seat.word) seat here.connection p = keeps number world (shown seat.word) seat here.session here.connection stands.reached here.joined in
            finished-sized (suc n) (words p) p
            (less-sized (suc n) seat p.seat so.lone (less number world (shown seat.word) seat here.session here.connection stands.reached here.joined) (later seat (found-sized n world w seat sized found)))
            (subst (λ (v : World). Sized (suc n) v) (sym so.world_is) nothing-sized)

        by : (o : Option Seat) → seat_of world w ≡ o → After (does_by way w world o).0
        by None found = nothing-sized
        by (Some seat) found = by_session seat found seat.session refl

-- ---- each line

module _ (laws : LineLaws) (emits-low : OfEmits LowersAlways) (downs-low : OfDowns LowersAlways) (all : List Word) (n : ℕ) (shown : ShownToEach) (world : World) (stands : WorldStands shown world) (sized : Sized n world) where
  way-owes : (way : Way) (number : ℕ) → OwesNoMore (passing_of way number) number
  way-owes (ways.Say k) number = lowers-owe (running.say k) number (says-lower k number)
  way-owes (ways.Up k) number = lowers-owe (running.up number k) number (ups-lower k number)
  way-owes (ways.Emit k) number = lowers-owe (running.emit number k) number (emits-low k number)
  way-owes (ways.Down k) number = lowers-owe (running.down k) number (downs-low k number)
  way-owes ways.Settle number =
      settles-owe laws.go_on (rounds-pass laws.go_on laws.says laws.ups laws.emits laws.downs) (rounds-lower laws.go_on laws.says laws.ups laws.emits emits-low downs-low) enough number None

  -- a client that is fed is lone
  abbrev IsFedLone : ScriptLine → Type 0
  IsFedLone line = (w : Word) (octets : List ℕ) (seat : Seat) → line ≡ feed w octets → seat_of world w ≡ Some seat → seat.is_lone ≡ true

  hub-event-sized : (event : HubEvent) → Sized (suc n) (hub_does event world).0
  hub-event-sized (hub_events.At t) = moments-sized n world sized t
  hub-event-sized (hub_events.Update message) = nothing-sized n world sized
  hub-event-sized hub_events.Point = nothing-sized n world sized

  client-event-sized : (event : ClientEvent) (w : Word) → IsFedLone (client_event w event) → Sized (suc n) (client_does by_history event w world).0
  client-event-sized client_events.Open w fed = opens-sized n world sized shown stands w
  client-event-sized (client_events.Feed octets) w fed = feeds-sized n world sized w octets (λ seat found. fed w octets seat refl found)
  client-event-sized (client_events.Show question written) w fed = subst (Sized (suc n)) (sym (shows-leave by_history w question written world)) (nothing-sized n world sized)

  session-event-sized : (event : SessionEvent) (w : Word) → Sized (suc n) (session_does event w world).0
  session-event-sized (session_events.Send octets) w = sends-sized n world sized w octets
  session-event-sized (session_events.Stop rcode delay) w = stops-sized n world sized w rcode delay
  session-event-sized session_events.Cut w = cuts-sized n world sized w

  pub sized-line : (line : ScriptLine) → IsRead all line → IsFedLone line → Sized (suc n) (line_does by_history line world).0
  sized-line silent is fed = nothing-sized n world sized
  sized-line (head_line line) is fed = nothing-sized n world sized
  sized-line (joining w is_lone) is fed = seated-sized n world sized w is_lone
  sized-line (hub_event event) is fed = hub-event-sized event
  sized-line (link_event w event) is fed = nothing-sized n world sized
  sized-line (client_call w call) is fed = asks-sized n world sized call w is.within
  sized-line (client_passing w way) is fed = passes-sized n world sized shown stands way w (way-keeps laws way) (way-owes way)
  sized-line (client_event w event) is fed = client-event-sized event w fed
  sized-line (session_event w event) is fed = session-event-sized event w
