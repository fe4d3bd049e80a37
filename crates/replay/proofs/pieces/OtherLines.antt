-- The lines of others leave a peer's session as it is, or make the history longer.
--     peer-stays, peer-stays-lines      a line of others leaves a peer the session that it has, or without one; so do several
--     others-leave      they leave that session as it is, or the history has become longer
use Rattle.std.proofs.Common.{◌≡◌, ◌⊎◌, inl, inr, ℕ, ◌+◌, ◌<◌, ◌==◌, Bool, true, false, cond, not, List, [], ◌∷◌, ◌++◌, fold, take, find, length, Option, Some, None, option_map, refl, sym, ◌∙◌, ap, subst, arith}
use Rattle.std.specs.Prelude.{nat_lt, ◌&&◌}
use Rattle.std.specs.List.{AllByRecursion, list_all}
use Rattle.std.specs.Option.{option_or}
use Rattle.std.specs.Str.{bytes_eq}
use Rattle.std.proofs.lemmas.List.Folds.{find-append}
use Rattle.dnsname.proofs.Decisions.{and_true}
use Rattle.history.specs.declared.entry.Entry.{Entry}
use Rattle.history.specs.declared.entry.Entry.TheVariants as entries
use Rattle.pushserver.specs.PlainHubs.{Session, Hub, Giving}
use Rattle.pushserver.specs.Hubs as hubs
use Rattle.pushserver.specs.Hubs.{now, keeps_now, session_of, in_session, entered_keeping, can_enter, disconnect}
use Rattle.pushsession.specs.Sessions.{new_session, with_piece, asked_to_stop}
use Rattle.pushserver.specs.Giving.{give}
use Rattle.pushserver.specs.Laws.{LeavesSession}
use Rattle.pushserver.proofs.OtherSessions.{stays, in_session-stays, give_changes_one_session}
use Rattle.livesessions.proofs.SessionLists.{other-number, found-left}
use Rattle.pushserver.proofs.hub_steps.Cases.{moment_as}
use Rattle.pushserver.proofs.Walks.{AnyMessage, holds-update, holds-hear, holds-going, with_new}
use Rattle.scripts.specs.Lines.{Word, ScriptLine, silent, head_line, joining, hub_event, link_event, client_call, client_passing, client_event, session_event}
use Rattle.scripts.specs.declared.line.HubEvent.{HubEvent}
use Rattle.scripts.specs.declared.line.HubEvent.TheVariants as hub_events
use Rattle.scripts.specs.declared.line.LinkEvent.{LinkEvent}
use Rattle.scripts.specs.declared.line.LinkEvent.TheVariants as link_events
use Rattle.scripts.specs.declared.line.ClientEvent.{ClientEvent}
use Rattle.scripts.specs.declared.line.ClientEvent.TheVariants as client_events
use Rattle.scripts.specs.declared.line.SessionEvent.{SessionEvent}
use Rattle.scripts.specs.declared.line.SessionEvent.TheVariants as session_events
use Rattle.replay.specs.World.{Seat, World, number_in, session_number, hub_without, cut_peer, with_seat, is_over, world_cut_if}
use Rattle.pushserver.proofs.hub_steps.Pairs.{all-weaken}
use Rattle.pushclient.specs.Clients.{closed_as}
use Rattle.pushclient.specs.Steps as steps
use Rattle.replay.specs.PassedOctets.{exchanged, enough}
use Rattle.replay.specs.TextWords.{by_history}
use Rattle.replay.specs.Text.{Printed, timed, feeds, exchanges, sends, line_does, link_number, link_does, hub_does, client_does, session_does, world_after, passes_way, passes}
use Rattle.replay.specs.ScriptPieces.{is_of_others}
use Rattle.replay.proofs.rest.AtRest.{At, Longer, StaysLonger}
use Rattle.replay.proofs.worlds.TimedSeats.{peers-timed, peers-cut_if}
use Rattle.replay.proofs.worlds.OneWorld.{shows-leave}
use Rattle.replay.proofs.worlds.FedSeats.{fed, fed_over}
use Rattle.replay.proofs.worlds.LinesDoing.{with_peer, hub_timed, moment_now, stopped, exchanged_with, stop-does, cut-does, exchange-does, send-does, ask-does, open-does, feed-does}
use Rattle.replay.proofs.worlds.Keeping.{any-parts, keeps-exchanged}
use Rattle.replay.proofs.worlds.SeatLines.{peers-asks, peers-opens}
use Rattle.scripts.specs.declared.line.Way.{Way}
use Rattle.replay.proofs.worlds.PassedWorlds.{passing-keeps, passed-world, passed-names, pass-does}
use Rattle.replay.proofs.rest.Turning.{grows}
use Rattle.replay.proofs.worlds.Longer.{stays-longer, longer-lines}
use Rattle.replay.proofs.pieces.ApartWorlds.{ApartNumbers, IsApart, any-seat, apart-line, apart-more, found-filter, found-more, not_so, not_true, number-all, numbers-apart, one_word, seat-found, seat_apart}

-- ---- a peer keeps its session, or has none

module _ (w : Word) (o : Option ℕ) where
  abbrev Has : World → Type 0
  Has world = session_number world w ≡ o

  has-cut : (v : Word) (world : World) → bytes_eq v w ≡ false → Has world → Has (cut_peer v world)
  has-cut v world other known = ap (option_map (λ (e : Word × ℕ). e.1)) (found-filter (λ k. bytes_eq k w) (λ k. not (bytes_eq k v)) left world.peers) ∙ known
    where
      left : (k : Word) → bytes_eq k w ≡ true → not (bytes_eq k v) ≡ true
      left k is = ap not (not_so (bytes_eq k v) (λ y. one_word k v w other y is))

  has-more : (v : Word) (n : ℕ) (world : World) → bytes_eq v w ≡ false → Has world → number_in (world.peers ++ (v, n) ∷ []) w ≡ o
  has-more v n world other known =
      ap (option_map (λ (e : Word × ℕ). e.1)) (find-append (λ (e : Word × ℕ). bytes_eq e.0 w) world.peers ((v, n) ∷ [])) ∙ by (find (λ (e : Word × ℕ). bytes_eq e.0 w) world.peers) known
    where
      by : (found : Option (Word × ℕ)) → option_map (λ (e : Word × ℕ). e.1) found ≡ o → option_map (λ (e : Word × ℕ). e.1) (option_or found (cond (bytes_eq v w) (Some (v, n)) None)) ≡ o
      by (Some e) is = is
      by None is = ap (λ b. option_map (λ (e : Word × ℕ). e.1) (cond b (Some (v, n)) None)) other ∙ is

  has-exchanges : (v : Word) (m : ℕ) (octets : List ℕ) (world : World) → bytes_eq v w ≡ false → Has world → Has (exchanges v m octets world).0
  has-exchanges v m octets world other known = exchange-does world Has v m octets known (has-cut v (exchanged_with world m octets) other known)

  has-session : (event : SessionEvent) (v : Word) (world : World) → bytes_eq v w ≡ false → Has world → Has (session_does event v world).0
  has-session (session_events.Send octets) v world other known =
      send-does world Has v octets (λ m is. has-exchanges v m octets world other known) (has-exchanges v world.hub.numbers_given octets (with_peer v world) other (has-more v world.hub.numbers_given world other known)) known
  has-session (session_events.Stop rcode delay) v world other known = known
  has-session session_events.Cut v world other known = cut-does world Has v (λ seat e. known) (has-cut v world other known)

peers-passes : (way : Way) (w : Word) (world : World) → (passes way w world).0.peers ≡ world.peers
peers-passes way w world = pass-does (λ later. later.peers ≡ world.peers) way w world refl (λ seat e.
    let p = passes_way way world seat in
    peers-cut_if (is_over p.over (closed_as p.seat.client)) p.seat (with_seat p.seat p.world) ∙ ap (λ (x : World). x.peers) (passed-world way world seat))

peers-feeds : (w : Word) (octets : List ℕ) (world : World) → (feeds w octets world).0.peers ≡ world.peers
peers-feeds w octets world = feed-does world (λ later. later.peers ≡ world.peers) w octets refl (λ seat e connects.
    let p = fed octets world seat in
    peers-cut_if (fed_over octets world seat) p.seat (with_seat p.seat world))

peers-hub : (event : HubEvent) (world : World) → (hub_does event world).0.peers ≡ world.peers
peers-hub (hub_events.At t) world = peers-timed (moment_now world t) world.seats (hub_timed world t)
peers-hub (hub_events.Update message) world = refl
peers-hub hub_events.Point world = refl

peers-client : (event : ClientEvent) (w : Word) (world : World) → (client_does by_history event w world).0.peers ≡ world.peers
peers-client client_events.Open w world = peers-opens w world
peers-client (client_events.Feed octets) w world = peers-feeds w octets world
peers-client (client_events.Show question written) w world = ap (λ (later : World). later.peers) (shows-leave by_history w question written world)

pub peer-stays : (w : Word) (o : Option ℕ) (line : ScriptLine) (world : World) → is_of_others w line ≡ true → session_number world w ≡ o
    → session_number (line_does by_history line world).0 w ≡ o
peer-stays w o silent world others known = known
peer-stays w o (head_line line) world others known = known
peer-stays w o (joining v is_lone) world others known = known
peer-stays w o (hub_event event) world others known = ap (λ peers. number_in peers w) (peers-hub event world) ∙ known
peer-stays w o (link_event v event) world others known = known
peer-stays w o (client_call v call) world others known = ap (λ peers. number_in peers w) (peers-asks call v world) ∙ known
peer-stays w o (client_passing v way) world others known = ap (λ peers. number_in peers w) (peers-passes way v world) ∙ known
peer-stays w o (client_event v event) world others known = ap (λ peers. number_in peers w) (peers-client event v world) ∙ known
peer-stays w o (session_event v event) world others known = has-session w o event v world (not_true (bytes_eq v w) others) known

pub peer-stays-lines : (w : Word) (o : Option ℕ) (lines : List ScriptLine) (world : World) → list_all (is_of_others w) lines ≡ true → session_number world w ≡ o
    → session_number (world_after lines world) w ≡ o
peer-stays-lines w o [] world others known = known
peer-stays-lines w o (line ∷ lines) world others known =
    let both = and_true (is_of_others w line) (list_all (is_of_others w) lines) others in
    peer-stays-lines w o lines (line_does by_history line world).0 both.1 (peer-stays w o line world both.0 known)

-- ---- what is done elsewhere leaves the session, or the history grows

module _ (hub : Hub) (number : ℕ) (s : Session) where
  abbrev Leaves : Hub → Type 0
  Leaves later = At hub number later s ⊎ Longer hub later

  at-stays : (later last : Hub) → At hub number later s → LeavesSession later last number → At hub number last s
  at-stays later last at l = record {
    is = λ i. record {
      start = (l.start ∙ ap (λ (h : Hub). h.start) at.is) i;
      timers = (l.timers ∙ ap (λ (h : Hub). h.timers) at.is) i;
      history = (l.history ∙ ap (λ (h : Hub). h.history) at.is) i;
      seen = tt;
      sessions = last.sessions;
      numbers_given = last.numbers_given;
    };
    there = l.session ∙ at.there;
  }

  -- other sessions come or go
  at-others : (later : Hub) (sessions : List (ℕ × Session)) (made : ℕ) → At hub number later s → option_map (λ (e : ℕ × Session). e.1) (find (λ (e : ℕ × Session). e.0 == number) sessions) ≡ Some s
      → At hub number (record later { sessions = sessions; numbers_given = made }) s
  at-others later sessions made at there = record { is = ap (λ (h : Hub). record h { sessions = sessions; numbers_given = made }) at.is; there = there }

  -- an entry goes to the end of the history
  entered-longer : (later last : Hub) (entry : Entry) → At hub number later s → last.history ≡ later.history ++ entry ∷ [] → Longer hub last
  entered-longer later last entry at more = subst (λ (history : List Entry). length hub.history < length history) (sym (more ∙ ap (λ (h : Hub). h.history ++ entry ∷ []) at.is)) (grows hub.history entry)

  leaves-moment : (later : Hub) (t : ℕ) → At hub number later s → Leaves (hubs.moment later t)
  leaves-moment later t at = by (nat_lt (now later) t && can_enter later)
    where
      by : (goes : Bool) → Leaves (moment_as later t goes)
      by true = inr (entered-longer later (moment_as later t true) (entries.Moment t) at refl)
      by false = inl at

  leaves-update : (later : Hub) (message : List ℕ) → At hub number later s → Leaves (hubs.update later message).1
  leaves-update later message at = holds-update AnyMessage Leaves later (λ entry by. inr (entered-longer later (entered_keeping entry later) entry at refl)) (inl at) message tt

  leaves-hear : (later : Hub) (on : ℕ) (datagram : List ℕ) → At hub number later s → Leaves (hubs.hear later on datagram).1
  leaves-hear later on datagram at = holds-hear AnyMessage Leaves later (λ entry by. inr (entered-longer later (entered_keeping entry later) entry at refl)) (inl at) on datagram tt

  leaves-gone : (later : Hub) (on : ℕ) → At hub number later s → Leaves (hubs.link_gone later on).1
  leaves-gone later on at = holds-going AnyMessage Leaves later (λ entry by. inr (entered-longer later (entered_keeping entry later) entry at refl)) (inl at) on

  leaves-more : (later : Hub) → Leaves later → Leaves (with_new later)
  leaves-more later (inl at) =
      let one = (later.numbers_given, new_session (keeps_now later) (now later)) ∷ [] in
      inl (at-others later (later.sessions ++ one) (later.numbers_given + 1) at (found-more (λ (e : ℕ × Session). e.0 == number) (λ (e : ℕ × Session). e.1) later.sessions one s at.there))
  leaves-more later (inr longer) = inr longer

  -- ---- in a session of another number

  module _ (m : ℕ) (apart : number ≡ m → ⊥) where
    leaves-in_session : (f : Session → Session) (later : Hub) → Leaves later → Leaves (in_session m f later)
    leaves-in_session f later (inl at) = inl (at-stays later (in_session m f later) at (in_session-stays number m apart f later later (stays number m apart later)))
    leaves-in_session f later (inr longer) = inr longer

    leaves-end : (later : Hub) → Leaves later → Leaves (disconnect later m)
    leaves-end later (inl at) =
        inl (at-others later (disconnect later m).sessions later.numbers_given at (found-left m number later.sessions ∙ ap (λ c. cond c None (session_of later number)) (other-number number m apart) ∙ at.there))
    leaves-end later (inr longer) = inr longer

    leaves-give : (later : Hub) (room : ℕ) → Leaves later → Leaves (give later m room).hub
    leaves-give later room (inl at) = by (give_changes_one_session later m number room apart)
      where
        g : Giving
        g = give later m room

        by : LeavesSession later g.hub number ⊎ ((entry : Entry) × LeavesSession (entered_keeping entry later) g.hub number) → Leaves g.hub
        by (inl same) = inl (at-stays later g.hub at same)
        by (inr (entry, same)) = inr (entered-longer later g.hub entry at same.history)
    leaves-give later room (inr longer) = (let kept : StaysLonger hub = stays-longer hub in inr (kept.give later m room longer))

    leaves-exchanged : (turns : ℕ) (octets : List ℕ) (later : Hub) (so_far : List ℕ) → Leaves later → Leaves (exchanged turns m octets later so_far).hub
    leaves-exchanged turns octets later so_far h = keeps-exchanged Leaves m leaves-give AnyMessage any-parts (λ last piece any l. leaves-in_session (with_piece piece) last l) turns octets later so_far tt h

  -- ---- lines of others

  module _ (w : Word) where
    -- another peer's session has another number
    other-session : (v : Word) (m : ℕ) (world : World) → bytes_eq v w ≡ false → ApartNumbers world.peers → session_number world w ≡ Some number → session_number world v ≡ Some m → number ≡ m → ⊥
    other-session v m world other apart known is same = numbers-apart v w world.peers m number other apart is known (sym same)

    leaves-cut : (v : Word) (world : World) → bytes_eq v w ≡ false → ApartNumbers world.peers → session_number world w ≡ Some number → Leaves world.hub → Leaves (cut_peer v world).hub
    leaves-cut v world other apart known h = by (session_number world v) refl
      where
        by : (o : Option ℕ) → session_number world v ≡ o → Leaves (hub_without o world.hub)
        by None is = h
        by (Some m) is = leaves-end m (other-session v m world other apart known is) world.hub h

    leaves-exchanges : (v : Word) (m : ℕ) (octets : List ℕ) (world : World) → bytes_eq v w ≡ false → ApartNumbers world.peers → session_number world w ≡ Some number → (number ≡ m → ⊥) → Leaves world.hub
        → Leaves (exchanges v m octets world).0.hub
    leaves-exchanges v m octets world other apart known differs h =
        let later = exchanged_with world m octets in
        let behind : Leaves later.hub = leaves-exchanged m differs enough octets world.hub [] h in
        exchange-does world (λ x. Leaves x.hub) v m octets behind (leaves-cut v later other apart known behind)

    leaves-sends : (v : Word) (octets : List ℕ) (world : World) → bytes_eq v w ≡ false → IsApart world → session_number world w ≡ Some number → Leaves world.hub → Leaves (sends v octets world).0.hub
    leaves-sends v octets world other a known h =
        send-does world (λ later. Leaves later.hub) v octets (λ m is. leaves-exchanges v m octets world other a.apart known (other-session v m world other a.apart known is) h)
        (leaves-exchanges v world.hub.numbers_given octets (with_peer v world) other (apart-more v world a).apart (has-more w (Some number) v world.hub.numbers_given world other known) (is_new world.hub.numbers_given below) (leaves-more world.hub h)) h
      where
        below : number < world.hub.numbers_given
        below = number-all (λ n. n < world.hub.numbers_given) w world.peers number a.below known

        is_new : (n : ℕ) → number < n → number ≡ n → ⊥
        is_new n l same = omega (arith, l, same)

    -- a client's session is another one
    seat-differs : (world : World) (seat : Seat) → seat_apart world seat → session_number world w ≡ Some number → (m : ℕ) → seat.session ≡ Some m → number ≡ m → ⊥
    seat-differs world seat a known m is same = number-all (λ k. m ≡ k → ⊥) w world.peers number (a m is).1 known (sym same)

    leaves-without : (o : Option ℕ) → ((m : ℕ) → o ≡ Some m → number ≡ m → ⊥) → (later : Hub) → Leaves later → Leaves (hub_without o later)
    leaves-without None differs later h = h
    leaves-without (Some m) differs later h = leaves-end m (differs m refl) later h

    leaves-cut_if : (over : Bool) (seat : Seat) (world : World) → ((m : ℕ) → seat.session ≡ Some m → number ≡ m → ⊥) → Leaves world.hub → Leaves (world_cut_if over seat world).hub
    leaves-cut_if false seat world differs h = h
    leaves-cut_if true seat world differs h = leaves-without seat.session differs world.hub h

    leaves-timed : (t : ℕ) (seats : List Seat) (p : Printed) → AllByRecursion (λ s. (m : ℕ) → s.session ≡ Some m → number ≡ m → ⊥) seats → Leaves p.0.hub → Leaves (fold (timed t) p seats).0.hub
    leaves-timed t [] p all h = h
    leaves-timed t (seat ∷ seats) p all h =
        let later : Seat = record seat { client = steps.moment seat.client t } in
        leaves-timed t seats (timed t p seat) all.1 (leaves-cut_if (is_over None (closed_as later.client)) later (with_seat later p.0) all.0 h)

    leaves-stop : (o : Option ℕ) (rcode delay : ℕ) (world : World) → ((m : ℕ) → o ≡ Some m → number ≡ m → ⊥) → Leaves world.hub → Leaves (stopped world rcode delay o).hub
    leaves-stop None rcode delay world differs h = h
    leaves-stop (Some m) rcode delay world differs h = leaves-in_session m (differs m refl) (asked_to_stop rcode delay) world.hub h

    leaves-passes : (way : Way) (v : Word) (world : World) → IsApart world → session_number world w ≡ Some number → Leaves world.hub → Leaves (passes way v world).0.hub
    leaves-passes way v world a known h = pass-does (λ later. Leaves later.hub) way v world h (λ seat e.
        let p = passes_way way world seat in
        let differs = seat-differs world seat (seat-found v world seat e a) known in
        let behind : Leaves p.world.hub =
        (passing-keeps Leaves (λ x. Unit {0}) any-seat way world seat (λ m some. leaves-give m (differs m some)) (λ m some hub' x k n l. leaves-in_session m (differs m some) (with_piece (take k x.up_wire)) hub' l) h tt).0 in
        leaves-cut_if (is_over p.over (closed_as p.seat.client)) p.seat (with_seat p.seat p.world) (λ m is. differs m (sym (passed-names way world seat).session ∙ is)) behind)

    leaves-feeds : (v : Word) (octets : List ℕ) (world : World) → IsApart world → session_number world w ≡ Some number → Leaves world.hub → Leaves (feeds v octets world).0.hub
    leaves-feeds v octets world a known h = feed-does world (λ later. Leaves later.hub) v octets h (λ seat e connects.
        let p = fed octets world seat in
        leaves-cut_if (fed_over octets world seat) p.seat (with_seat p.seat world) (seat-differs world seat (seat-found v world seat e a) known) h)

    leaves-hub : (event : HubEvent) (world : World) → IsApart world → session_number world w ≡ Some number → At hub number world.hub s → Leaves (hub_does event world).0.hub
    leaves-hub (hub_events.At t) world a known at =
        leaves-timed (moment_now world t) world.seats (hub_timed world t)
        (all-weaken (seat_apart world) (λ s. (m : ℕ) → s.session ≡ Some m → number ≡ m → ⊥) (λ seat one. seat-differs world seat one known) world.seats a.seats) (leaves-moment world.hub t at)
    leaves-hub (hub_events.Update message) world a known at = leaves-update world.hub message at
    leaves-hub hub_events.Point world a known at = inl at

    leaves-link : (event : LinkEvent) (v : Word) (world : World) → At hub number world.hub s → Leaves (link_does event v world).0.hub
    leaves-link (link_events.Hear datagram) v world at = leaves-hear world.hub (link_number v world) datagram at
    leaves-link link_events.Gone v world at = leaves-gone world.hub (link_number v world) at
    leaves-link link_events.Asks v world at = inl at

    leaves-client : (event : ClientEvent) (v : Word) (world : World) → IsApart world → session_number world w ≡ Some number → At hub number world.hub s → Leaves (client_does by_history event v world).0.hub
    leaves-client client_events.Open v world a known at = open-does world (λ later. Leaves later.hub) v (inl at) (λ seat e. inl at) (λ seat e hub. leaves-more world.hub (inl at))
    leaves-client (client_events.Feed octets) v world a known at = leaves-feeds v octets world a known (inl at)
    leaves-client (client_events.Show question written) v world a known at = subst (λ (later : World). Leaves later.hub) (sym (shows-leave by_history v question written world)) (inl at)

    leaves-session : (event : SessionEvent) (v : Word) (world : World) → bytes_eq v w ≡ false → IsApart world → session_number world w ≡ Some number → At hub number world.hub s → Leaves (session_does event v world).0.hub
    leaves-session (session_events.Send octets) v world other a known at = leaves-sends v octets world other a known (inl at)
    leaves-session (session_events.Stop rcode delay) v world other a known at =
        stop-does world (λ later. Leaves later.hub) v rcode delay (λ seat e. leaves-stop seat.session rcode delay world (seat-differs world seat (seat-found v world seat e a) known) (inl at))
        (leaves-stop (session_number world v) rcode delay world (λ m same. other-session v m world other a.apart known same) (inl at))
    leaves-session session_events.Cut v world other a known at =
        cut-does world (λ later. Leaves later.hub) v (λ seat e. leaves-without seat.session (seat-differs world seat (seat-found v world seat e a) known) world.hub (inl at))
        (leaves-cut v world other a.apart known (inl at))

    leaves-line : (line : ScriptLine) (world : World) → is_of_others w line ≡ true → IsApart world → session_number world w ≡ Some number → At hub number world.hub s
        → Leaves (line_does by_history line world).0.hub
    leaves-line silent world others a known at = inl at
    leaves-line (head_line line) world others a known at = inl at
    leaves-line (joining v is_lone) world others a known at = inl at
    leaves-line (hub_event event) world others a known at = leaves-hub event world a known at
    leaves-line (link_event v event) world others a known at = leaves-link event v world at
    leaves-line (client_call v call) world others a known at = ask-does world (λ later. Leaves later.hub) v call (inl at) (λ seat e. inl at)
    leaves-line (client_passing v way) world others a known at = leaves-passes way v world a known (inl at)
    leaves-line (client_event v event) world others a known at = leaves-client event v world a known at
    leaves-line (session_event v event) world others a known at = leaves-session event v world (not_true (bytes_eq v w) others) a known at

pub others-leave : (hub : Hub) (number : ℕ) (s : Session) (w : Word) (lines : List ScriptLine) (world : World) → list_all (is_of_others w) lines ≡ true → IsApart world
    → session_number world w ≡ Some number → At hub number world.hub s → At hub number (world_after lines world).hub s ⊎ Longer hub (world_after lines world).hub
others-leave hub number s w [] world others a known at = inl at
others-leave hub number s w (line ∷ lines) world others a known at =
    let both = and_true (is_of_others w line) (list_all (is_of_others w) lines) others in
    by (λ left. others-leave hub number s w lines (line_does by_history line world).0 both.1 (apart-line line world a) (peer-stays w (Some number) line world both.0 known) left)
    (leaves-line hub number s w line world both.0 a known at)
  where
    one : World
    one = (line_does by_history line world).0

    by : (At hub number one.hub s → Leaves hub number s (world_after lines one).hub) → Leaves hub number s one.hub → Leaves hub number s (world_after lines one).hub
    by rest (inl left) = rest left
    by rest (inr longer) = inr (longer-lines hub lines one longer)
