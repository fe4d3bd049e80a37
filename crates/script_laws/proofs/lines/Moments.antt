-- Each client at a moment: one that closes is told and cut.
--     moments-stand      the line on a moment
use Rattle.std.proofs.Common.{◌≡◌, ℕ, Bool, true, false, not, List, [], ◌∷◌, fold, Option, Some, None, refl, sym, ◌∙◌, ap, subst}
use Rattle.std.specs.Prelude.{is_some}
use Rattle.std.specs.List.{AllByRecursion, IsDistinct, list_any}
use Rattle.std.specs.Str.{bytes_eq}
use Rattle.dsosession.specs.Timing.{client_due}
use Rattle.dsosession.specs.declared.session.Due.{Due}
use Rattle.dsosession.specs.declared.session.Due.TheVariants as dues
use Rattle.inflight.specs.Flight.{AreSoundWishes}
use Rattle.pushserver.specs.Hubs as hubs
use Rattle.pushserver.specs.Hubs.{now}
use Rattle.pushserver.specs.Calls.{moves}
use Rattle.pushclient.specs.Clients.{Client, Connection, open_connection, closed_as}
use Rattle.pushclient.specs.Steps as steps
use Rattle.pushclient.specs.Steps.{does, at_later, is_active}
use Rattle.dsotlv.specs.Messages.{first_message}
use Rattle.scripts.specs.Lines.{Word}
use Rattle.replay.specs.World.{World, Seat, seat_of, with_seat, cut_seat, hub_without, is_over, world_cut_if}
use Rattle.replay.specs.Text.{Printed, timed, moments}
use Rattle.replay.specs.Promises.{IsUnconnected}
use Rattle.scripts.specs.Scripts.{AreDistinct}
use Rattle.replay.proofs.worlds.Seats.{words_of}
use Rattle.replay.proofs.worlds.SeatWords.{distinct-front}
use Rattle.script_laws.specs.Joined.{SeatStands, StandsWith, ShownToEach, WorldStands}
use Rattle.script_laws.specs.Walk.{StaysJoined}
use Rattle.script_laws.proofs.texts.Along.{seat-stands}
use Rattle.script_laws.proofs.lines.Premises.{LineLaws}
use Rattle.script_laws.proofs.lines.Cutting.{stands-with, with-stands, stands-alone, joined-cut, cut-other}
use Rattle.replay.proofs.worlds.SeatsFound.{put-other, each-found}
use Rattle.script_laws.proofs.lines.Knowing.{same-put, LeadsTo, leads-none, leads-on}
use Rattle.script_laws.proofs.lines.Passing.{cut-where-over, finished-alone, same-cut}
use Rattle.script_laws.proofs.lines.Asking.{lone-other, no-connection, unconnected-other, closed-is}

-- ---- a client at a moment

does-wishes : (due : Due) (c : Connection) (client : Client) → (does due c client).wishes ≡ client.wishes
does-wishes dues.Nothing c client = refl
does-wishes dues.Keepalive c client = refl
does-wishes dues.Idle c client = refl

moment-wishes : (t : ℕ) (client : Client) → (steps.moment client t).wishes ≡ client.wishes
moment-wishes t client = by (open_connection client)
  where
    by : (o : Option Connection) → (elim o as (λ _. Client) [
      | None ↦ at_later t client
      | Some c ↦ does (client_due c.clocks t (list_any (λ w. is_active w.standing) client.wishes) (is_some c.keepalive_out)) c (at_later t client)
    ]).wishes ≡ client.wishes
    by None = refl
    by (Some c) = does-wishes (client_due c.clocks t (list_any (λ w. is_active w.standing) client.wishes) (is_some c.keepalive_out)) c (at_later t client)

-- ---- its seat

abbrev at_moment : ℕ → Seat → Seat
at_moment t seat = record seat { client = steps.moment seat.client t }

-- the world behind the moment of one client
abbrev world_timed : ℕ → World → Seat → World
world_timed t world seat = world_cut_if (is_over None (closed_as (at_moment t seat).client)) (at_moment t seat) (with_seat (at_moment t seat) world)

-- the other seats stay
timed-other : (t : ℕ) (world : World) (seat : Seat) (v : Word) → bytes_eq seat.word v ≡ false → seat_of (world_timed t world seat) v ≡ seat_of world v
timed-other t world seat v other =
    let later : Seat = at_moment t seat in
    cut-where-over (λ (x : World). seat_of x v ≡ seat_of world v) None (closed_as later.client) later (with_seat later world)
    (λ over closing. put-other world later v other)
    (put-other (with_seat later world) (cut_seat later) v other ∙ put-other world later v other)

module _ (laws : LineLaws) (all : List Word) (shown : ShownToEach) where
  module _ (t : ℕ) (world : World) (seat : Seat) (stands : WorldStands shown world) (found : seat_of world seat.word ≡ Some seat) where
    abbrev later : Seat
    later = at_moment t seat

    here : SeatStands world.hub (shown seat.word) seat
    here = seat-stands shown world seat.word seat stands found

    alone-later : IsUnconnected world.hub (shown seat.word) seat → IsUnconnected world.hub (shown seat.word) later
    alone-later h = by seat.is_lone refl
      where
        by : (b : Bool) → seat.is_lone ≡ b → IsUnconnected world.hub (shown seat.word) later
        by true lone = lone-other world.hub (shown seat.word) seat later.client lone h
        by false own =
            let none = no-connection world.hub (shown seat.word) seat own h in
            let stays = laws.wishes.timed t seat.client none in
            unconnected-other world.hub (shown seat.word) seat later.client own stays.0 (subst AreSoundWishes (sym stays.1) (h.wishes (ap not own))) h

    joined-timed : (number : ℕ) → seat.session ≡ Some number → LeadsTo all shown world (world_timed t world seat)
    joined-timed number has =
        cut-where-over (LeadsTo all shown world) None (closed_as later.client) later (with_seat later world)
        (λ over closing. record {
          stands = laws.seats_pass shown world seat.word seat later [] stands found refl refl tt tt tt (with-stands world.hub (shown seat.word) later number has (goes_on closing));
          clients = same-put world seat.word seat later found refl refl;
          peers = λ h. h;
        })
        (record {
          stands = laws.seats_pass_and_are_cut shown world seat.word seat later [] stands found refl refl tt tt tt is_cut;
          clients = same-cut world world.hub seat.word seat later found refl refl;
          peers = λ h. h;
        })
      where
        s : StandsWith world.hub (shown seat.word) seat number
        s = stands-with world.hub (shown seat.word) seat number has here

        stays : StaysJoined world.hub (shown seat.word) seat number s.session s.connection later.client
        stays = laws.moments.joined t world.hub (shown seat.word) seat number s.session s.connection stands.reached s.joined s.unclosed

        goes_on : closed_as later.client ≡ None → StandsWith world.hub (shown seat.word) later number
        goes_on closing =
            let unclosed : stays.connection.closed ≡ None = sym (closed-is later.client stays.connection stays.there) ∙ closing in
            record {
              lone = s.lone;
              session = s.session;
              connection = stays.connection;
              joined = stays.joined unclosed;
              waits = ap first_message stays.input ∙ s.waits;
              unclosed = unclosed;
            }

        is_cut : SeatStands (hub_without seat.session world.hub) (shown seat.word) (cut_seat later)
        is_cut =
            cut-other (hub_without seat.session world.hub) (shown seat.word) seat later.client (moment-wishes t seat.client)
            (joined-cut laws.cuts world.hub (shown seat.word) seat number s.session s.connection seat.session stands.reached s.joined)

    seat-timed : LeadsTo all shown world (world_timed t world seat)
    seat-timed = by seat.session refl
      where
        by : (o : Option ℕ) → seat.session ≡ o → LeadsTo all shown world (world_timed t world seat)
        by None none = finished-alone laws all shown world seat.word seat stands found later none refl refl refl (alone-later (stands-alone world.hub (shown seat.word) seat none here))
        by (Some number) has = joined-timed number has

  -- ---- one client after the other

  abbrev AreThere : World → List Seat → Type 0
  AreThere world seats = AllByRecursion (λ s. seat_of world s.word ≡ Some s) seats

  still-there : (t : ℕ) (world : World) (seat : Seat) (seats : List Seat) → AllByRecursion (λ y. bytes_eq seat.word y ≡ false) (words_of seats) → AreThere world seats → AreThere (world_timed t world seat) seats
  still-there t world seat [] others there = tt
  still-there t world seat (s ∷ ss) others there = (timed-other t world seat s.word others.0 ∙ there.0, still-there t world seat ss others.1 there.1)

  seats-timed : (t : ℕ) (seats : List Seat) (p : Printed) → WorldStands shown p.0 → AreThere p.0 seats → AreDistinct (words_of seats) → LeadsTo all shown p.0 (fold (timed t) p seats).0
  unfolding IsDistinct
  seats-timed t [] p stands there distinct = leads-none all shown p.0 stands
  seats-timed t (seat ∷ seats) p stands there distinct =
      let one = seat-timed t p.0 seat stands there.0 in
      leads-on all shown p.0 (timed t p seat).0 (fold (timed t) (timed t p seat) seats).0 one.clients one.peers
      (seats-timed t seats (timed t p seat) one.stands (still-there t p.0 seat seats distinct.0 there.1) distinct.1)

  pub moments-stand : (t : ℕ) (world : World) → WorldStands shown world → LeadsTo all shown world (moments t world).0
  moments-stand t world stands =
      let later = hubs.moment world.hub t in
      let moved : World = record world { hub = later } in
      let distinct = distinct-front (words_of world.seats) _ stands.numbers.words in
      leads-on all shown world moved (moments t world).0 (λ w. refl) (λ h. h)
      (seats-timed (now later) world.seats (moved, []) (laws.hubs_go_on shown world [] (moves t ∷ []) stands ((tt, tt), tt) (tt, tt) (tt, tt))
      (each-found world.seats distinct) distinct)
