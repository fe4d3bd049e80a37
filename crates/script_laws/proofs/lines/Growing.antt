-- A world still stands with the points that a line shows.
--     grown shown line world      what was shown, with what the line shows
--     grown-stands      the law
use Rattle.std.proofs.Common.{◌≡◌, ℕ, ◌≤◌, Bool, true, false, cond, ◌||◌, ◌&&◌, [], ◌++◌, Option, Some, None, refl, sym, ◌∙◌, ap, le_of_eq}
use Rattle.std.specs.Prelude.{option_to_list, is_some}
use Rattle.std.specs.List.{AllByRecursion}
use Rattle.coalesce.proofs.ReadBack.{each-append}
use Rattle.rrset.specs.declared.record.Question.{Question}
use Rattle.pushserver.specs.PlainHubs.{Hub}
use Rattle.pushserver.specs.Hubs.{newest}
use Rattle.pushserver.proofs.session_steps.Lists.{each-both}
use Rattle.pushclient.specs.Clients.{Client, Connection, Wish, Held, off, asked_only, refused_with, set_held, held, held_as, wish_for, is_connected}
use Rattle.scripts.specs.Lines.{ScriptLine}
use Rattle.replay.specs.World.{World, Seat, seat_of}
use Rattle.replay.specs.TextWords.{is_filling, note_in}
use Rattle.replay.specs.HeldPoints.{point_of_note, point_of_held, point_at, is_show_of}
use Rattle.replay.specs.Promises.{ShownPoints, ShowsNoLater, point_taken, IsUnconnected}
use Rattle.replay.proofs.worlds.Seats.{words_of}
use Rattle.replay.proofs.worlds.SeatWords.{distinct-front}
use Rattle.script_laws.specs.Reached.{IsReached}
use Rattle.script_laws.specs.Joined.{SeatStands, StandsWith, ShownToEach, WorldStands}
use Rattle.script_laws.specs.Texts.{ShownIsTaken}
use Rattle.script_laws.proofs.lines.Cutting.{stands-with, with-stands, stands-alone, alone-stands}
use Rattle.replay.proofs.worlds.SeatsFound.{each-found}
use Rattle.script_laws.proofs.lines.Asking.{no-connection}

-- what a line shows
abbrev pub shown_at : ScriptLine → World → ShownToEach
shown_at line world = λ w question. cond (is_show_of w question line) (option_to_list (point_at world w question)) []

abbrev pub grown : ShownToEach → ScriptLine → World → ShownToEach
grown shown line world = λ w question. shown w question ++ shown_at line world w question

-- ---- more points

abbrev with_points : ShownPoints → ShownPoints → ShownPoints
with_points shown more = λ question. shown question ++ more question

more-no-later : (shown more : ShownPoints) (point : Question → ℕ) → ShowsNoLater shown point → ShowsNoLater more point → ShowsNoLater (with_points shown more) point
more-no-later shown more point h k question = each-append (λ p. p ≤ point question) (shown question) (more question) (h question) (k question)

unconnected-more : (hub : Hub) (shown more : ShownPoints) (seat : Seat) → IsUnconnected hub shown seat → ShowsNoLater more (λ question. newest hub) → IsUnconnected hub (with_points shown more) seat
unconnected-more hub shown more seat h k = record {
  client = h.client;
  wishes = h.wishes;
  up_wire = h.up_wire;
  down_wire = h.down_wire;
  reached = h.reached;
  filled = h.filled;
  shown_before = more-no-later shown more (λ question. newest hub) h.shown_before k;
}

stands-more : (hub : Hub) (shown more : ShownPoints) (seat : Seat) (number : ℕ) (h : StandsWith hub shown seat number) → ShowsNoLater more (point_taken h.joined.start h.joined.flight.taken) → StandsWith hub (with_points shown more) seat number
stands-more hub shown more seat number h k =
    let j = h.joined in
    record {
      lone = h.lone;
      session = h.session;
      connection = h.connection;
      joined = record {
        there = j.there;
        connected = j.connected;
        flight = j.flight;
        reached = j.reached;
        up_wire = j.up_wire;
        down_wire = j.down_wire;
        input = j.input;
        octets = j.octets;
        ended = j.ended;
        closed = j.closed;
        unstopped = j.unstopped;
        start = j.start;
        began = j.began;
        shown_before = more-no-later shown more (point_taken j.start j.flight.taken) j.shown_before k;
      };
      waits = h.waits;
      unclosed = h.unclosed;
    }

-- ---- a client without a session shows none

lone-shows-none : (world : World) (seat : Seat) (question : Question) → seat.is_lone ≡ true → (h : Held) → point_of_held h world seat question ≡ None
lone-shows-none world seat question lone off = refl
lone-shows-none world seat question lone asked_only = refl
lone-shows-none world seat question lone (refused_with rcode) = refl
lone-shows-none world seat question lone (set_held id set) = ap (λ (b : Bool). cond (b || is_filling seat id) None (point_of_note question (note_in world.hub seat))) lone

unconnected-holds-none : (client : Client) (question : Question) → client.connection ≡ None → held client question ≡ off
unconnected-holds-none client question none = by (wish_for client question)
  where
    no : is_connected client ≡ false
    no = ap (λ (o : Option Connection). is_some o) none

    by_wanted : (wish : Wish) (b : Bool) → cond (b && is_connected client) (held_as wish.standing wish) off ≡ off
    by_wanted wish true = ap (λ (c : Bool). cond c (held_as wish.standing wish) off) no
    by_wanted wish false = refl

    by : (o : Option Wish) → (elim o as (λ _. Held) [ None ↦ off | Some wish ↦ cond (wish.wanted && is_connected client) (held_as wish.standing wish) off ]) ≡ off
    by None = refl
    by (Some wish) = by_wanted wish wish.wanted

alone-shows-none : (world : World) (shown : ShownPoints) (seat : Seat) (question : Question) → IsUnconnected world.hub shown seat → point_of_held (held seat.client question) world seat question ≡ None
alone-shows-none world shown seat question h = by seat.is_lone refl
  where
    by : (b : Bool) → seat.is_lone ≡ b → point_of_held (held seat.client question) world seat question ≡ None
    by true lone = lone-shows-none world seat question lone (held seat.client question)
    by false own = ap (λ (d : Held). point_of_held d world seat question) (unconnected-holds-none seat.client question (no-connection world.hub shown seat own h))

-- ---- each seat

module _ (shows : ShownIsTaken) (line : ScriptLine) (world : World) (reached : IsReached world.hub) (shown : ShownPoints) (seat : Seat) (found : seat_of world seat.word ≡ Some seat) where
  abbrev more : ShownPoints
  more = shown_at line world seat.word

  point-is : (question : Question) → point_at world seat.word question ≡ point_of_held (held seat.client question) world seat question
  point-is question = ap (λ (o : Option Seat). elim o as (λ _. Option ℕ) [ None ↦ None | Some s ↦ point_of_held (held s.client question) world s question ]) found

  -- no later than a number, if each point that would be shown is so
  each-below : (question : Question) (most : ℕ) → ((p : ℕ) → point_of_held (held seat.client question) world seat question ≡ Some p → p ≤ most) → AllByRecursion (λ p. p ≤ most) (more question)
  each-below question most h = by (is_show_of seat.word question line)
    where
      by_point : (o : Option ℕ) → point_at world seat.word question ≡ o → AllByRecursion (λ p. p ≤ most) (option_to_list o)
      by_point None e = tt
      by_point (Some p) e = (h p (sym (point-is question) ∙ e), tt)

      by : (b : Bool) → AllByRecursion (λ p. p ≤ most) (cond b (option_to_list (point_at world seat.word question)) [])
      by true = by_point (point_at world seat.word question) refl
      by false = tt

  seat-more : SeatStands world.hub shown seat → SeatStands world.hub (with_points shown more) seat
  seat-more h = by seat.session refl
    where
      by : (o : Option ℕ) → seat.session ≡ o → SeatStands world.hub (with_points shown more) seat
      by None none =
          let alone = stands-alone world.hub shown seat none h in
          alone-stands world.hub (with_points shown more) seat none
          (unconnected-more world.hub shown more seat alone
          (λ question. each-below question (newest world.hub) (λ p e. (let wrong : None ≡ Some p = sym (alone-shows-none world shown seat question alone) ∙ e in absurd cc))))
      by (Some number) has =
          let s = stands-with world.hub shown seat number has h in
          with-stands world.hub (with_points shown more) seat number has
          (stands-more world.hub shown more seat number s
          (λ question. each-below question (point_taken s.joined.start s.joined.flight.taken question) (λ p e. le_of_eq (sym (shows world shown seat number p question reached has s e)))))

pub grown-stands : ShownIsTaken → (shown : ShownToEach) (line : ScriptLine) (world : World) → WorldStands shown world → WorldStands (grown shown line world) world
grown-stands shows shown line world stands = record {
  reached = stands.reached;
  numbers = stands.numbers;
  seats = each-both (λ (s : Seat). seat_of world s.word ≡ Some s) (λ (s : Seat). SeatStands world.hub (shown s.word) s) (λ (s : Seat). SeatStands world.hub (grown shown line world s.word) s)
      (λ s found here. seat-more shows line world stands.reached (shown s.word) s found here) world.seats (each-found world.seats (distinct-front (words_of world.seats) _ stands.numbers.words)) stands.seats;
}
