-- A passing to its end, and the lines that it prints.
--     passes-without, passes-then      a client without a session, and with one
--     ends-made, ends-at, ends-moved      a passing and what follows it
--     passes-act      the line of a passing
use Rattle.std.proofs.Common.{◌≡◌, ℕ, Bool, true, false, cond, List, [], ◌∷◌, ◌++◌, Option, Some, None, refl, sym, ◌∙◌, ap, subst, append_assoc, codes, decimal}
use Rattle.std.specs.Prelude.{position, IfOk, Result, Ok, Err, ◌<◌, length, set, get_or}
use Rattle.dsosession.specs.declared.session.EndReason.{EndReason}
use Rattle.dsosession.specs.declared.session.CloseReason.{CloseReason}
use Rattle.pushserver.specs.Calls.{HubCall, after_calls}
use Rattle.hubasking.specs.AskingHubs.{AskingHub}
use Rattle.pushclient.specs.Clients.{closed_as}
use Rattle.scripts.specs.Lines.{Word}
use Rattle.replay.specs.World.{World, Seat, with_seat, cut_seat, is_over, cut_if, hub_cut_if, world_cut_if}
use Rattle.replay.specs.PassedOctets.{Passed}
use Rattle.scripts.specs.Words.{spaced, ended_lines}
use Rattle.replay.specs.Text.{Printed, end_lines, close_lines, passing_of, passes_way, way_words, passes}
use Rattle.replay.specs.declared.seats.Seat as program
use Rattle.replay.specs.declared.settling.Passage.{Passage}
use Rattle.scripts.specs.declared.line.Way.{Way}
use Rattle.scripts.specs.declared.line.Way.TheVariants as ways
use Rattle.replay.specs.Askings.{calls_asks}
use Rattle.replay.specs.LineCalls.{end_calls, cut_calls, passing_calls, way_calls, with_session, passes_calls}
use Rattle.replay.specs.KeptAskings as hubs
use Rattle.replay.specs.KeptWorlds.{KeptSeat, Seated, seat_kept, seated, Parties, StandForSeats, HasPrinted, Acts}
use Rattle.replay.specs.KeptSeats.{has_word, Makes, HasFinished, closing_text}
use Rattle.replay.specs.KeptPassings.{way_text, HasMoved, Moves, HasEnded, EndsSo, EndsAt}
use Rattle.replay.proofs.calls.Behind.{asks-on}
use Rattle.replay.proofs.worlds.PassedWorlds.{passed_as, passed-world, does_by}
use Rattle.replay.proofs.worlds.Seats.{absent, is-called, IsCalled, calls-made, put-put}
use Rattle.replay.proofs.worlds.SeatsDoing.{with_seats}
use Rattle.replay.proofs.worlds.TimedSeats.{lines-append}

-- ---- with and without a session

abbrev session_calls : Way → World → Seat → Option ℕ → List HubCall
session_calls way world seat o = elim o as (λ _. List HubCall) [ None ↦ [] | Some number ↦ way_calls way number world seat ]

pub passes-without : (way : Way) (hub : AskingHub) (k : KeptSeat) → k.session ≡ None → Moves (passes_way way) (with_session (way_calls way)) hub k 0 None hub k
unfolding Moves
passes-without way hub k none = (
  refl,
  λ world seat stands s.
      let is : None ≡ seat.session = sym none ∙ s.session in
      subst (λ (o : Option ℕ). HasMoved (passed_as way world seat o) (calls_asks (session_calls way world seat o) world.hub hub.askings) hub k 0 None) is (record { moved = refl; end_told = refl; stands = stands; asks = refl; seat = s }),
)

passes-with : (way : Way) (hub later : AskingHub) (number : ℕ) (k after : KeptSeat) (count : ℕ) (over : Option EndReason) → k.session ≡ Some number → Moves (passing_of way number) (way_calls way number) hub k count over later after
    → Moves (passes_way way) (with_session (way_calls way)) hub k count over later after
unfolding Moves
passes-with way hub later number k after count over some made = (
  made.0,
  λ world seat stands s.
      let is : Some number ≡ seat.session = sym some ∙ s.session in
      subst (λ (o : Option ℕ). HasMoved (passed_as way world seat o) (calls_asks (session_calls way world seat o) world.hub hub.askings) later after count over) is (made.1 world seat stands s),
)

pub passes-then : {E : Type 0} (way : Way) (hub later : AskingHub) (number : ℕ) (k after : KeptSeat) (r : Result Passage E) → k.session ≡ Some number
    → IfOk r (λ passage. Moves (passing_of way number) (way_calls way number) hub k passage.count passage.over later after) → IfOk r (λ passage. Moves (passes_way way) (with_session (way_calls way)) hub k passage.count passage.over later after)
passes-then way hub later number k after (Ok passage) some made = passes-with way hub later number k after passage.count passage.over some made
passes-then way hub later number k after (Err e) some made = tt

-- ---- what follows

module _ (passing : World → Seat → Passed) (calls : World → Seat → List HubCall) where
  pub ends-made : ((world : World) (seat : Seat) → (passing world seat).world.hub ≡ after_calls (calls world seat) world.hub) → (hub between later : AskingHub) (k k_between after : KeptSeat) (count : ℕ) (over : Option EndReason) (closing : Option CloseReason) → Moves passing calls hub k count over between k_between
      → Makes (HasFinished over closing between later) (cut_if (is_over over closing)) k_between after → EndsSo passing calls hub k count over closing later after
  unfolding Moves EndsSo
  ends-made led hub between later k k_between after count over closing made m = λ world stands. record {
    word = m.word ∙ made.0;
    answer = λ seat s.
        let r = made.1 world seat stands s in
        let f = m.answer (passing world seat).seat r.seat in
        let p = passing world seat in
        let then = f.hub p.world.hub r.stands in
        let same : later.askings ≡ calls_asks (cut_calls p) p.world.hub between.askings = then.1 ∙ (λ i. calls_asks (cond (is_over (r.end_told i) (f.closes i)) (end_calls p.seat.session) []) p.world.hub between.askings) in
        record {
          moved = r.moved;
          end_told = r.end_told;
          closes = f.closes;
          stands = then.0;
          asks = asks-on (calls world seat) (cut_calls p) world.hub p.world.hub hub.askings between.askings later.askings (led world seat) r.asks same;
        };
    stands = λ seat s. m.stands (passing world seat).seat (made.1 world seat stands s).seat;
  }

  -- so of the client at a place
  pub ends-at : (hub later : AskingHub) (seats seats_later : List program.Seat) (place : ℕ) (s after : program.Seat) (count : ℕ) (over : Option EndReason) (closing : Option CloseReason) → place < length seats → s ≡ get_or seats place s
      → seats_later ≡ set seats place after → EndsSo passing calls hub (seat_kept (get_or seats place s)) count over closing later (seat_kept after) → EndsAt passing calls hub (seated seats) place count over closing later (seated seats_later)
  unfolding EndsSo EndsAt
  ends-at hub later seats seats_later place s after count over closing within is later_is ends = λ world stands.
      calls-made (λ x. HasEnded (passing world x) (calls_asks (calls world x ++ cut_calls (passing world x)) world.hub hub.askings) later count over closing) (λ x. cut_if (is_over over closing) (passing world x).seat) seats seats_later place s after within is later_is (ends world stands)

  -- and of the vectors that slices were lent from
  pub ends-moved : (hub later : AskingHub) (items slice changed seats_later : List program.Seat) (place count : ℕ) (over : Option EndReason) (closing : Option CloseReason) → slice ≡ items → seats_later ≡ changed
      → EndsAt passing calls hub (seated slice) place count over closing later (seated changed) → EndsAt passing calls hub (seated items) place count over closing later (seated seats_later)
  ends-moved hub later items slice changed seats_later place count over closing same later_is ends =
      subst (λ (l : List program.Seat). EndsAt passing calls hub (seated items) place count over closing later (seated l)) (sym later_is)
      (subst (λ (l : List program.Seat). EndsAt passing calls hub (seated l) place count over closing later (seated changed)) same ends)

-- ---- the line

-- behind its passings a client's connection is cut, or it isn't
module _ (p : Passed) where
  abbrev after_end : Bool → World
  after_end over = world_cut_if over p.seat (with_seat p.seat p.world)

  finished-hub : (over : Bool) → (after_end over).hub ≡ hub_cut_if over p.seat p.world.hub
  finished-hub false = refl
  finished-hub true = refl

  finished-seats : (over : Bool) → (after_end over).seats ≡ (with_seat (cut_if over p.seat) p.world).seats
  finished-seats false = refl
  finished-seats true = put-put p.seat.word p.seat (cut_seat p.seat) p.world.seats refl

  finished-peers : (over : Bool) → (after_end over).peers ≡ p.world.peers
  finished-peers false = refl
  finished-peers true = refl

  finished-links : (over : Bool) → (after_end over).links ≡ p.world.links
  finished-links false = refl
  finished-links true = refl

word-finished : (told : Bool) (seat : Seat) → (cut_if told seat).word ≡ seat.word
word-finished true seat = refl
word-finished false seat = refl

-- its lines
way-line : (way : Way) (w : Word) (count : ℕ) → way_text way w count ≡ spaced (way_words way w count) ++ 10 ∷ []
way-line (ways.Say n) w count = ap (λ (t : List ℕ). codes "say " ++ t) (sym (append_assoc w (32 ∷ decimal count) (10 ∷ [])))
way-line (ways.Up n) w count = ap (λ (t : List ℕ). codes "up " ++ t) (sym (append_assoc w (32 ∷ decimal count) (10 ∷ [])))
way-line (ways.Emit n) w count = ap (λ (t : List ℕ). codes "emit " ++ t) (sym (append_assoc w (32 ∷ decimal count) (10 ∷ [])))
way-line (ways.Down n) w count = ap (λ (t : List ℕ). codes "down " ++ t) (sym (append_assoc w (32 ∷ decimal count) (10 ∷ [])))
way-line ways.Settle w count = refl

passed-text : (way : Way) (w : Word) (count : ℕ) (over : Option EndReason) (closing : Option CloseReason)
    → way_text way w count ++ ended_lines (end_lines w over) ++ closing_text w closing ≡ ended_lines (spaced (way_words way w count) ∷ (end_lines w over ++ close_lines w closing))
passed-text way w count over closing =
    append_assoc (way_text way w count) (ended_lines (end_lines w over)) (closing_text w closing)
    ∙ (λ i. way-line way w count i ++ sym (lines-append (end_lines w over) (close_lines w closing)) i)

pub passes-act : (way : Way) (kept later : AskingHub) (known : Parties) (seats : Seated) (w : Word) (place count : ℕ) (over : Option EndReason) (closing : Option CloseReason) (written : List ℕ) → position (has_word w) known.seats ≡ Some place
    → EndsAt (passes_way way) (with_session (way_calls way)) kept known.seats place count over closing later seats
    → written ≡ way_text way w count ++ ended_lines (end_lines w over) ++ closing_text w closing
    → Acts (passes way w) (passes_calls way w) kept known written later (with_seats known seats)
unfolding Acts EndsAt
passes-act way kept later known seats w place count over closing written at ends is world s d =
    let told = is_over over closing in
    let answers : Seat → Type 0 = λ x. HasEnded (passes_way way world x) (calls_asks (passing_calls (way_calls way) (passing_of way) world x) world.hub kept.askings) later count over closing in
    let next : Seat → Seat = λ x. cut_if told (passes_way way world x).seat in
    let r : IsCalled w known.seats seats place world answers next = is-called w known.seats seats world place answers next s.seats d at (ends world s.hub) in
    let p = passes_way way world r.seat in
    let named : p.seat.word ≡ w = sym (word-finished told p.seat) ∙ r.next_word ∙ r.word in
    let same : p.world ≡ record world { hub = p.world.hub } = passed-world way world r.seat in
    let first : ℕ → Word → Option EndReason → Option CloseReason → Printed = λ n v o c. (world_cut_if (is_over o c) p.seat (with_seat p.seat p.world), spaced (way_words way w n) ∷ (end_lines v o ++ close_lines v c)) in
    let told_so : first count w over closing ≡ first p.count p.seat.word p.over (closed_as p.seat.client) = λ i. first (r.answer.moved i) (sym named i) (r.answer.end_told i) (r.answer.closes i) in
    let asked : Option Seat → List HubCall = λ o. elim o as (λ _. List HubCall) [ None ↦ [] | Some seat ↦ passing_calls (way_calls way) (passing_of way) world seat ] in
    subst (λ (o : Option Seat). HasPrinted (calls_asks (asked o) world.hub kept.askings) later (with_seats known seats) written (does_by way w world o)) (sym r.found)
    (subst (HasPrinted (calls_asks (asked (Some r.seat)) world.hub kept.askings) later (with_seats known seats) written) told_so
    (record {
      text = is ∙ passed-text way w count over closing;
      asks = r.answer.asks;
      stands = record {
        hub = subst (hubs.StandsFor later) (sym (finished-hub p told)) r.answer.stands;
        peers = s.peers ∙ ap (λ (x : World). x.peers) (sym same) ∙ sym (finished-peers p told);
        seats = subst (StandForSeats seats) (ap (λ (x : World). (with_seat (cut_if told p.seat) x).seats) (sym same) ∙ sym (finished-seats p told)) r.stands;
        links = s.links ∙ ap (λ (x : World). x.links) (sym same) ∙ sym (finished-links p told);
      };
    }))
