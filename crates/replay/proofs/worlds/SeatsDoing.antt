-- What the events of clients print, and the world behind them.
--     seat-made      one client more
--     asks-told      calls that answer a word
--     opens-already, opens-as_lone, opens-as_hub      a client opens a connection, by what is known of it
--     opened-lone, opened-hub, opened-refused      the connection of a lone one, one to the hub, and one for which the hub has no seat
--     cuts-seat      a client's connection is cut
use Rattle.std.proofs.Common.{◌≡◌, ℕ, Bool, true, false, cond, List, [], ◌∷◌, ◌++◌, get_or, Option, Some, None, refl, sym, ◌∙◌, ap, subst, append_assoc, codes, string_bytes, IfOk, Result, Global}
use Rattle.std.proofs.lemmas.List.{map-append}
use Rattle.std.specs.Prelude.{position}
use Rattle.std.specs.declared.string.String.{String}
use Rattle.pushserver.specs.Hubs.{now, connect}
use Rattle.pushserver.specs.PlainHubs.{Hub}
use Rattle.pushserver.specs.Calls.{HubCall, connects as seating}
use Rattle.hubasking.specs.AskingHubs.{AskingHub}
use Rattle.hubasking.specs.LinkAskings.{Askings}
use Rattle.pushclient.specs.Clients.{connected}
use Rattle.scripts.specs.Lines.{Word}
use Rattle.scripts.specs.declared.line.Call.{Call}
use Rattle.replay.specs.World.{Seat, World, new_seat, with_seat, cut_seat, cut_connection, cut_peer, session_number, with_client, joined}
use Rattle.scripts.specs.Words.{spaced, ended_lines}
use Rattle.replay.specs.Text.{Printed, quietly, printing, asks, opens, opens_lone, opens_hub, cuts, seated, by_seat, call_word, called}
use Rattle.replay.specs.declared.seats.Seat as program
use Rattle.scripts.specs.declared.line.SessionEvent.TheVariants as session_events
use Rattle.replay.specs.Askings.{calls_asks}
use Rattle.replay.specs.LineCalls.{connect_calls, open_calls, of_seat, end_calls, session_calls}
use Rattle.replay.specs.KeptAskings as hubs
use Rattle.replay.specs.KeptWorlds.{KeptSeat, Seated, seat_kept, seated as seats_kept, Parties, StandsForSeat, StandForSeats, HasPrinted, Acts}
use Rattle.replay.specs.KeptSeats.{TellsConnected, has_word, Calls, Answers, HasCut}
use Rattle.replay.proofs.worlds.Doing.{one_line, two_parts, worded, if_acts, refused-same}
use Rattle.replay.proofs.worlds.SeatLines.{asks_by, opens_as, opens_by, hub_opens}
use Rattle.replay.proofs.worlds.Seats.{absent, is-called, IsCalled, is-seated, IsSeated, stand-more}

abbrev pub with_seats : Parties → Seated → Parties
with_seats known seats = record known { seats = seats }

-- what makes no call of the hub
abbrev pub no_calls : World → List HubCall
no_calls world = []

-- ---- one client more

pub seat-made : (kept : AskingHub) (known : Parties) (items later : List program.Seat) (s : program.Seat) (w : Word) (is_lone : Bool) (written : List ℕ) → known.seats ≡ seats_kept items → later ≡ items ++ s ∷ []
    → StandsForSeat (seat_kept s) (new_seat w is_lone) → written ≡ [] → Acts (seated w is_lone) no_calls kept known written kept (with_seats known (seats_kept later))
unfolding Acts
seat-made kept known items later s w is_lone written same later_is new is world stands d =
    let made : known.seats ++ seat_kept s ∷ [] ≡ seats_kept later = (λ i. same i ++ seat_kept s ∷ []) ∙ sym (map-append seat_kept items (s ∷ [])) ∙ ap seats_kept (sym later_is) in
    record {
      text = is;
      stands = record {
        hub = stands.hub;
        peers = stands.peers;
        seats = subst (λ (l : Seated). StandForSeats l (world.seats ++ new_seat w is_lone ∷ [])) made (stand-more known.seats world.seats (seat_kept s) (new_seat w is_lone) stands.seats new);
        links = stands.links;
      };
      asks = refl;
    }

-- ---- calls that answer a word

pub asks-act : (kept : AskingHub) (known : Parties) (later : Seated) (call : Call) (w : Word) (place : ℕ) (answer written : List ℕ) → position (has_word w) known.seats ≡ Some place
    → Calls (Answers (λ c. answer ≡ (called call c).0)) (with_client (λ c. (called call c).1)) known.seats place later
    → ((world : World) → written ≡ ended_lines (printing (call_word call ∷ w ∷ answer ∷ []) world).1)
    → Acts (asks call w) no_calls kept known written kept (with_seats known later)
unfolding Acts
asks-act kept known later call w place answer written at c is world s d =
    let r : IsCalled w known.seats later place world (Answers (λ c. answer ≡ (called call c).0)) (with_client (λ c. (called call c).1)) =
    is-called w known.seats later world place (Answers (λ c. answer ≡ (called call c).0)) (with_client (λ c. (called call c).1)) s.seats d at c in
    subst (λ (o : Option Seat). HasPrinted kept.askings kept (with_seats known later) written (asks_by call w world o)) (sym r.found)
    (record {
      text = is world ∙ ap (λ (a : List ℕ). ended_lines (printing (call_word call ∷ w ∷ a ∷ []) world).1) r.answer;
      stands = record { hub = s.hub; peers = s.peers; seats = r.stands; links = s.links };
      asks = refl;
    })

-- the line of an answer
pub answer-line : (verb : List ℕ) (w : Word) (answer : List ℕ) → (verb ++ 32 ∷ []) ++ two_parts w answer ≡ ended_lines (spaced (verb ∷ w ∷ answer ∷ []) ∷ [])
answer-line verb w answer = worded (verb ++ 32 ∷ []) w answer ∙ one_line ((verb ++ 32 ∷ []) ++ (w ++ 32 ∷ answer)) ∙ ap (λ (l : List ℕ). ended_lines (l ∷ [])) (append_assoc verb (32 ∷ []) (w ++ 32 ∷ answer))

pub asks-told : {E : Type 0} (kept : AskingHub) (known : Parties) (later : Seated) (call : Call) (w : Word) (place : ℕ) (answer told : List ℕ) (r : Result (String Global) E) → position (has_word w) known.seats ≡ Some place
    → Calls (Answers (λ c. answer ≡ (called call c).0)) (with_client (λ c. (called call c).1)) known.seats place later → told ≡ answer
    → IfOk r (λ text. string_bytes text ≡ (call_word call ++ 32 ∷ []) ++ two_parts w told)
    → IfOk r (λ text. Acts (asks call w) no_calls kept known (string_bytes text) kept (with_seats known later))
asks-told kept known later call w place answer told r at c same is =
    if_acts (asks call w) no_calls kept kept known (with_seats known later) ((call_word call ++ 32 ∷ []) ++ two_parts w told) r
    (λ written said. asks-act kept known later call w place answer written at c (λ world. said ∙ ap (λ (a : List ℕ). (call_word call ++ 32 ∷ []) ++ two_parts w a) same ∙ answer-line (call_word call) w answer)) is

-- ---- a client opens a connection

-- what is told of the client at a place
abbrev pub Tells : {X : Type 0} → (KeptSeat → X) → Seated → ℕ → X → Type 0
Tells field seats place answer = (seat : KeptSeat) → seat ≡ get_or seats place seat → answer ≡ field seat

-- whether it is a lone one
abbrev pub TellsLone : Seated → ℕ → Bool → Type 0
TellsLone seats place answer = Tells (λ k. k.is_lone) seats place answer

-- the calls of one that opens it, by whether it is connected and a lone one
abbrev opens_calls : World → Bool → Bool → List HubCall
opens_calls world is_open lone = cond is_open [] (cond lone [] (connect_calls world.hub))

abbrev opens_calls_by : World → Option Seat → List HubCall
opens_calls_by world o = elim o as (λ _. List HubCall) [ None ↦ [] | Some seat ↦ open_calls world seat ]

pub opens-already : (kept : AskingHub) (known : Parties) (w : Word) (place : ℕ) (k : KeptSeat) (written : List ℕ) → position (has_word w) known.seats ≡ Some place → k ≡ get_or known.seats place k → TellsConnected known.seats place true
    → written ≡ codes "already " ++ (w ++ 10 ∷ []) → Acts (opens w) (of_seat open_calls w) kept known written kept known
unfolding Acts
opens-already kept known w place k written at there tells is world s d =
    let p : IsSeated w known.seats place world = is-seated w known.seats world place s.seats at in
    let here : StandsForSeat k p.seat = p.here k there in
    subst (λ (o : Option Seat). HasPrinted (calls_asks (opens_calls_by world o) world.hub kept.askings) kept known written (opens_by w world o)) (sym p.found)
    (subst (λ (b : Bool). HasPrinted (calls_asks (opens_calls world b p.seat.is_lone) world.hub kept.askings) kept known written (opens_as w world p.seat b p.seat.is_lone)) (tells k p.seat there here)
    (record { text = is ∙ one_line (codes "already " ++ w); stands = s; asks = refl }))

abbrev seat_by : (Seat → World → Printed) → World → Option Seat → Printed
seat_by act world o = elim o as (λ _. Printed) [ None ↦ quietly world | Some seat ↦ act seat world ]

-- one that has none opens it as a lone one does, or as one of the hub does
abbrev opens_with : Bool → Seat → World → Printed
opens_with true = opens_lone
opens_with false = opens_hub

abbrev calls_with : Bool → World → List HubCall
calls_with lone world = cond lone [] (connect_calls world.hub)

opens-with : (lone : Bool) (kept later : AskingHub) (known known_later : Parties) (w : Word) (place : ℕ) (k : KeptSeat) (written : List ℕ) → position (has_word w) known.seats ≡ Some place → k ≡ get_or known.seats place k
    → TellsConnected known.seats place false → TellsLone known.seats place lone → Acts (by_seat (opens_with lone) w) (calls_with lone) kept known written later known_later → Acts (opens w) (of_seat open_calls w) kept known written later known_later
unfolding Acts
opens-with lone kept later known known_later w place k written at there shut tells does world s d =
    let p : IsSeated w known.seats place world = is-seated w known.seats world place s.seats at in
    let here : StandsForSeat k p.seat = p.here k there in
    let asked : Bool → Bool → Askings = λ b c. calls_asks (opens_calls world b c) world.hub kept.askings in
    subst (λ (o : Option Seat). HasPrinted (calls_asks (opens_calls_by world o) world.hub kept.askings) later known_later written (opens_by w world o)) (sym p.found)
    (subst (λ (b : Bool). HasPrinted (asked b p.seat.is_lone) later known_later written (opens_as w world p.seat b p.seat.is_lone)) (shut k p.seat there here)
    (subst (λ (b : Bool). HasPrinted (asked false b) later known_later written (opens_as w world p.seat false b)) (tells k there ∙ here.is_lone)
    (by (asked false lone) p.seat lone (subst (λ (o : Option Seat). HasPrinted (asked false lone) later known_later written (seat_by (opens_with lone) world o)) p.found (does world s d)))))
  where
    by : (x : Askings) (seat : Seat) (b : Bool) → HasPrinted x later known_later written (opens_with b seat world) → HasPrinted x later known_later written (opens_as w world seat false b)
    by x seat true h = h
    by x seat false h = h

pub opens-as_lone : (kept later : AskingHub) (known known_later : Parties) (w : Word) (place : ℕ) (k : KeptSeat) (written : List ℕ) → position (has_word w) known.seats ≡ Some place → k ≡ get_or known.seats place k
    → TellsConnected known.seats place false → TellsLone known.seats place true → Acts (by_seat opens_lone w) no_calls kept known written later known_later → Acts (opens w) (of_seat open_calls w) kept known written later known_later
opens-as_lone = opens-with true

pub opens-as_hub : (kept later : AskingHub) (known known_later : Parties) (w : Word) (place : ℕ) (k : KeptSeat) (written : List ℕ) → position (has_word w) known.seats ≡ Some place → k ≡ get_or known.seats place k
    → TellsConnected known.seats place false → TellsLone known.seats place false → Acts (by_seat opens_hub w) (λ world. connect_calls world.hub) kept known written later known_later → Acts (opens w) (of_seat open_calls w) kept known written later known_later
opens-as_hub = opens-with false

-- ---- the connection

pub opened-lone : (kept : AskingHub) (known : Parties) (later : Seated) (w : Word) (place t : ℕ) (written : List ℕ) → position (has_word w) known.seats ≡ Some place → ((hub : Hub) → hubs.StandsFor kept hub → t ≡ now hub)
    → Calls (λ s. Unit {0}) (with_client (connected t)) known.seats place later → written ≡ codes "open " ++ (w ++ 10 ∷ []) → Acts (by_seat opens_lone w) no_calls kept known written kept (with_seats known later)
unfolding Acts
opened-lone kept known later w place t written at moment c is world s d =
    let r : IsCalled w known.seats later place world (λ s. Unit {0}) (with_client (connected t)) = is-called w known.seats later world place (λ s. Unit {0}) (with_client (connected t)) s.seats d at c in
    subst (λ (o : Option Seat). HasPrinted kept.askings kept (with_seats known later) written (seat_by opens_lone world o)) (sym r.found)
    (subst (λ (n : ℕ). HasPrinted kept.askings kept (with_seats known later) written (printing (codes "open" ∷ r.seat.word ∷ []) (with_seat (with_client (connected n) r.seat) world))) (moment world.hub s.hub)
    (record {
      text = is ∙ one_line (codes "open " ++ w) ∙ ap (λ (v : Word). ended_lines (printing (codes "open" ∷ v ∷ []) world).1) (sym r.word);
      stands = record { hub = s.hub; peers = s.peers; seats = r.stands; links = s.links };
      asks = refl;
    }))

-- a session of the hub
abbrev pub Connects : AskingHub → Option ℕ → AskingHub → Type 0
Connects kept number later = (hub : Hub) → hubs.StandsFor kept hub → ((connect hub).0 ≡ number) × hubs.StandsFor later (connect hub).1

abbrev connecting : Option ℕ → List HubCall
connecting o = elim o as (λ _. List HubCall) [ None ↦ [] | Some number ↦ seating ∷ [] ]

pub opened-hub : (kept between : AskingHub) (known : Parties) (later : Seated) (w : Word) (place t number : ℕ) (written : List ℕ) → position (has_word w) known.seats ≡ Some place → ((hub : Hub) → hubs.StandsFor kept hub → t ≡ now hub)
    → Connects kept (Some number) between → between.askings ≡ kept.askings → Calls (λ s. Unit {0}) (joined t number) known.seats place later → written ≡ codes "open " ++ (w ++ 10 ∷ []) → Acts (by_seat opens_hub w) (λ world. connect_calls world.hub) kept known written between (with_seats known later)
unfolding Acts
opened-hub kept between known later w place t number written at moment connects same c is world s d =
    let r : IsCalled w known.seats later place world (λ s. Unit {0}) (joined t number) = is-called w known.seats later world place (λ s. Unit {0}) (joined t number) s.seats d at c in
    let made = connects world.hub s.hub in
    subst (λ (o : Option Seat). HasPrinted (calls_asks (connect_calls world.hub) world.hub kept.askings) between (with_seats known later) written (seat_by opens_hub world o)) (sym r.found)
    (subst (λ (o : Option ℕ). HasPrinted (calls_asks (connecting o) world.hub kept.askings) between (with_seats known later) written (hub_opens r.seat world o)) (sym made.0)
    (subst (λ (n : ℕ). HasPrinted kept.askings between (with_seats known later) written (printing (codes "open" ∷ r.seat.word ∷ []) (with_seat (joined n number r.seat) (record world { hub = (connect world.hub).1 })))) (moment world.hub s.hub)
    (record {
      text = is ∙ one_line (codes "open " ++ w) ∙ ap (λ (v : Word). ended_lines (printing (codes "open" ∷ v ∷ []) world).1) (sym r.word);
      stands = record { hub = made.1; peers = s.peers; seats = r.stands; links = s.links };
      asks = same;
    })))

pub opened-refused : (kept later : AskingHub) (known : Parties) (w : Word) (place : ℕ) (written : List ℕ) → position (has_word w) known.seats ≡ Some place → Connects kept None later → later.askings ≡ kept.askings
    → written ≡ codes "noseat " ++ (w ++ 10 ∷ []) → Acts (by_seat opens_hub w) (λ world. connect_calls world.hub) kept known written later known
unfolding Acts
opened-refused kept later known w place written at connects same is world s d =
    let p : IsSeated w known.seats place world = is-seated w known.seats world place s.seats at in
    let made = connects world.hub s.hub in
    subst (λ (o : Option Seat). HasPrinted (calls_asks (connect_calls world.hub) world.hub kept.askings) later known written (seat_by opens_hub world o)) (sym p.found)
    (subst (λ (o : Option ℕ). HasPrinted (calls_asks (connecting o) world.hub kept.askings) later known written (hub_opens p.seat world o)) (sym made.0)
    (record {
      text = is ∙ one_line (codes "noseat " ++ w) ∙ ap (λ (v : Word). ended_lines (printing (codes "noseat" ∷ v ∷ []) world).1) (sym p.word);
      stands = record { hub = subst (hubs.StandsFor later) (refused-same world.hub made.0) made.1; peers = s.peers; seats = s.seats; links = s.links };
      asks = same;
    }))

-- ---- cuts

abbrev cuts_by : Word → World → Option Seat → Printed
cuts_by w world o = printing (codes "cut" ∷ w ∷ []) (elim o as (λ _. World) [ None ↦ cut_peer w world | Some seat ↦ cut_connection seat world ])

pub cuts-seat : (kept between : AskingHub) (known : Parties) (later : Seated) (w : Word) (place : ℕ) (written : List ℕ) → position (has_word w) known.seats ≡ Some place
    → Calls (HasCut kept between) cut_seat known.seats place later → written ≡ codes "cut " ++ (w ++ 10 ∷ []) → Acts (cuts w) (session_calls session_events.Cut w) kept known written between (with_seats known later)
unfolding Acts
cuts-seat kept between known later w place written at c is world s d =
    let r : IsCalled w known.seats later place world (HasCut kept between) cut_seat = is-called w known.seats later world place (HasCut kept between) cut_seat s.seats d at c in
    let done = r.answer world.hub s.hub in
    let calls : Option Seat → List HubCall = λ o. elim o as (λ _. List HubCall) [ None ↦ end_calls (session_number world w) | Some seat ↦ end_calls seat.session ] in
    subst (λ (o : Option Seat). HasPrinted (calls_asks (calls o) world.hub kept.askings) between (with_seats known later) written (cuts_by w world o)) (sym r.found)
    (record {
      text = is ∙ one_line (codes "cut " ++ w);
      stands = record { hub = done.0; peers = s.peers; seats = r.stands; links = s.links };
      asks = done.1;
    })
