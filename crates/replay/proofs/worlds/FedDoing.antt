-- What octets to a client print, and the world behind them.
--     fed-does, feeds-makes      what they make of a client
--     fed-line      the lines of what was handed out, and of a client that has closed
--     feeds-shut, feeds-open      the line, by whether it has a connection
use Rattle.std.proofs.Common.{◌≡◌, ℕ, Bool, true, false, cond, List, [], ◌∷◌, ◌++◌, get_or, Option, Some, None, refl, sym, ◌∙◌, ap, subst, codes}
use Rattle.std.specs.Prelude.{position}
use Rattle.dsosession.specs.declared.session.CloseReason.{CloseReason}
use Rattle.pushserver.specs.Calls.{HubCall}
use Rattle.hubasking.specs.AskingHubs.{AskingHub}
use Rattle.hubasking.specs.LinkAskings.{Askings}
use Rattle.pushclient.specs.Clients.{Client, closed_as, output_of}
use Rattle.pushclient.specs.Rule.{KeptClient, StandsFor}
use Rattle.scripts.specs.Lines.{Word}
use Rattle.replay.specs.World.{Seat, World, with_seat, cut_seat, with_client, is_over, cut_if, hub_cut_if, world_cut_if}
use Rattle.scripts.specs.Words.{spaced, octets_text}
use Rattle.replay.specs.Text.{Printed, close_lines, feeds}
use Rattle.replay.specs.KeptSteps.{Delivers}
use Rattle.pushclient.specs.HandedOut.{HandsOut}
use Rattle.replay.specs.Askings.{calls_asks}
use Rattle.replay.specs.LineCalls.{end_calls, feed_calls, of_seat}
use Rattle.replay.specs.KeptAskings as hubs
use Rattle.replay.specs.KeptAskings.{AsksAfter}
use Rattle.replay.specs.KeptWorlds.{KeptSeat, Seated, Parties, StandsForSeat, StandForSeats, HasPrinted, Acts}
use Rattle.replay.specs.KeptSeats.{has_word, Makes, Calls, Answers, HasFinished, TellsConnected, closing_text}
use Rattle.replay.specs.KeptFeeds.{fed_seat, HasFed, fed_text}
use Rattle.replay.specs.PassedOctets.{reached_by, fed_client}
use Rattle.replay.proofs.worlds.Doing.{one_line, two_parts, worded}
use Rattle.replay.proofs.worlds.FedSeats.{feeds_as, feeds_by}
use Rattle.replay.proofs.worlds.Seats.{absent, is-called, IsCalled, is-seated, IsSeated, put-put, stays-makes}
use Rattle.replay.proofs.worlds.SeatsDoing.{with_seats}

-- ---- a client

pub fed-does : (kept between later : KeptClient) (octets told : List ℕ) (went_in : ℕ) → Delivers kept octets between went_in → HandsOut between told later
    → (plain : Client) → StandsFor kept plain → (told ≡ output_of (reached_by octets plain)) × StandsFor later (fed_client octets plain)
unfolding Delivers HandsOut
fed-does kept between later octets told went_in delivers hands plain stands =
    let r = delivers plain stands in
    let h = hands (reached_by octets plain) r.stands in
    (h.all, h.stands)

module _ (octets told : List ℕ) (closing : Option CloseReason) (hub : AskingHub) (k : KeptSeat) (client : KeptClient)
    (does : (plain : Client) → StandsFor k.client plain → (told ≡ output_of (reached_by octets plain)) × StandsFor client (fed_client octets plain)) where
  abbrev IsTold : Client → Type 0
  IsTold c = told ≡ output_of (reached_by octets c)

  abbrev fed_first : Makes (Answers IsTold) (with_client (fed_client octets)) k (record k { client = client })
  fed_first = stays-makes IsTold (fed_client octets) k client does

  pub feeds-makes : (later : AskingHub) (after : KeptSeat) → Makes (HasFinished None closing hub later) (cut_if (is_over None closing)) (record k { client = client }) after → Makes (HasFed octets told closing hub later) (fed_seat octets closing) k after
  feeds-makes later after ends = record {
    word = ends.word;
    answer = λ seat s. (let a = ends.answer (with_client (fed_client octets) seat) (fed_first.stands seat s) in record { handed_out = fed_first.answer seat s; closes = a.closes; hub = a.hub });
    stands = λ seat s. ends.stands (with_client (fed_client octets) seat) (fed_first.stands seat s);
  }

-- ---- the line

pub fed-line : (w : Word) (told : List ℕ) (closing : Option CloseReason) → (codes "bytes " ++ two_parts w (octets_text told)) ++ closing_text w closing ≡ fed_text w told closing
fed-line w told closing = ap (λ (l : List ℕ). l ++ closing_text w closing) (worded (codes "bytes ") w (octets_text told))

-- the calls of the hub, by what there is of the client
abbrev fed_calls_by : List ℕ → World → Option Seat → List HubCall
fed_calls_by octets world o = elim o as (λ _. List HubCall) [ None ↦ [] | Some seat ↦ feed_calls octets world seat ]

abbrev fed_calls_as : List ℕ → Seat → Bool → List HubCall
fed_calls_as octets seat b = cond b (cond (is_over None (closed_as (fed_client octets seat.client))) (end_calls seat.session) []) []

abbrev fed_ends : Seat → Option CloseReason → List HubCall
fed_ends seat closing = cond (is_over None closing) (end_calls seat.session) []

-- without a connection nothing goes in
pub feeds-shut : (kept : AskingHub) (known : Parties) (w : Word) (octets : List ℕ) (place : ℕ) (k : KeptSeat) (written : List ℕ) → position (has_word w) known.seats ≡ Some place → k ≡ get_or known.seats place k → TellsConnected known.seats place false
    → written ≡ codes "bytes " ++ two_parts w (octets_text []) → Acts (feeds w octets) (of_seat (feed_calls octets) w) kept known written kept known
unfolding Acts
feeds-shut kept known w octets place k written at there tells is world s d =
    let p : IsSeated w known.seats place world = is-seated w known.seats world place s.seats at in
    let here : StandsForSeat k p.seat = p.here k there in
    subst (λ (o : Option Seat). HasPrinted (calls_asks (fed_calls_by octets world o) world.hub kept.askings) kept known written (feeds_by w octets world o)) (sym p.found)
    (subst (λ (b : Bool). HasPrinted (calls_asks (fed_calls_as octets p.seat b) world.hub kept.askings) kept known written (feeds_as w octets world p.seat b)) (tells k p.seat there here)
    (record { text = is ∙ worded (codes "bytes ") w (codes "-") ∙ one_line (codes "bytes " ++ (w ++ 32 ∷ codes "-")); stands = s; asks = refl }))

-- what is printed, and the world, by the reason of the close
abbrev fed_as : List ℕ → List ℕ → World → Seat → Option CloseReason → Printed
fed_as octets told world seat closing =
    let x : Seat = with_client (fed_client octets) seat in
    (world_cut_if (is_over None closing) x (with_seat x world), spaced (codes "bytes" ∷ seat.word ∷ octets_text told ∷ []) ∷ close_lines seat.word closing)

pub feeds-open : (kept between : AskingHub) (known : Parties) (later : Seated) (w : Word) (octets told : List ℕ) (closing : Option CloseReason) (place : ℕ) (k : KeptSeat) (written : List ℕ) → position (has_word w) known.seats ≡ Some place
    → k ≡ get_or known.seats place k → TellsConnected known.seats place true → Calls (HasFed octets told closing kept between) (fed_seat octets closing) known.seats place later → written ≡ fed_text w told closing
    → Acts (feeds w octets) (of_seat (feed_calls octets) w) kept known written between (with_seats known later)
unfolding Acts
feeds-open kept between known later w octets told closing place k written at there tells c is world s d =
    let r : IsCalled w known.seats later place world (HasFed octets told closing kept between) (fed_seat octets closing) = is-called w known.seats later world place (HasFed octets told closing kept between) (fed_seat octets closing) s.seats d at c in
    let here : StandsForSeat k r.seat = r.here k there in
    let done = r.answer.hub world.hub s.hub in
    let asked : Seat → Option CloseReason → Askings = λ seat o. calls_asks (fed_ends seat o) world.hub kept.askings in
    subst (λ (o : Option Seat). HasPrinted (calls_asks (fed_calls_by octets world o) world.hub kept.askings) between (with_seats known later) written (feeds_by w octets world o)) (sym r.found)
    (subst (λ (b : Bool). HasPrinted (calls_asks (fed_calls_as octets r.seat b) world.hub kept.askings) between (with_seats known later) written (feeds_as w octets world r.seat b)) (tells k r.seat there here)
    (subst (λ (o : Option CloseReason). HasPrinted (asked r.seat o) between (with_seats known later) written (fed_as octets (output_of (reached_by octets r.seat.client)) world r.seat o)) r.answer.closes
    (subst (λ (t : List ℕ). HasPrinted (asked r.seat closing) between (with_seats known later) written (fed_as octets t world r.seat closing)) r.answer.handed_out
    (by r.seat closing r.stands (is ∙ ap (λ (v : Word). fed_text v told closing) (sym r.word)) done.0 done.1))))
  where
    by : (seat : Seat) (o : Option CloseReason) → StandForSeats later (with_seat (fed_seat octets o seat) world).seats → written ≡ fed_text seat.word told o → hubs.StandsFor between (hub_cut_if (is_over None o) seat world.hub) → AsksAfter (fed_ends seat o) world.hub kept.askings between.askings
        → HasPrinted (calls_asks (fed_ends seat o) world.hub kept.askings) between (with_seats known later) written (fed_as octets told world seat o)
    by seat None stands text hub asks = record { text = text; stands = record { hub = hub; peers = s.peers; seats = stands; links = s.links }; asks = asks }
    by seat (Some reason) stands text hub asks =
        let x : Seat = with_client (fed_client octets) seat in
        record { text = text; stands = record { hub = hub; peers = s.peers; seats = subst (StandForSeats later) (sym (put-put seat.word x (cut_seat x) world.seats refl)) stands; links = s.links }; asks = asks }
