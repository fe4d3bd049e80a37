-- A seat without a session, and one whose connection is cut.
--     cut-alone      without a session it stands alone behind a cut, too
--     joined-cut      so does one that had a session
--     stands-with, with-stands, stands-alone      how a seat stands, by its session
use Rattle.std.proofs.Common.{◌≡◌, ℕ, ◌≤◌, Bool, true, false, cond, ◌||◌, List, [], ◌∷◌, map, filter, length, Option, Some, None, refl, sym, subst, arith, le_refl}
use Rattle.std.specs.Prelude.{IsTrue}
use Rattle.std.specs.List.{AllByRecursion, IsDistinct}
use Rattle.rrset.specs.Records.{same_question}
use Rattle.rrset.specs.declared.record.Question.{Question}
use Rattle.inflight.specs.Ends.{is_question}
use Rattle.inflight.specs.Flight.{AreSoundWishes}
use Rattle.pushclient.specs.Clients as clients
use Rattle.pushclient.specs.Clients.{Client, Connection, Wish, unasked}
use Rattle.pushserver.specs.PlainHubs.{Hub, Session}
use Rattle.pushserver.specs.Hubs.{newest}
use Rattle.replay.specs.World.{Seat, cut_seat, hub_without}
use Rattle.replay.specs.Promises.{ShownPoints, IsUnconnected}
use Rattle.script_laws.specs.Reached.{IsReached}
use Rattle.script_laws.specs.Joined.{IsJoined, StandsWith, SeatStands}
use Rattle.script_laws.specs.Walk.{CutsStandAlone}

-- ---- wishes that are kept behind a cut

abbrev left_of : List Wish → List Wish
left_of ws = map unasked (map (λ w. w.question) (filter (λ w. w.wanted) ws))

each-left : (P : Question → Type 0) (ws : List Wish) → AllByRecursion (λ w. P w.question) ws → AllByRecursion (λ w. P w.question) (left_of ws)
each-left P [] all = tt
each-left P (w ∷ ws) all = by w.wanted (each-left P ws all.1)
  where
    by : (b : Bool) → AllByRecursion (λ v. P v.question) (left_of ws) → AllByRecursion (λ v. P v.question) (map unasked (map (λ (v : Wish). v.question) (cond b (w ∷ filter (λ v. v.wanted) ws) (filter (λ v. v.wanted) ws))))
    by true rest = (all.0, rest)
    by false rest = rest

few-left : (ws : List Wish) → length (left_of ws) ≤ length ws
few-left [] = omega arith
few-left (w ∷ ws) = by w.wanted (few-left ws)
  where
    by : (b : Bool) → length (left_of ws) ≤ length ws → length (map unasked (map (λ (v : Wish). v.question) (cond b (w ∷ filter (λ v. v.wanted) ws) (filter (λ v. v.wanted) ws)))) ≤ length (w ∷ ws)
    by true h = omega (arith, h)
    by false h = omega (arith, h)

abbrev Differ : List Wish → Type 0
Differ ws = IsDistinct (λ v w. same_question v.question w.question) ws

differ-left : (ws : List Wish) → Differ ws → Differ (left_of ws)
unfolding IsDistinct
differ-left [] d = tt
differ-left (w ∷ ws) d = by w.wanted (differ-left ws d.1)
  where
    by : (b : Bool) → Differ (left_of ws) → Differ (map unasked (map (λ (v : Wish). v.question) (cond b (w ∷ filter (λ v. v.wanted) ws) (filter (λ v. v.wanted) ws))))
    by true rest = (each-left (λ q. same_question w.question q ≡ false) ws d.0, rest)
    by false rest = rest

pub sound-left : (client : Client) → AreSoundWishes client.wishes → AreSoundWishes (clients.cut client).wishes
sound-left client h = record {
  few = omega (arith, h.few, few-left client.wishes);
  questions = differ-left client.wishes h.questions;
  fit = each-left (λ q. IsTrue (is_question q)) client.wishes h.fit;
}

-- ---- how a seat stands

pub stands-with : (hub : Hub) (shown : ShownPoints) (seat : Seat) (number : ℕ) → seat.session ≡ Some number → SeatStands hub shown seat → StandsWith hub shown seat number
stands-with hub shown seat number e h = subst (λ (o : Option ℕ). elim o as (λ _. Type 0) [ None ↦ IsUnconnected hub shown seat | Some n ↦ StandsWith hub shown seat n ]) e h

pub with-stands : (hub : Hub) (shown : ShownPoints) (seat : Seat) (number : ℕ) → seat.session ≡ Some number → StandsWith hub shown seat number → SeatStands hub shown seat
with-stands hub shown seat number e h = subst (λ (o : Option ℕ). elim o as (λ _. Type 0) [ None ↦ IsUnconnected hub shown seat | Some n ↦ StandsWith hub shown seat n ]) (sym e) h

pub stands-alone : (hub : Hub) (shown : ShownPoints) (seat : Seat) → seat.session ≡ None → SeatStands hub shown seat → IsUnconnected hub shown seat
stands-alone hub shown seat e h = subst (λ (o : Option ℕ). elim o as (λ _. Type 0) [ None ↦ IsUnconnected hub shown seat | Some n ↦ StandsWith hub shown seat n ]) e h

pub alone-stands : (hub : Hub) (shown : ShownPoints) (seat : Seat) → seat.session ≡ None → IsUnconnected hub shown seat → SeatStands hub shown seat
alone-stands hub shown seat e h = subst (λ (o : Option ℕ). elim o as (λ _. Type 0) [ None ↦ IsUnconnected hub shown seat | Some n ↦ StandsWith hub shown seat n ]) (sym e) h

-- ---- a cut

pub or_true : (a : Bool) → IsTrue (a || true)
or_true true = refl
or_true false = refl

pub cut-unconnected : (hub : Hub) (shown : ShownPoints) (seat : Seat) → IsUnconnected hub shown seat → IsUnconnected hub shown (cut_seat seat)
cut-unconnected hub shown seat h = record {
  client = or_true seat.is_lone;
  wishes = λ own. sound-left seat.client (h.wishes own);
  up_wire = refl;
  down_wire = refl;
  reached = refl;
  filled = refl;
  shown_before = h.shown_before;
}

-- with another client that has the same wishes
pub cut-other : (hub : Hub) (shown : ShownPoints) (seat : Seat) (client : Client) → client.wishes ≡ seat.client.wishes → IsUnconnected hub shown (cut_seat seat) → IsUnconnected hub shown (cut_seat (record seat { client = client }))
cut-other hub shown seat client same h = record {
  client = or_true seat.is_lone;
  wishes = λ own. subst (λ (ws : List Wish). AreSoundWishes (left_of ws)) (sym same) (h.wishes own);
  up_wire = refl;
  down_wire = refl;
  reached = refl;
  filled = refl;
  shown_before = h.shown_before;
}

pub cut-alone : (hub : Hub) (shown : ShownPoints) (seat : Seat) → seat.session ≡ None → IsUnconnected hub shown seat → SeatStands (hub_without seat.session hub) shown (cut_seat seat)
cut-alone hub shown seat none h = subst (λ (o : Option ℕ). IsUnconnected (hub_without o hub) shown (cut_seat seat)) (sym none) (cut-unconnected hub shown seat h)

newest-without : (o : Option ℕ) (hub : Hub) → newest hub ≤ newest (hub_without o hub)
newest-without None hub = le_refl (newest hub)
newest-without (Some number) hub = le_refl (newest hub)

pub joined-cut : CutsStandAlone → (hub : Hub) (shown : ShownPoints) (seat : Seat) (number : ℕ) (session : Session) (c : Connection) (o : Option ℕ) → IsReached hub → IsJoined hub shown seat number session c
    → IsUnconnected (hub_without o hub) shown (cut_seat seat)
joined-cut cuts hub shown seat number session c o reached joined = cuts hub shown seat number session c (hub_without o hub) reached joined (newest-without o hub)
