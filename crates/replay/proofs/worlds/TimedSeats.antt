-- Clients at a moment, one after the other.
--     peers-timed, links-timed      at a moment they leave the peers and the links
--     Timing      the first clients have had their moment
--     timing-begins, timing-more, timing-ends      one more has it
use Rattle.std.proofs.Common.{◌≡◌, Bool, true, false, ℕ, suc, ◌+◌, ◌<◌, ◌≤◌, List, [], ◌∷◌, ◌++◌, map, fold, cond, length, set, get_or, Option, Some, None, refl, sym, ◌∙◌, ap, subst, arith, append_assoc, append-nil, length-append}
use Rattle.std.specs.Prelude.{flat_map}
use Rattle.std.proofs.lemmas.List.{get_or-set_same}
use Rattle.dsosession.specs.declared.session.CloseReason.{CloseReason}
use Rattle.pushserver.specs.Calls.{HubCall, after_calls}
use Rattle.pushserver.specs.PlainHubs.{Hub}
use Rattle.hubasking.specs.AskingHubs.{AskingHub}
use Rattle.hubasking.specs.LinkAskings.{Askings}
use Rattle.pushclient.specs.Clients.{closed_as}
use Rattle.pushclient.specs.Steps as steps
use Rattle.scripts.specs.Lines.{Word}
use Rattle.replay.specs.World.{Seat, World, with_seat, cut_seat, is_over, hub_cut_if, world_cut_if}
use Rattle.replay.specs.Text.{Printed, quietly, close_lines, closes_of, timed}
use Rattle.scripts.specs.Words.{ended_lines}
use Rattle.replay.specs.Askings.{calls_asks}
use Rattle.replay.specs.LineCalls.{end_calls, timed_calls}
use Rattle.replay.specs.KeptAskings as hubs
use Rattle.replay.specs.KeptWorlds.{KeptSeat, Seated, StandsForSeat, StandForSeats, words_in}
use Rattle.scripts.specs.Scripts.{AreDistinct}
use Rattle.replay.specs.KeptSeats.{timed_seat, Calls, HasTimed, closing_text, IsTimed, Times}
use Rattle.replay.proofs.calls.Behind.{asks-append, cuts-by}
use Rattle.replay.proofs.worlds.Seats.{words_of, put_seat, put-at, put-put, seat-at, set-at}

-- ---- what they leave

pub peers-cut_if : (over : Bool) (seat : Seat) (world : World) → (world_cut_if over seat world).peers ≡ world.peers
peers-cut_if false seat world = refl
peers-cut_if true seat world = refl

pub peers-timed : (t : ℕ) (seats : List Seat) (p : Printed) → (fold (timed t) p seats).0.peers ≡ p.0.peers
peers-timed t [] p = refl
peers-timed t (seat ∷ seats) p =
    let later : Seat = record seat { client = steps.moment seat.client t } in
    peers-timed t seats (timed t p seat) ∙ peers-cut_if (is_over None (closed_as later.client)) later (with_seat later p.0)

links-cut_if : (over : Bool) (seat : Seat) (world : World) → (world_cut_if over seat world).links ≡ world.links
links-cut_if false seat world = refl
links-cut_if true seat world = refl

pub links-timed : (t : ℕ) (seats : List Seat) (p : Printed) → (fold (timed t) p seats).0.links ≡ p.0.links
links-timed t [] p = refl
links-timed t (seat ∷ seats) p =
    let later : Seat = record seat { client = steps.moment seat.client t } in
    links-timed t seats (timed t p seat) ∙ links-cut_if (is_over None (closed_as later.client)) later (with_seat later p.0)

-- ---- one client

abbrev at_moment : ℕ → Seat → Seat
at_moment t s = record s { client = steps.moment s.client t }

abbrev timed_as : ℕ → Printed → Seat → Option CloseReason → Printed
timed_as t p s closing = (world_cut_if (is_over None closing) (at_moment t s) (with_seat (at_moment t s) p.0), p.1 ++ close_lines s.word closing)

seats-timed : (t : ℕ) (p : Printed) (front back : List Seat) (s : Seat) (closing : Option CloseReason) → AreDistinct (words_of (front ++ s ∷ back)) → p.0.seats ≡ front ++ s ∷ back
    → (timed_as t p s closing).0.seats ≡ front ++ timed_seat t closing s ∷ back
seats-timed t p front back s None distinct is = ap (put_seat s.word (at_moment t s)) is ∙ put-at s.word front back s (at_moment t s) distinct refl
seats-timed t p front back s (Some reason) distinct is =
    put-put s.word (at_moment t s) (cut_seat (at_moment t s)) p.0.seats refl ∙ ap (put_seat s.word (cut_seat (at_moment t s))) is ∙ put-at s.word front back s (cut_seat (at_moment t s)) distinct refl

hub-then : (t : ℕ) (p : Printed) (s : Seat) (closing : Option CloseReason) → (timed_as t p s closing).0.hub ≡ hub_cut_if (is_over None closing) s p.0.hub
hub-then t p s None = refl
hub-then t p s (Some reason) = refl

-- ---- the clients so far

-- what the first clients printed and made, and what is left to do
pub record TimedSoFar (t : ℕ) (asked : Askings) (kept : AskingHub) (now : Seated) (told : List (List ℕ)) (place : ℕ) (whole : Printed) (all : List (List ℕ)) : Type 0 where
  pub done : Printed
  pub front : List Seat
  pub back : List Seat
  pub seats : done.0.seats ≡ front ++ back
  pub count : length front ≡ place
  pub distinct : AreDistinct (words_of (front ++ back))
  pub hub : hubs.StandsFor kept done.0.hub
  pub stand : StandForSeats now (front ++ back)
  pub said : told ++ map ended_lines (closes_of t back) ≡ all
  pub left : fold (timed t) done back ≡ whole
  pub asks : calls_asks (flat_map (timed_calls t) back) done.0.hub kept.askings ≡ asked

unfoldable pub Timing : ℕ → AskingHub → Seated → AskingHub → Seated → List (List ℕ) → ℕ → Type 0
Timing t kept before kept_now now so_far place = (world : World) → hubs.StandsFor kept world.hub → StandForSeats before world.seats → AreDistinct (words_in world)
    → TimedSoFar t (calls_asks (flat_map (timed_calls t) world.seats) world.hub kept.askings) kept_now now so_far place (fold (timed t) (quietly world) world.seats) (map ended_lines (closes_of t world.seats))

pub timing-begins : (t : ℕ) (kept : AskingHub) (before : Seated) (told : List (List ℕ)) → told ≡ [] → Timing t kept before kept before told 0
unfolding Timing
timing-begins t kept before told none world stands h distinct =
    record { done = quietly world; front = []; back = world.seats; seats = refl; count = refl; distinct = distinct; hub = stands; stand = h; said = ap (λ (l : List (List ℕ)). l ++ map ended_lines (closes_of t world.seats)) none; left = refl; asks = refl }

pub lines-append : (xs ys : List (List ℕ)) → ended_lines (xs ++ ys) ≡ ended_lines xs ++ ended_lines ys
lines-append [] ys = refl
lines-append (x ∷ xs) ys = ap (λ (rest : List ℕ). (x ++ 10 ∷ []) ++ rest) (lines-append xs ys) ∙ sym (append_assoc (x ++ 10 ∷ []) (ended_lines xs) (ended_lines ys))

same-length : (ks : Seated) (ss : List Seat) → StandForSeats ks ss → length ks ≡ length ss
same-length [] [] h = refl
same-length [] (s ∷ ss) h = absurd h
same-length (k ∷ ks) [] h = absurd h
same-length (k ∷ ks) (s ∷ ss) h = ap suc (same-length ks ss h.1)

word-then : (t : ℕ) (s : Seat) (closing : Option CloseReason) → (timed_seat t closing s).word ≡ s.word
word-then t s None = refl
word-then t s (Some reason) = refl

words-same : (front back : List Seat) (s x : Seat) → x.word ≡ s.word → words_of (front ++ x ∷ back) ≡ words_of (front ++ s ∷ back)
words-same [] back s x e = ap (λ (w : Word). w ∷ words_of back) e
words-same (f ∷ front) back s x e = ap (λ (ws : List Word). f.word ∷ ws) (words-same front back s x e)

one-more : (t : ℕ) (asked : Askings) (kept kept_later : AskingHub) (now later : Seated) (so_far : List (List ℕ)) (line : List ℕ) (next : List (List ℕ)) (word : Word) (place : ℕ) (closing : Option CloseReason) (whole : Printed) (closes : List (List ℕ)) → place < length now
    → Calls (HasTimed t closing kept kept_later) (timed_seat t closing) now place later
    → ((k : KeptSeat) → k ≡ get_or later place k → word ≡ k.word) → line ≡ closing_text word closing → next ≡ so_far ++ line ∷ []
    → TimedSoFar t asked kept now so_far place whole closes → TimedSoFar t asked kept_later later next (place + 1) whole closes
one-more t asked kept kept_later now later so_far line next word place closing whole closes within c names line_is is r = by r.back refl
  where
    some_left : r.back ≡ [] → ⊥
    some_left e =
        let size : length now ≡ length (r.front ++ []) = same-length now (r.front ++ r.back) r.stand ∙ ap (λ (b : List Seat). length (r.front ++ b)) e in
        let whole_front : length (r.front ++ []) ≡ length r.front = ap length (append-nil r.front) in
        omega (arith, within, size, whole_front, r.count)

    by : (back : List Seat) → r.back ≡ back → TimedSoFar t asked kept_later later next (place + 1) whole closes
    by [] e = absurd (some_left e)
    by (s ∷ back) e =
        let here : r.front ++ r.back ≡ r.front ++ s ∷ back = ap (λ (b : List Seat). r.front ++ b) e in
        let all : StandForSeats now (r.front ++ s ∷ back) = subst (StandForSeats now) here r.stand in
        let distinct : AreDistinct (words_of (r.front ++ s ∷ back)) = subst (λ (ss : List Seat). AreDistinct (words_of ss)) here r.distinct in
        let there : c.seat ≡ get_or now (length r.front) c.seat = c.there ∙ ap (λ (n : ℕ). get_or now n c.seat) (sym r.count) in
        let stands : StandsForSeat c.seat s = seat-at r.front back s now c.seat all there in
        let x : Seat = timed_seat t closing s in
        let standing : c.after ≡ get_or later place c.after = sym (ap (λ (l : Seated). get_or l place c.after) c.is ∙ get_or-set_same now place c.after c.after within) in
        let named : word ≡ s.word = names c.after standing ∙ c.makes.word ∙ stands.word in
        let told : HasTimed t closing kept kept_later s = c.makes.answer s stands in
        let done = told.hub r.done.0.hub r.hub in
        let gone : List HubCall = timed_calls t s in
        let asked_then : kept_later.askings ≡ calls_asks gone r.done.0.hub kept.askings = done.1 ∙ ap (λ (o : Option CloseReason). calls_asks (cond (is_over None o) (end_calls s.session) []) r.done.0.hub kept.askings) told.closes in
        let hub_then : (timed_as t r.done s closing).0.hub ≡ after_calls gone r.done.0.hub = hub-then t r.done s closing ∙ cuts-by (is_over None closing) s r.done.0.hub ∙ ap (λ (o : Option CloseReason). after_calls (cond (is_over None o) (end_calls s.session) []) r.done.0.hub) told.closes in
        let step : timed t r.done s ≡ timed_as t r.done s closing = ap (timed_as t r.done s) (sym told.closes) in
        let grouped : (r.front ++ x ∷ []) ++ back ≡ r.front ++ x ∷ back = append_assoc r.front (x ∷ []) back in
        let kept_is : later ≡ set now (length r.front) c.after = c.is ∙ ap (λ (n : ℕ). set now n c.after) (sym r.count) in
        record {
          done = timed_as t r.done s closing;
          front = r.front ++ x ∷ [];
          back = back;
          seats = seats-timed t r.done r.front back s closing distinct (r.seats ∙ here) ∙ sym grouped;
          count = length-append r.front (x ∷ []) ∙ ap (λ (n : ℕ). n + 1) r.count;
          distinct = subst (λ (ss : List Seat). AreDistinct (words_of ss)) (sym grouped) (subst AreDistinct (sym (words-same r.front back s x (word-then t s closing))) distinct);
          hub = subst (hubs.StandsFor kept_later) (sym (hub-then t r.done s closing)) done.0;
          stand = subst (StandForSeats later) (sym grouped) (subst (λ (l : Seated). StandForSeats l (r.front ++ x ∷ back)) (sym kept_is) (set-at r.front back s x now c.after all (c.makes.stands s stands)));
          said =
              ap (λ (l : List (List ℕ)). l ++ map ended_lines (closes_of t back)) is ∙ append_assoc so_far (line ∷ []) (map ended_lines (closes_of t back))
              ∙ ap (λ (l : List ℕ). so_far ++ l ∷ map ended_lines (closes_of t back)) (line_is ∙ (λ i. closing_text (named i) (told.closes i)))
              ∙ ap (λ (b : List Seat). so_far ++ map ended_lines (closes_of t b)) (sym e) ∙ r.said;
          left = ap (λ (p : Printed). fold (timed t) p back) (sym step) ∙ ap (fold (timed t) r.done) (sym e) ∙ r.left;
          asks =
              (λ i. calls_asks (flat_map (timed_calls t) back) (hub_then i) (asked_then i)) ∙ sym (asks-append gone (flat_map (timed_calls t) back) r.done.0.hub kept.askings)
              ∙ ap (λ (b : List Seat). calls_asks (flat_map (timed_calls t) b) r.done.0.hub kept.askings) (sym e) ∙ r.asks;
        }

pub timing-more : (t : ℕ) (kept kept_now kept_later : AskingHub) (before now later : Seated) (so_far : List (List ℕ)) (line : List ℕ) (next : List (List ℕ)) (word : Word) (place : ℕ) (closing : Option CloseReason) → place < length now
    → Calls (HasTimed t closing kept_now kept_later) (timed_seat t closing) now place later
    → ((k : KeptSeat) → k ≡ get_or later place k → word ≡ k.word) → line ≡ closing_text word closing → next ≡ so_far ++ line ∷ []
    → Timing t kept before kept_now now so_far place → Timing t kept before kept_later later next (place + 1)
unfolding Timing
timing-more t kept kept_now kept_later before now later so_far line next word place closing within c names line_is is timing world stands h distinct =
    one-more t (calls_asks (flat_map (timed_calls t) world.seats) world.hub kept.askings) kept_now kept_later now later so_far line next word place closing (fold (timed t) (quietly world) world.seats) (map ended_lines (closes_of t world.seats)) within c names line_is is (timing world stands h distinct)

pub timing-ends : (t : ℕ) (kept kept_now : AskingHub) (before now : Seated) (so_far : List (List ℕ)) (place : ℕ) → length now ≤ place → Timing t kept before kept_now now so_far place → Times t kept before kept_now now so_far
unfolding Timing Times
timing-ends t kept kept_now before now so_far place all timing world stands h distinct = by r.back refl
  where
    whole : Printed
    whole = fold (timed t) (quietly world) world.seats

    r : TimedSoFar t (calls_asks (flat_map (timed_calls t) world.seats) world.hub kept.askings) kept_now now so_far place whole (map ended_lines (closes_of t world.seats))
    r = timing world stands h distinct

    ended : r.done ≡ whole → r.back ≡ [] → IsTimed t kept.askings kept_now now so_far world
    ended same none = record {
      closes = sym (append-nil so_far) ∙ ap (λ (b : List Seat). so_far ++ map ended_lines (closes_of t b)) (sym none) ∙ r.said;
      hub = subst (λ (p : Printed). hubs.StandsFor kept_now p.0.hub) same r.hub;
      stands = subst (λ (p : Printed). StandForSeats now p.0.seats) same (subst (StandForSeats now) (sym r.seats) r.stand);
      asks = sym (ap (λ (b : List Seat). calls_asks (flat_map (timed_calls t) b) r.done.0.hub kept_now.askings) none) ∙ r.asks;
    }

    size : (s : Seat) (back : List Seat) → length (r.front ++ s ∷ back) ≡ length r.front + suc (length back)
    size s back = length-append r.front (s ∷ back)

    by : (back : List Seat) → r.back ≡ back → IsTimed t kept.askings kept_now now so_far world
    by [] e = ended (ap (fold (timed t) r.done) (sym e) ∙ r.left) e
    by (s ∷ back) e =
        let same : length now ≡ length (r.front ++ s ∷ back) = same-length now (r.front ++ r.back) r.stand ∙ ap (λ (b : List Seat). length (r.front ++ b)) e in
        absurd (omega (arith, all, same, size s back, r.count))
