-- Clients, each where it stands.
--     splits      the client of a word, and those before and behind it
--     absent      where no client has a word, no seat has
--     is-called      what a call of the client of a word makes of the seats
--     words-put      a client that is another one keeps its word
--     put-put      one that becomes another one twice is the latter
--     seat-there, calls-made, tells-connected      what the code has of a client at a place
use Rattle.std.proofs.Common.{◌≡◌, ℕ, zero, suc, ◌<◌, Bool, true, false, cond, List, [], ◌∷◌, ◌++◌, map, find, length, set, get_or, Option, Some, None, option_map, refl, sym, ◌∙◌, ap, subst, arith}
use Rattle.std.specs.Prelude.{position}
use Rattle.std.specs.List.{IsDistinct, AllByRecursion}
use Rattle.std.specs.Str.{bytes_eq}
use Rattle.std.proofs.lemmas.List.{get_or-map, map-set}
use Rattle.history.proofs.Positions.{position-cons}
use Rattle.history.proofs.Positions.{position-map}
use Rattle.dsosession.specs.declared.session.CloseReason.{CloseReason}
use Rattle.pushserver.specs.PlainHubs.{Hub}
use Rattle.hubasking.specs.AskingHubs.{AskingHub}
use Rattle.pushclient.specs.Clients.{Client, is_connected, connected, cut}
use Rattle.pushclient.specs.Steps.{moment}
use Rattle.pushclient.specs.Rule.{KeptClient, StandsFor}
use Rattle.scripts.specs.Lines.{Word}
use Rattle.replay.specs.World.{Seat, World, seat_of, with_seat, cut_seat, hub_without, with_client, joined, is_over, cut_if}
use Rattle.replay.specs.declared.seats.Seat as program
use Rattle.replay.specs.LineCalls.{end_calls}
use Rattle.replay.specs.KeptAskings as hubs
use Rattle.replay.specs.KeptAskings.{AsksAfter}
use Rattle.replay.specs.KeptWorlds.{KeptSeat, Seated, seat_kept, seated, StandsForSeat, StandForSeats, words_in}
use Rattle.scripts.specs.Scripts.{AreDistinct}
use Rattle.scripts.proofs.lines.SameWords.{same_word, word_itself, other_way}
use Rattle.replay.specs.KeptSeats.{has_word, timed_seat, Makes, Calls, Answers, HasCut, HasFinished, HasTimed, TellsConnected}

-- ---- words

abbrev pub words_of : List Seat → List Word
words_of seats = map (λ (s : Seat). s.word) seats

abbrev pub is_of_word : Word → Seat → Bool
is_of_word w s = bytes_eq s.word w

abbrev pub put_seat : Word → Seat → List Seat → List Seat
put_seat v x seats = map (λ (s : Seat). cond (bytes_eq s.word v) x s) seats

pub words-put : (x : Seat) (seats : List Seat) → words_of (put_seat x.word x seats) ≡ words_of seats
words-put x [] = refl
words-put x (s ∷ ss) = by (bytes_eq s.word x.word) refl (words-put x ss)
  where
    by : (b : Bool) → bytes_eq s.word x.word ≡ b → words_of (put_seat x.word x ss) ≡ words_of ss → (cond b x s).word ∷ words_of (put_seat x.word x ss) ≡ s.word ∷ words_of ss
    by true e h = λ i. sym (same_word s.word x.word e) i ∷ h i
    by false e h = ap (λ (ws : List Word). s.word ∷ ws) h

pub put-put : (v : Word) (x y : Seat) (seats : List Seat) → x.word ≡ v → put_seat v y (put_seat v x seats) ≡ put_seat v y seats
put-put v x y [] same = refl
put-put v x y (s ∷ ss) same = (λ i. by (bytes_eq s.word v) refl i ∷ put-put v x y ss same i)
  where
    here : bytes_eq x.word v ≡ true
    here = ap (bytes_eq x.word) (sym same) ∙ word_itself x.word

    by : (b : Bool) → bytes_eq s.word v ≡ b → cond (bytes_eq (cond b x s).word v) y (cond b x s) ≡ cond b y s
    by true e = ap (λ (c : Bool). cond c y x) here
    by false e = ap (λ (c : Bool). cond c y s) e

-- ---- one seat among others

all-at : (P : Word → Type 0) (front back : List Seat) (s : Seat) → AllByRecursion P (words_of (front ++ s ∷ back)) → P s.word
all-at P [] back s all = all.0
all-at P (f ∷ front) back s all = all-at P front back s all.1

untouched : (x : Seat) (v : Word) (seats : List Seat) → AllByRecursion (λ y. bytes_eq v y ≡ false) (words_of seats) → put_seat v x seats ≡ seats
untouched x v [] all = refl
untouched x v (s ∷ ss) all = λ i. cond (other_way v s.word all.0 i) x s ∷ untouched x v ss all.1 i

-- it alone is another one
pub put-at : (v : Word) (front back : List Seat) (s x : Seat) → AreDistinct (words_of (front ++ s ∷ back)) → s.word ≡ v → put_seat v x (front ++ s ∷ back) ≡ front ++ x ∷ back
unfolding IsDistinct
put-at v [] back s x distinct same =
    let here : bytes_eq s.word v ≡ true = ap (bytes_eq s.word) (sym same) ∙ word_itself s.word in
    let rest = untouched x v back (subst (λ (u : Word). AllByRecursion (λ y. bytes_eq u y ≡ false) (words_of back)) same distinct.0) in
    λ i. cond (here i) x s ∷ rest i
put-at v (f ∷ front) back s x distinct same =
    let other : bytes_eq f.word v ≡ false = ap (bytes_eq f.word) (sym same) ∙ all-at (λ y. bytes_eq f.word y ≡ false) front back s distinct.0 in
    let rest = put-at v front back s x distinct.1 same in
    λ i. cond (other i) x f ∷ rest i

-- ---- what is kept of them

pub seat-at : (front back : List Seat) (s : Seat) (ks : Seated) (k : KeptSeat) → StandForSeats ks (front ++ s ∷ back) → k ≡ get_or ks (length front) k → StandsForSeat k s
seat-at [] back s [] k h is = absurd h
seat-at [] back s (l ∷ ks) k h is = subst (λ (m : KeptSeat). StandsForSeat m s) (sym is) h.0
seat-at (f ∷ front) back s [] k h is = absurd h
seat-at (f ∷ front) back s (l ∷ ks) k h is = seat-at front back s ks k h.1 is

pub set-at : (front back : List Seat) (s x : Seat) (ks : Seated) (k : KeptSeat) → StandForSeats ks (front ++ s ∷ back) → StandsForSeat k x → StandForSeats (set ks (length front) k) (front ++ x ∷ back)
set-at [] back s x [] k h new = absurd h
set-at [] back s x (l ∷ ks) k h new = (new, h.1)
set-at (f ∷ front) back s x [] k h new = absurd h
set-at (f ∷ front) back s x (l ∷ ks) k h new = (h.0, set-at front back s x ks k h.1 new)

pub stand-more : (ks : Seated) (ss : List Seat) (k : KeptSeat) (s : Seat) → StandForSeats ks ss → StandsForSeat k s → StandForSeats (ks ++ k ∷ []) (ss ++ s ∷ [])
stand-more [] [] k s h new = (new, tt)
stand-more [] (t ∷ ss) k s h new = absurd h
stand-more (l ∷ ks) [] k s h new = absurd h
stand-more (l ∷ ks) (t ∷ ss) k s h new = (h.0, stand-more ks ss k s h.1 new)

-- ---- what the code has

pub seat-there : (seats : List program.Seat) (place : ℕ) (s : program.Seat) (k : KeptSeat) → place < length seats → s ≡ get_or seats place s → k ≡ get_or (seated seats) place k → seat_kept s ≡ k
seat-there seats place s k within is there = ap seat_kept is ∙ sym (get_or-map seat_kept seats place s k within) ∙ sym there

-- a client at a place is another one
pub calls-made : (answers : Seat → Type 0) (next : Seat → Seat) (seats later : List program.Seat) (place : ℕ) (s after : program.Seat) → place < length seats → s ≡ get_or seats place s
    → later ≡ set seats place after → Makes answers next (seat_kept (get_or seats place s)) (seat_kept after) → Calls answers next (seated seats) place (seated later)
calls-made answers next seats later place s after within is later_is makes = record {
  seat = seat_kept (get_or seats place s);
  after = seat_kept after;
  there = sym (get_or-map seat_kept seats place s (seat_kept (get_or seats place s)) within);
  is = ap seated later_is ∙ map-set seat_kept seats place after;
  makes = makes;
}

pub tells-connected : (seats : List program.Seat) (place : ℕ) (s : program.Seat) (answer : Bool) → place < length seats → ((plain : Client) → StandsFor (get_or seats place s).client plain → answer ≡ is_connected plain) → TellsConnected (seated seats) place answer
tells-connected seats place s answer within tells k seat there stands =
    let same : k ≡ seat_kept (get_or seats place s) = there ∙ get_or-map seat_kept seats place s k within in
    tells seat.client (subst (λ (x : KeptSeat). StandsFor x.client seat.client) same stands.client)

-- ---- the client of a word

pub record Splits (w : Word) (ss : List Seat) (place : ℕ) : Type 0 where
  pub front : List Seat
  pub seat : Seat
  pub back : List Seat
  pub is : ss ≡ front ++ seat ∷ back
  pub count : length front ≡ place
  pub found : find (is_of_word w) ss ≡ Some seat
  pub word : seat.word ≡ w

some_place : (m n : ℕ) → Some m ≡ Some n → m ≡ n
some_place m n e = cc

pub splits : (w : Word) (ks : Seated) (ss : List Seat) (place : ℕ) → StandForSeats ks ss → position (has_word w) ks ≡ Some place → Splits w ss place
splits w [] [] place h at = absurd cc
splits w [] (s ∷ ss) place h at = absurd h
splits w (k ∷ ks) [] place h at = absurd h
splits w (k ∷ ks) (s ∷ ss) place h at = by (λ j there. splits w ks ss j h.1 there) (bytes_eq k.word w) refl (position (has_word w) ks) refl (sym (position-cons (has_word w) k ks) ∙ at)
  where
    tested : (b : Bool) → bytes_eq k.word w ≡ b → bytes_eq s.word w ≡ b
    tested b e = ap (λ (v : Word). bytes_eq v w) (sym h.0.word) ∙ e

    behind : (j : ℕ) → suc j ≡ place → bytes_eq s.word w ≡ false → Splits w ss j → Splits w (s ∷ ss) place
    behind j next other rest = record {
      front = s ∷ rest.front;
      seat = rest.seat;
      back = rest.back;
      is = ap (λ (ts : List Seat). s ∷ ts) rest.is;
      count = ap suc rest.count ∙ next;
      found = ap (λ (b : Bool). cond b (Some s) (find (is_of_word w) ss)) other ∙ rest.found;
      word = rest.word;
    }

    by : ((j : ℕ) → position (has_word w) ks ≡ Some j → Splits w ss j) → (b : Bool) → bytes_eq k.word w ≡ b → (o : Option ℕ) → position (has_word w) ks ≡ o → cond b (Some 0) (option_map suc o) ≡ Some place → Splits w (s ∷ ss) place
    by rest true e o there e' = record {
      front = [];
      seat = s;
      back = ss;
      is = refl;
      count = some_place 0 place e';
      found = ap (λ (b : Bool). cond b (Some s) (find (is_of_word w) ss)) (tested true e);
      word = same_word s.word w (tested true e);
    }
    by rest false e None there e' = absurd cc
    by rest false e (Some j) there e' = behind j (some_place (suc j) place e') (tested false e) (rest j there)

pub absent : (w : Word) (ks : Seated) (ss : List Seat) → StandForSeats ks ss → position (has_word w) ks ≡ None → find (is_of_word w) ss ≡ None
absent w [] [] h at = refl
absent w [] (s ∷ ss) h at = absurd h
absent w (k ∷ ks) [] h at = absurd h
absent w (k ∷ ks) (s ∷ ss) h at = by (absent w ks ss h.1) (bytes_eq k.word w) refl (position (has_word w) ks) refl (sym (position-cons (has_word w) k ks) ∙ at)
  where
    by : (position (has_word w) ks ≡ None → find (is_of_word w) ss ≡ None) → (b : Bool) → bytes_eq k.word w ≡ b → (o : Option ℕ) → position (has_word w) ks ≡ o → cond b (Some 0) (option_map suc o) ≡ None → find (is_of_word w) (s ∷ ss) ≡ None
    by rest true e o there e' = absurd cc
    by rest false e None there e' = ap (λ (b : Bool). cond b (Some s) (find (is_of_word w) ss)) (ap (λ (v : Word). bytes_eq v w) (sym h.0.word) ∙ e) ∙ rest there
    by rest false e (Some j) there e' = absurd cc

-- ---- a call of it

-- the client of the word answers so, and behind the call its seat is what the call makes of it
pub record IsCalled (w : Word) (before later : Seated) (place : ℕ) (world : World) (answers : Seat → Type 0) (next : Seat → Seat) : Type 0 where
  pub seat : Seat
  pub found : seat_of world w ≡ Some seat
  pub word : seat.word ≡ w
  pub here : (k : KeptSeat) → k ≡ get_or before place k → StandsForSeat k seat
  pub answer : answers seat
  pub next_word : (next seat).word ≡ seat.word
  pub stands : StandForSeats later (with_seat (next seat) world).seats

pub is-called : (w : Word) (ks later : Seated) (world : World) (place : ℕ) (answers : Seat → Type 0) (next : Seat → Seat) → StandForSeats ks world.seats → AreDistinct (words_in world)
    → position (has_word w) ks ≡ Some place → Calls answers next ks place later → IsCalled w ks later place world answers next
is-called w ks later world place answers next h distinct at c =
    let p = splits w ks world.seats place h at in
    let apart : AreDistinct (words_of (p.front ++ p.seat ∷ p.back)) = subst (λ (ss : List Seat). AreDistinct (words_of ss)) p.is distinct in
    let all : StandForSeats ks (p.front ++ p.seat ∷ p.back) = subst (StandForSeats ks) p.is h in
    let standing : (k : KeptSeat) → k ≡ get_or ks place k → StandsForSeat k p.seat = λ k there. seat-at p.front p.back p.seat ks k all (there ∙ ap (λ (n : ℕ). get_or ks n k) (sym p.count)) in
    let here : StandsForSeat c.seat p.seat = standing c.seat c.there in
    let x : Seat = next p.seat in
    let new : StandsForSeat c.after x = c.makes.stands p.seat here in
    let named : x.word ≡ p.seat.word = sym new.word ∙ c.makes.word ∙ here.word in
    let seats : put_seat x.word x world.seats ≡ p.front ++ x ∷ p.back = ap (put_seat x.word x) p.is ∙ put-at x.word p.front p.back p.seat x apart (sym named) in
    let kept : later ≡ set ks (length p.front) c.after = c.is ∙ ap (λ (n : ℕ). set ks n c.after) (sym p.count) in
    record {
      seat = p.seat;
      found = p.found;
      word = p.word;
      here = standing;
      answer = c.makes.answer p.seat here;
      next_word = named;
      stands = subst (λ (l : Seated). StandForSeats l (put_seat x.word x world.seats)) (sym kept)
          (subst (StandForSeats (set ks (length p.front) c.after)) (sym seats) (set-at p.front p.back p.seat x ks c.after all new));
    }

-- the client of a word
pub record IsSeated (w : Word) (ks : Seated) (place : ℕ) (world : World) : Type 0 where
  pub seat : Seat
  pub found : seat_of world w ≡ Some seat
  pub word : seat.word ≡ w
  pub here : (k : KeptSeat) → k ≡ get_or ks place k → StandsForSeat k seat

pub is-seated : (w : Word) (ks : Seated) (world : World) (place : ℕ) → StandForSeats ks world.seats → position (has_word w) ks ≡ Some place → IsSeated w ks place world
is-seated w ks world place h at =
    let p = splits w ks world.seats place h at in
    let all : StandForSeats ks (p.front ++ p.seat ∷ p.back) = subst (StandForSeats ks) p.is h in
    record { seat = p.seat; found = p.found; word = p.word; here = λ k there. seat-at p.front p.back p.seat ks k all (there ∙ ap (λ (n : ℕ). get_or ks n k) (sym p.count)) }

-- ---- what one client makes of a call

-- a call of the client alone
pub stays-makes : (answers : Client → Type 0) (next : Client → Client) (k : KeptSeat) (client : KeptClient) → ((plain : Client) → StandsFor k.client plain → answers plain × StandsFor client (next plain))
    → Makes (Answers answers) (with_client next) k (record k { client = client })
stays-makes answers next k client does = record {
  word = refl;
  answer = λ seat s. (does seat.client s.client).0;
  stands = λ seat s. record {
    word = s.word;
    is_lone = s.is_lone;
    client = (does seat.client s.client).1;
    session = s.session;
    up_wire = s.up_wire;
    down_wire = s.down_wire;
    reached = s.reached;
    few = s.few;
    filled = s.filled;
  };
}

pub opened-makes : (t : ℕ) (k : KeptSeat) (client : KeptClient) → ((plain : Client) → StandsFor k.client plain → StandsFor client (connected t plain)) → Makes (λ s. Unit {0}) (with_client (connected t)) k (record k { client = client })
opened-makes t k client does = record {
  word = refl;
  answer = λ seat s. tt;
  stands = λ seat s. record {
    word = s.word;
    is_lone = s.is_lone;
    client = does seat.client s.client;
    session = s.session;
    up_wire = s.up_wire;
    down_wire = s.down_wire;
    reached = s.reached;
    few = s.few;
    filled = s.filled;
  };
}

-- a session for it
pub joined-makes : (t number : ℕ) (k after : KeptSeat) → Makes (λ s. Unit {0}) (with_client (connected t)) k after → Makes (λ s. Unit {0}) (joined t number) k (record after { session = Some number })
joined-makes t number k after m = record {
  word = m.word;
  answer = λ seat s. tt;
  stands = λ seat s. (let n = m.stands seat s in record {
    word = n.word;
    is_lone = n.is_lone;
    client = n.client;
    session = refl;
    up_wire = n.up_wire;
    down_wire = n.down_wire;
    reached = n.reached;
    few = n.few;
    filled = n.filled;
  });
}

-- what is kept of a seat that was cut
abbrev pub cut_kept : KeptSeat → KeptClient → KeptSeat
cut_kept k client = record k { client = client; session = None; up_wire = []; down_wire = []; reached = 0; filled = [] }

pub cut-makes : (k after : KeptSeat) (client : KeptClient) → after ≡ cut_kept k client → ((plain : Client) → StandsFor k.client plain → StandsFor client (cut plain)) → Makes (λ s. Unit {0}) cut_seat k after
cut-makes k after client is does = subst (Makes (λ s. Unit {0}) cut_seat k) (sym is) (record {
  word = refl;
  answer = λ seat s. tt;
  stands = λ seat s. record {
    word = s.word;
    is_lone = s.is_lone;
    client = does seat.client s.client;
    session = refl;
    up_wire = refl;
    down_wire = refl;
    reached = refl;
    few = omega arith;
    filled = λ id. refl;
  };
})

-- its session is gone from the hub
pub cuts-both : (hub later : AskingHub) (k after : KeptSeat) → ((plain : Hub) → hubs.StandsFor hub plain → hubs.StandsFor later (hub_without k.session plain) × AsksAfter (end_calls k.session) plain hub.askings later.askings) → Makes (λ s. Unit {0}) cut_seat k after → Makes (HasCut hub later) cut_seat k after
cuts-both hub later k after ends m = record {
  word = m.word;
  answer = λ seat s plain stands. subst (λ (o : Option ℕ). hubs.StandsFor later (hub_without o plain) × AsksAfter (end_calls o) plain hub.askings later.askings) s.session (ends plain stands);
  stands = m.stands;
}

module _ (t : ℕ) (hub : AskingHub) (k : KeptSeat) (client : KeptClient) (closing : Option CloseReason) (does : (plain : Client) → StandsFor k.client plain → StandsFor client (moment plain t)) where
  abbrev timed_first : Makes (Answers (λ c. Unit {0})) (with_client (λ c. moment c t)) k (record k { client = client })
  timed_first = stays-makes (λ c. Unit {0}) (λ c. moment c t) k client (λ plain s. (tt, does plain s))

  pub timed-makes : (later : AskingHub) (after : KeptSeat) → Makes (HasFinished None closing hub later) (cut_if (is_over None closing)) (record k { client = client }) after → Makes (HasTimed t closing hub later) (timed_seat t closing) k after
  timed-makes later after ends = record {
    word = ends.word;
    answer = λ seat s. (let a = ends.answer (with_client (λ c. moment c t) seat) (timed_first.stands seat s) in record { closes = a.closes; hub = a.hub });
    stands = λ seat s. ends.stands (with_client (λ c. moment c t) seat) (timed_first.stands seat s);
  }

-- what is known of an answer, said in other words
pub calls-told : (answers told : Seat → Type 0) (next : Seat → Seat) (before later : Seated) (place : ℕ) → ((seat : Seat) → answers seat → told seat) → Calls answers next before place later → Calls told next before place later
calls-told answers told next before later place tells c = record {
  seat = c.seat;
  after = c.after;
  there = c.there;
  is = c.is;
  makes = record { word = c.makes.word; answer = λ seat s. tells seat (c.makes.answer seat s); stands = c.makes.stands };
}

-- the client at a place
pub record IsThere (seats : Seated) (place : ℕ) : Type 0 where
  pub kept : KeptSeat
  pub there : kept ≡ get_or seats place kept

pub is-there : (seats : Seated) (place : ℕ) → place < length seats → IsThere seats place
is-there [] place within = absurd (omega (arith, within))
is-there (k ∷ ks) zero within = record { kept = k; there = refl }
is-there (k ∷ ks) (suc place) within = (let r : IsThere ks place = is-there ks place (omega (arith, within)) in record { kept = r.kept; there = r.there })

-- the same of the vectors that slices were lent from
pub calls-moved : (answers : Seat → Type 0) (next : Seat → Seat) (items slice changed later : List program.Seat) (place : ℕ) → slice ≡ items → later ≡ changed → Calls answers next (seated slice) place (seated changed) → Calls answers next (seated items) place (seated later)
calls-moved answers next items slice changed later place same later_is c =
    subst (λ (l : List program.Seat). Calls answers next (seated items) place (seated l)) (sym later_is) (subst (λ (l : List program.Seat). Calls answers next (seated l) place (seated changed)) same c)
