-- The seat that is found by a word, behind a change of one.
--     found-word      it has that word
--     put-found, put-other      where a seat stands in the place of one of its word; of another word
--     each-found      where the words differ, each is found by its own
use Rattle.std.proofs.Common.{◌≡◌, Bool, true, false, cond, List, [], ◌∷◌, find, Option, Some, option_map, refl, sym, ◌∙◌, ap, subst}
use Rattle.std.specs.List.{AllByRecursion, IsDistinct}
use Rattle.std.specs.Str.{bytes_eq}
use Rattle.pushserver.proofs.session_steps.Lists.{found-each}
use Rattle.scripts.specs.Lines.{Word}
use Rattle.replay.specs.World.{World, Seat, seat_of, with_seat}
use Rattle.scripts.specs.Scripts.{AreDistinct}
use Rattle.scripts.proofs.lines.SameWords.{same_word, word_itself}
use Rattle.replay.proofs.worlds.Seats.{words_of, is_of_word, put_seat}

abbrev seat_found : Word → List Seat → Option Seat
seat_found w seats = find (is_of_word w) seats

pub found-word : (w : Word) (seats : List Seat) (seat : Seat) → find (is_of_word w) seats ≡ Some seat → seat.word ≡ w
found-word w seats seat e = same_word seat.word w (found-each (λ s. Unit {0}) (is_of_word w) seats seat (all seats) e).1
  where
    all : (ss : List Seat) → AllByRecursion (λ s. Unit {0}) ss
    all [] = tt
    all (s ∷ ss) = (tt, all ss)

-- in the place of a seat of the same word
found-put : (x : Seat) (seats : List Seat) → seat_found x.word (put_seat x.word x seats) ≡ option_map (λ s. x) (seat_found x.word seats)
found-put x [] = refl
found-put x (s ∷ ss) = by (bytes_eq s.word x.word) refl (found-put x ss)
  where
    by : (b : Bool) → bytes_eq s.word x.word ≡ b → seat_found x.word (put_seat x.word x ss) ≡ option_map (λ s. x) (seat_found x.word ss)
        → seat_found x.word (cond b x s ∷ put_seat x.word x ss) ≡ option_map (λ s. x) (cond b (Some s) (seat_found x.word ss))
    by true e h = ap (λ (t : Bool). cond t (Some x) (seat_found x.word (put_seat x.word x ss))) (word_itself x.word)
    by false e h = ap (λ (t : Bool). cond t (Some s) (seat_found x.word (put_seat x.word x ss))) e ∙ h

found-other : (x : Seat) (v : Word) (seats : List Seat) → bytes_eq x.word v ≡ false → seat_found v (put_seat x.word x seats) ≡ seat_found v seats
found-other x v [] other = refl
found-other x v (s ∷ ss) other = by (bytes_eq s.word x.word) refl (found-other x v ss other)
  where
    by : (b : Bool) → bytes_eq s.word x.word ≡ b → seat_found v (put_seat x.word x ss) ≡ seat_found v ss → seat_found v (cond b x s ∷ put_seat x.word x ss) ≡ seat_found v (s ∷ ss)
    by true e h =
        ap (λ (t : Bool). cond t (Some x) (seat_found v (put_seat x.word x ss))) other ∙ h
        ∙ sym (ap (λ (t : Bool). cond t (Some s) (seat_found v ss)) (ap (λ (u : Word). bytes_eq u v) (same_word s.word x.word e) ∙ other))
    by false e h = ap (λ (r : Option Seat). cond (bytes_eq s.word v) (Some s) r) h

-- a seat in the place of one whose word it has
pub put-found : (world : World) (w : Word) (seat x : Seat) → seat_of world w ≡ Some seat → x.word ≡ seat.word → seat_of (with_seat x world) w ≡ Some x
put-found world w seat x found word =
    let same : x.word ≡ w = word ∙ found-word w world.seats seat found in
    subst (λ (v : Word). seat_of (with_seat x world) v ≡ Some x) same
    (found-put x world.seats ∙ ap (option_map (λ s. x)) (ap (λ (v : Word). seat_found v world.seats) same ∙ found))

pub put-other : (world : World) (x : Seat) (v : Word) → bytes_eq x.word v ≡ false → seat_of (with_seat x world) v ≡ seat_of world v
put-other world x v other = found-other x v world.seats other

-- each seat is found by its word
pub each-found : (seats : List Seat) → AreDistinct (words_of seats) → AllByRecursion (λ s. seat_found s.word seats ≡ Some s) seats
unfolding IsDistinct
each-found [] distinct = tt
each-found (s ∷ ss) distinct = (ap (λ (b : Bool). cond b (Some s) (seat_found s.word ss)) (word_itself s.word), behind ss (each-found ss distinct.1) distinct.0)
  where
    one : (t : Seat) → bytes_eq s.word t.word ≡ false → seat_found t.word ss ≡ Some t → seat_found t.word (s ∷ ss) ≡ Some t
    one t other found = ap (λ (b : Bool). cond b (Some s) (seat_found t.word ss)) other ∙ found

    behind : (ts : List Seat) → AllByRecursion (λ t. seat_found t.word ss ≡ Some t) ts → AllByRecursion (λ y. bytes_eq s.word y ≡ false) (words_of ts) → AllByRecursion (λ t. seat_found t.word (s ∷ ss) ≡ Some t) ts
    behind [] all others = tt
    behind (t ∷ ts) all others = (one t others.0 all.0, behind ts all.1 others.1)
