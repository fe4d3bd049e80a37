-- The words of a world's seats and peers.
--     distinct-with, distinct-without      one word more among others that are distinct, and one less
--     IsAmong, among      the seat of a word, and those before and behind it
--     put-among      it is another one
--     PeerIsAmong, peer-among      the peer of a word
use Rattle.std.proofs.Common.{◌≡◌, ℕ, Bool, true, false, cond, not, List, [], ◌∷◌, ◌++◌, map, find, Some, None, refl, sym, ◌∙◌, ap, subst}
use Rattle.std.specs.Prelude.{option_map}
use Rattle.std.specs.List.{AllByRecursion, IsDistinct}
use Rattle.std.specs.Str.{bytes_eq}
use Rattle.scripts.specs.Lines.{Word}
use Rattle.scripts.specs.Scripts.{AreDistinct}
use Rattle.replay.specs.World.{Seat, number_in, without}
use Rattle.scripts.proofs.lines.SameWords.{same_word, other_way}
use Rattle.replay.proofs.worlds.Seats.{words_of, is_of_word, put_seat, put-at}

-- ---- distinct words

all-with : (P : Word → Type 0) (xs ys : List Word) (w : Word) → AllByRecursion P (xs ++ ys) → P w → AllByRecursion P (xs ++ w ∷ ys)
all-with P [] ys w all here = (here, all)
all-with P (x ∷ xs) ys w all here = (all.0, all-with P xs ys w all.1 here)

pub distinct-with : (xs ys : List Word) (w : Word) → AreDistinct (xs ++ ys) → AllByRecursion (λ x. bytes_eq x w ≡ false) xs → AllByRecursion (λ y. bytes_eq w y ≡ false) ys → AreDistinct (xs ++ w ∷ ys)
unfolding IsDistinct
distinct-with [] ys w distinct before behind = (behind, distinct)
distinct-with (x ∷ xs) ys w distinct before behind = (all-with (λ y. bytes_eq x y ≡ false) xs ys w distinct.0 before.0, distinct-with xs ys w distinct.1 before.1 behind)

all-without : (P : Word → Type 0) (xs ys : List Word) (w : Word) → AllByRecursion P (xs ++ w ∷ ys) → AllByRecursion P (xs ++ ys)
all-without P [] ys w all = all.1
all-without P (x ∷ xs) ys w all = (all.0, all-without P xs ys w all.1)

pub distinct-without : (xs ys : List Word) (w : Word) → AreDistinct (xs ++ w ∷ ys) → AreDistinct (xs ++ ys)
unfolding IsDistinct
distinct-without [] ys w distinct = distinct.1
distinct-without (x ∷ xs) ys w distinct = (all-without (λ y. bytes_eq x y ≡ false) xs ys w distinct.0, distinct-without xs ys w distinct.1)

pub distinct-back : (xs ys : List Word) → AreDistinct (xs ++ ys) → AreDistinct ys
unfolding IsDistinct
distinct-back [] ys distinct = distinct
distinct-back (x ∷ xs) ys distinct = distinct-back xs ys distinct.1

-- ---- seats

pub record IsAmong (w : Word) (seat : Seat) (seats : List Seat) : Type 0 where
  pub front : List Seat
  pub back : List Seat
  pub is : seats ≡ front ++ seat ∷ back
  pub word : seat.word ≡ w

pub among : (w : Word) (seats : List Seat) (seat : Seat) → find (is_of_word w) seats ≡ Some seat → IsAmong w seat seats
among w [] seat found = absurd cc
among w (s ∷ ss) seat found = by (bytes_eq s.word w) refl found (among w ss seat)
  where
    by : (b : Bool) → bytes_eq s.word w ≡ b → cond b (Some s) (find (is_of_word w) ss) ≡ Some seat → (find (is_of_word w) ss ≡ Some seat → IsAmong w seat ss) → IsAmong w seat (s ∷ ss)
    by true is found rest =
        let same : s ≡ seat = cc in
        subst (λ (x : Seat). IsAmong w x (s ∷ ss)) same (record { front = []; back = ss; is = refl; word = same_word s.word w is })
    by false is found rest = (let r : IsAmong w seat ss = rest found in record { front = s ∷ r.front; back = r.back; is = ap (λ (ts : List Seat). s ∷ ts) r.is; word = r.word })

-- another seat with its word stands in its place
pub put-among : (w : Word) (seats : List Seat) (seat later : Seat) → AreDistinct (words_of seats) → later.word ≡ seat.word → (a : IsAmong w seat seats) → put_seat later.word later seats ≡ a.front ++ later ∷ a.back
put-among w seats seat later distinct same a =
    ap (put_seat later.word later) a.is
    ∙ put-at later.word a.front a.back seat later (subst (λ (ss : List Seat). AreDistinct (words_of ss)) a.is distinct) (sym same)

pub no-seat : (w : Word) (seats : List Seat) → find (is_of_word w) seats ≡ None → AllByRecursion (λ x. bytes_eq x w ≡ false) (words_of seats)
no-seat w [] none = tt
no-seat w (s ∷ ss) none = by (bytes_eq s.word w) refl none (no-seat w ss)
  where
    by : (b : Bool) → bytes_eq s.word w ≡ b → cond b (Some s) (find (is_of_word w) ss) ≡ None → (find (is_of_word w) ss ≡ None → AllByRecursion (λ x. bytes_eq x w ≡ false) (words_of ss)) → AllByRecursion (λ x. bytes_eq x w ≡ false) (words_of (s ∷ ss))
    by true is none rest = absurd cc
    by false is none rest = (is, rest none)

-- ---- peers

abbrev pub Peers : Type 0
Peers = List (Word × ℕ)

abbrev pub peer_words : Peers → List Word
peer_words peers = map (λ (p : Word × ℕ). p.0) peers

abbrev is_peer : Word → Word × ℕ → Bool
is_peer w p = bytes_eq p.0 w

-- the peer of a word with its number, and the others
pub record PeerIsAmong (w : Word) (number : ℕ) (peers : Peers) : Type 0 where
  pub front : Peers
  pub back : Peers
  pub word : Word
  pub is : peers ≡ front ++ (word, number) ∷ back
  pub left : without w peers ≡ front ++ back

others-stay : (v w : Word) (peers : Peers) → bytes_eq v w ≡ true → AllByRecursion (λ y. bytes_eq v y ≡ false) (peer_words peers) → without w peers ≡ peers
others-stay v w [] is all = refl
others-stay v w (p ∷ ps) is all =
    let other : bytes_eq p.0 w ≡ false = ap (bytes_eq p.0) (sym (same_word v w is)) ∙ other_way v p.0 all.0 in
    ap (λ (b : Bool). cond (not b) (p ∷ without w ps) (without w ps)) other ∙ ap (λ (ps : Peers). p ∷ ps) (others-stay v w ps is all.1)

pub peer-among : (w : Word) (number : ℕ) (peers : Peers) → AreDistinct (peer_words peers) → number_in peers w ≡ Some number → PeerIsAmong w number peers
unfolding IsDistinct
peer-among w number [] distinct found = absurd cc
peer-among w number (p ∷ ps) distinct found = by (bytes_eq p.0 w) refl found (peer-among w number ps distinct.1)
  where
    by : (b : Bool) → bytes_eq p.0 w ≡ b → option_map (λ (e : Word × ℕ). e.1) (cond b (Some p) (find (is_peer w) ps)) ≡ Some number → (number_in ps w ≡ Some number → PeerIsAmong w number ps) → PeerIsAmong w number (p ∷ ps)
    by true is found rest =
        let same : p.1 ≡ number = cc in
        record {
          front = [];
          back = ps;
          word = p.0;
          is = ap (λ (n : ℕ). (p.0, n) ∷ ps) same;
          left = ap (λ (b : Bool). cond (not b) (p ∷ without w ps) (without w ps)) is ∙ others-stay p.0 w ps is distinct.0;
        }
    by false is found rest = (let r : PeerIsAmong w number ps = rest found in record {
      front = p ∷ r.front;
      back = r.back;
      word = r.word;
      is = ap (λ (qs : Peers). p ∷ qs) r.is;
      left = ap (λ (b : Bool). cond (not b) (p ∷ without w ps) (without w ps)) is ∙ ap (λ (qs : Peers). p ∷ qs) r.left;
    })

pub no-peer : (w : Word) (peers : Peers) → number_in peers w ≡ None → AllByRecursion (λ x. bytes_eq x w ≡ false) (peer_words peers)
no-peer w [] none = tt
no-peer w (p ∷ ps) none = by (bytes_eq p.0 w) refl none (no-peer w ps)
  where
    by : (b : Bool) → bytes_eq p.0 w ≡ b → option_map (λ (e : Word × ℕ). e.1) (cond b (Some p) (find (is_peer w) ps)) ≡ None → (number_in ps w ≡ None → AllByRecursion (λ x. bytes_eq x w ≡ false) (peer_words ps)) → AllByRecursion (λ x. bytes_eq x w ≡ false) (peer_words (p ∷ ps))
    by true is none rest = absurd cc
    by false is none rest = (is, rest none)

pub none-left : (w : Word) (peers : Peers) → AllByRecursion (λ x. bytes_eq x w ≡ false) (peer_words peers) → without w peers ≡ peers
none-left w [] all = refl
none-left w (p ∷ ps) all = ap (λ (b : Bool). cond (not b) (p ∷ without w ps) (without w ps)) all.0 ∙ ap (λ (ps : Peers). p ∷ ps) (none-left w ps all.1)
