-- The numbers of a world fit behind calls, and where seats and peers change.
--     same-fit, opened-fit, cut-fit      as many of each number, one more, one less
--     seat-counted      the numbers where another seat stands in the place of one
--     calls-fit, seats-change-fit, seats-come-fit, seats-open-fit, peers-open-fit, seats-are-cut-fit, peers-are-cut-fit
use Rattle.std.proofs.Common.{◌≡◌, ℕ, ◌+◌, ◌≤◌, Bool, true, false, cond, List, [], ◌∷◌, ◌++◌, map, Option, Some, None, refl, sym, ◌∙◌, ap, subst, arith, append-nil}
use Rattle.std.specs.Prelude.{filter_map, ◌==◌}
use Rattle.std.specs.List.{AllByRecursion}
use Rattle.std.specs.Str.{bytes_eq}
use Rattle.std.proofs.lemmas.List.{map-append, append_assoc}
use Rattle.std.proofs.lemmas.List.Elements.{filter_map-append}
use Rattle.coalesce.proofs.ReadBack.{each-append}
use Rattle.pushclient.specs.SoundClients.{count_of}
use Rattle.pushserver.specs.Calls.{after_calls}
use Rattle.pushserver.specs.Hubs.{connect, disconnect}
use Rattle.pushserver.specs.PlainHubs.{Hub}
use Rattle.livesessions.proofs.SessionLists.{same-number}
use Rattle.pushserver.proofs.hub_steps.Pairs.{all-weaken}
use Rattle.flight_laws.proofs.Counting.{count-append}
use Rattle.scripts.specs.Lines.{Word}
use Rattle.scripts.specs.Scripts.{AreDistinct}
use Rattle.replay.specs.World.{World, Seat, new_seat, seat_of, with_seat, session_number, without, cut_seat, hub_without}
use Rattle.replay.specs.Promises.{NumbersFit, numbers_of}
use Rattle.scripts.proofs.lines.SameWords.{other_way}
use Rattle.replay.proofs.worlds.Seats.{words_of, words-put}
use Rattle.replay.proofs.worlds.SeatWords.{distinct-front}
use Rattle.script_laws.specs.Numbers.{numbers_in, CallsFit, SeatsChangeFit, SeatsComeFit, SeatsOpenFit, PeersOpenFit, SeatsAreCutFit, PeersAreCutFit}
use Rattle.script_laws.proofs.hubs.Counting.{one_where, one_of, counted-cons, counted-option, one-other, none-above, below-counted, counted-left}
use Rattle.script_laws.proofs.hubs.HubNumbers.{calls-keep-numbers, Opens, opens, opened-numbers}
use Rattle.script_laws.proofs.hubs.Words.{Peers, peer_words, distinct-with, distinct-without, distinct-back, among, put-among, no-seat, PeerIsAmong, peer-among, no-peer, none-left}

-- ---- as many of each number, one more, one less

abbrev pub HaveOwnWords : World → Type 0
HaveOwnWords world = AreDistinct (words_of world.seats ++ peer_words world.peers)

abbrev pub counted : ℕ → World → ℕ
counted n world = count_of n (numbers_of world)

module _ (world : World) (f : NumbersFit world) where
  none-given : (n : ℕ) → world.hub.numbers_given ≤ n → counted n world ≡ 0
  none-given n high = none-above world.hub.numbers_given (numbers_of world) f.below n high

  pub same-fit : (later : World) → ((n : ℕ) → counted n later ≡ counted n world) → numbers_in later.hub ≡ numbers_in world.hub → later.hub.numbers_given ≡ world.hub.numbers_given
      → HaveOwnWords later → NumbersFit later
  same-fit later same numbers given words = record {
    distinct = λ n. (let one = f.distinct n in let is = same n in omega (arith, one, is));
    below = below-counted later.hub.numbers_given (numbers_of later) (λ n high. (let none = none-given n (subst (λ (g : ℕ). g ≤ n) given high) in same n ∙ none));
    all = λ n. ap (count_of n) numbers ∙ f.all n ∙ sym (same n);
    words = words;
  }

  pub opened-fit : (later : World) (number : ℕ) → Opens world.hub later.hub number → ((n : ℕ) → counted n later ≡ counted n world + one_where number n) → HaveOwnWords later → NumbersFit later
  opened-fit later number o more words = record {
    distinct = λ n. distinct n (number == n) refl;
    below = below-counted later.hub.numbers_given (numbers_of later) (λ n high. none n (subst (λ (g : ℕ). g ≤ n) numbers.1 high));
    all = λ n. (
        let all_of = ap (count_of n) numbers.0 ∙ count-append n (numbers_in world.hub) (number ∷ []) in
        let one = counted-cons n number [] in
        let was = f.all n in
        let is = more n in
        omega (arith, all_of, one, was, is));
    words = words;
  }
    where
      numbers : (numbers_in later.hub ≡ numbers_in world.hub ++ number ∷ []) × (later.hub.numbers_given ≡ world.hub.numbers_given + 1)
      numbers = opened-numbers world.hub later.hub number o

      distinct : (n : ℕ) (b : Bool) → (number == n) ≡ b → counted n later ≤ 1
      distinct n true is =
          let same = same-number number n is in
          let next = o.next in
          let none = none-given n (omega (arith, same, next)) in
          let one = more n ∙ ap (λ (b : Bool). counted n world + cond b 1 0) is in
          omega (arith, none, one)
      distinct n false is =
          let one = more n ∙ ap (λ (b : Bool). counted n world + cond b 1 0) is in
          let was = f.distinct n in
          omega (arith, one, was)

      none : (n : ℕ) → world.hub.numbers_given + 1 ≤ n → counted n later ≡ 0
      none n high =
          let next = o.next in
          let other = one-other number n (λ same. absurd (omega (arith, same, next, high))) in
          let was = none-given n (omega (arith, high)) in
          let is = more n in
          omega (arith, other, was, is)

  pub cut-fit : (later : World) (number : ℕ) → later.hub ≡ disconnect world.hub number → ((n : ℕ) → counted n later + one_where number n ≡ counted n world) → HaveOwnWords later → NumbersFit later
  cut-fit later number cut less words = record {
    distinct = λ n. (let one = f.distinct n in let is = less n in omega (arith, one, is));
    below = below-counted later.hub.numbers_given (numbers_of later) (λ n high. (let none = none-given n (subst (λ (g : ℕ). g ≤ n) (ap (λ (h : Hub). h.numbers_given) cut) high) in let is = less n in omega (arith, none, is)));
    all = λ n. ap (λ (h : Hub). count_of n (numbers_in h)) cut ∙ counted-left number n world.hub.sessions ∙ by n (number == n) refl;
    words = words;
  }
    where
      by : (n : ℕ) (b : Bool) → (number == n) ≡ b → cond b 0 (count_of n (numbers_in world.hub)) ≡ counted n later
      by n true is =
          let one = ap (λ (b : Bool). counted n later + cond b 1 0) (sym is) ∙ less n in
          let was = f.distinct n in
          omega (arith, one, was)
      by n false is =
          let none = ap (λ (b : Bool). counted n later + cond b 1 0) (sym is) ∙ less n in
          let was = f.all n in
          omega (arith, none, was)

-- ---- numbers of seats and peers

abbrev pub seat_numbers : List Seat → List ℕ
seat_numbers seats = filter_map (λ (s : Seat). s.session) seats

abbrev pub peer_numbers : Peers → List ℕ
peer_numbers peers = map (λ (p : Word × ℕ). p.1) peers

pub of-parts : (n : ℕ) (seats : List Seat) (peers : Peers) → count_of n (seat_numbers seats ++ peer_numbers peers) ≡ count_of n (seat_numbers seats) + count_of n (peer_numbers peers)
of-parts n seats peers = count-append n (seat_numbers seats) (peer_numbers peers)

-- with one among them
pub with-seat : (n : ℕ) (front back : List Seat) (s : Seat) → count_of n (seat_numbers (front ++ s ∷ back)) ≡ count_of n (seat_numbers front) + (one_of n s.session + count_of n (seat_numbers back))
with-seat n front back s =
    ap (count_of n) (filter_map-append (λ (s : Seat). s.session) front (s ∷ back))
    ∙ count-append n (seat_numbers front) (seat_numbers (s ∷ back))
    ∙ ap (λ m. count_of n (seat_numbers front) + m) (counted-option n s.session (seat_numbers back))

pub with-peer : (n : ℕ) (front back : Peers) (p : Word × ℕ) → count_of n (peer_numbers (front ++ p ∷ back)) ≡ count_of n (peer_numbers front) + (one_where p.1 n + count_of n (peer_numbers back))
with-peer n front back p =
    ap (count_of n) (map-append (λ (p : Word × ℕ). p.1) front (p ∷ back))
    ∙ count-append n (peer_numbers front) (peer_numbers (p ∷ back))
    ∙ ap (λ m. count_of n (peer_numbers front) + m) (counted-cons n p.1 (peer_numbers back))

-- ---- another seat in the place of one

module _ (world : World) (w : Word) (seat later : Seat) (f : NumbersFit world) (there : seat_of world w ≡ Some seat) (same : later.word ≡ seat.word) where
  own-words : AreDistinct (words_of world.seats)
  own-words = distinct-front (words_of world.seats) (peer_words world.peers) f.words

  pub seat-counted : (n : ℕ) → counted n (with_seat later world) + one_of n seat.session ≡ counted n world + one_of n later.session
  seat-counted n =
      let a = among w world.seats seat there in
      let now = of-parts n (with_seat later world).seats world.peers in
      let now_is = ap (λ (ss : List Seat). count_of n (seat_numbers ss)) (put-among w world.seats seat later own-words same a) ∙ with-seat n a.front a.back later in
      let was = of-parts n world.seats world.peers in
      let was_is = ap (λ (ss : List Seat). count_of n (seat_numbers ss)) a.is ∙ with-seat n a.front a.back seat in
      omega (arith, now, now_is, was, was_is)

  pub seat-words : HaveOwnWords (with_seat later world)
  seat-words = subst (λ (ws : List Word). AreDistinct (ws ++ peer_words world.peers)) (sym (words-put later world.seats)) f.words

-- ---- the laws

pub calls-fit : CallsFit
calls-fit world calls keeps f =
    let kept = calls-keep-numbers world.hub calls keeps in
    same-fit world f (record world { hub = after_calls calls world.hub }) (λ n. refl) kept.0 kept.1 f.words

pub seats-change-fit : SeatsChangeFit
seats-change-fit world w seat later there word session f =
    same-fit world f (with_seat later world)
    (λ n. (let all = seat-counted world w seat later f there word n in let one = ap (one_of n) session in omega (arith, all, one))) refl refl (seat-words world w seat later f there word)

pub seats-come-fit : SeatsComeFit
seats-come-fit world w is_lone no_seat no_peer f =
    same-fit world f (record world { seats = world.seats ++ new_seat w is_lone ∷ [] }) counts refl refl
    (subst (λ (ws : List Word). AreDistinct ws) words (distinct-with (words_of world.seats) (peer_words world.peers) w f.words (no-seat w world.seats no_seat)
    (all-weaken (λ (x : Word). bytes_eq x w ≡ false) (λ (x : Word). bytes_eq w x ≡ false) (λ x other. other_way x w other) (peer_words world.peers) (no-peer w world.peers no_peer))))
  where
    seats : List Seat
    seats = world.seats ++ new_seat w is_lone ∷ []

    counts : (n : ℕ) → count_of n (seat_numbers seats ++ peer_numbers world.peers) ≡ counted n world
    counts n =
        let now = of-parts n seats world.peers in
        let now_is = with-seat n world.seats [] (new_seat w is_lone) in
        let was = of-parts n world.seats world.peers in
        omega (arith, now, now_is, was)

    words : words_of world.seats ++ w ∷ peer_words world.peers ≡ words_of seats ++ peer_words world.peers
    words =
        sym (append_assoc (words_of world.seats) (w ∷ []) (peer_words world.peers))
        ∙ ap (λ (ws : List Word). ws ++ peer_words world.peers) (sym (map-append (λ (s : Seat). s.word) world.seats (new_seat w is_lone ∷ [])))

pub seats-open-fit : SeatsOpenFit
seats-open-fit world w seat later number there none opened word session f =
    opened-fit world f (with_seat later (record world { hub = (connect world.hub).1 })) number (opens world.hub number opened)
    (λ n. (
    let all = seat-counted world w seat later f there word n in
    let before = ap (one_of n) none in
    let after = ap (one_of n) session in
    omega (arith, all, before, after))) (seat-words world w seat later f there word)

pub peers-open-fit : PeersOpenFit
peers-open-fit world w number no_seat no_peer opened f =
    opened-fit world f (record world { hub = (connect world.hub).1; peers = peers }) number (opens world.hub number opened) counts
    (subst (λ (ws : List Word). AreDistinct ws) words (distinct-with before [] w (subst (λ (ws : List Word). AreDistinct ws) (sym (append-nil before)) f.words) all tt))
  where
    peers : Peers
    peers = world.peers ++ (w, number) ∷ []

    before : List Word
    before = words_of world.seats ++ peer_words world.peers

    all : AllByRecursion (λ x. bytes_eq x w ≡ false) before
    all = each-append (λ (x : Word). bytes_eq x w ≡ false) (words_of world.seats) (peer_words world.peers) (no-seat w world.seats no_seat) (no-peer w world.peers no_peer)

    counts : (n : ℕ) → count_of n (seat_numbers world.seats ++ peer_numbers peers) ≡ counted n world + one_where number n
    counts n =
        let now = of-parts n world.seats peers in
        let now_is = with-peer n world.peers [] (w, number) in
        let was = of-parts n world.seats world.peers in
        omega (arith, now, now_is, was)

    words : before ++ w ∷ [] ≡ words_of world.seats ++ peer_words peers
    words = append_assoc (words_of world.seats) (peer_words world.peers) (w ∷ []) ∙ ap (λ (ws : List Word). words_of world.seats ++ ws) (sym (map-append (λ (p : Word × ℕ). p.0) world.peers ((w, number) ∷ [])))

-- ---- cuts

pub seats-are-cut-fit : SeatsAreCutFit
seats-are-cut-fit world w seat later there word session f = by seat.session refl later.session session
  where
    cut : Seat
    cut = cut_seat later

    counts : (n : ℕ) → counted n (with_seat cut world) + one_of n seat.session ≡ counted n world + 0
    counts n = seat-counted world w seat cut f there word n

    by : (o : Option ℕ) → seat.session ≡ o → (p : Option ℕ) → p ≡ seat.session → NumbersFit (with_seat cut (record world { hub = hub_without p world.hub }))
    by None is None same = same-fit world f (with_seat cut world) (λ n. (let all = counts n in let one = ap (one_of n) is in omega (arith, all, one))) refl refl (seat-words world w seat cut f there word)
    by None is (Some m) same = (let wrong : Some m ≡ None = same ∙ is in absurd cc)
    by (Some number) is None same = (let wrong : None ≡ Some number = same ∙ is in absurd cc)
    by (Some number) is (Some m) same =
        let both : Some m ≡ Some number = same ∙ is in
        let here : m ≡ number = cc in
        cut-fit world f (with_seat cut (record world { hub = disconnect world.hub m })) m refl
        (λ n. (
        let all = counts n in
        let one = ap (one_of n) (sym same) in
        omega (arith, all, one))) (seat-words world w seat cut f there word)

pub peers-are-cut-fit : PeersAreCutFit
peers-are-cut-fit world w f = by (session_number world w) refl
  where
    by : (o : Option ℕ) → session_number world w ≡ o → NumbersFit (record world { hub = hub_without o world.hub; peers = without w world.peers })
    by None is =
        let stays = none-left w world.peers (no-peer w world.peers is) in
        subst (λ (ps : Peers). NumbersFit (record world { peers = ps })) (sym stays) f
    by (Some number) is =
        let a = peer-among w number world.peers (distinct-back (words_of world.seats) (peer_words world.peers) f.words) is in
        cut-fit world f (record world { hub = disconnect world.hub number; peers = without w world.peers }) number refl (counts number a) (words number a)
      where
        seat_words : List Word
        seat_words = words_of world.seats

        counts : (number : ℕ) (a : PeerIsAmong w number world.peers) (n : ℕ) → count_of n (seat_numbers world.seats ++ peer_numbers (without w world.peers)) + one_where number n ≡ counted n world
        counts number a n =
            let now = of-parts n world.seats (without w world.peers) in
            let now_is = ap (λ (ps : Peers). count_of n (peer_numbers ps)) a.left ∙ ap (count_of n) (map-append (λ (p : Word × ℕ). p.1) a.front a.back) ∙ count-append n (peer_numbers a.front) (peer_numbers a.back) in
            let was = of-parts n world.seats world.peers in
            let was_is = ap (λ (ps : Peers). count_of n (peer_numbers ps)) a.is ∙ with-peer n a.front a.back (a.word, number) in
            omega (arith, now, now_is, was, was_is)

        words : (number : ℕ) (a : PeerIsAmong w number world.peers) → AreDistinct (seat_words ++ peer_words (without w world.peers))
        words number a =
            let front : List Word = seat_words ++ peer_words a.front in
            let regrouped : (more : Peers) → seat_words ++ peer_words (a.front ++ more) ≡ front ++ peer_words more =
            λ more. ap (λ (ws : List Word). seat_words ++ ws) (map-append (λ (p : Word × ℕ). p.0) a.front more) ∙ sym (append_assoc seat_words (peer_words a.front) (peer_words more)) in
            let was : AreDistinct (front ++ a.word ∷ peer_words a.back) =
            subst (λ (ws : List Word). AreDistinct ws) (ap (λ (ps : Peers). seat_words ++ peer_words ps) a.is ∙ regrouped ((a.word, number) ∷ a.back)) f.words in
            subst (λ (ws : List Word). AreDistinct ws) (sym (ap (λ (ps : Peers). seat_words ++ peer_words ps) a.left ∙ regrouped a.back)) (distinct-without front (peer_words a.back) a.word was)
