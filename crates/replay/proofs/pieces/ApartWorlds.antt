-- Worlds whose peers' and clients' sessions are apart.
--     IsApart world      the peers' sessions are apart, and from those of clients, and all were made before the next one
--     MadeFrom n hub, made-kept      the number of the next session is at least this one, and stays so
--     apart-start, apart-lines, apart-placed      it is so of a script's start world, behind lines, and with one peer more
use Rattle.std.proofs.Common.{◌≡◌, ℕ, ◌+◌, ◌<◌, ◌≤◌, Bool, true, false, cond, not, List, [], ◌∷◌, ◌++◌, fold, filter, find, Option, Some, None, option_map, refl, sym, ◌∙◌, ap, subst, true≢false, arith}
use Rattle.std.specs.List.{AllByRecursion}
use Rattle.std.specs.Option.{option_or}
use Rattle.std.specs.Str.{bytes_eq}
use Rattle.std.proofs.lemmas.List.Folds.{find-append}
use Rattle.std.proofs.lemmas.Slice.Eq.{bytes_eq-Decides}
use Rattle.rrset.proofs.Places.{all_filter}
use Rattle.dsotlv.proofs.Results.{same_found}
use Rattle.pushserver.specs.PlainHubs.{Hub}
use Rattle.pushserver.specs.Hubs.{now, connect}
use Rattle.pushserver.specs.Calls.{HubCall, called as hub_called, after_calls, updates, moves, stops}
use Rattle.pushserver.proofs.Walks.{AnyMessage, IsKept, keeps-called, bring_any, with_new}
use Rattle.scripts.specs.Lines.{Word, ScriptLine, silent, head_line, joining, hub_event, link_event, client_call, client_passing, client_event, session_event}
use Rattle.scripts.specs.declared.line.HubEvent.{HubEvent}
use Rattle.scripts.specs.declared.line.HubEvent.TheVariants as hub_events
use Rattle.scripts.specs.declared.line.Call.{Call}
use Rattle.scripts.specs.declared.line.ClientEvent.{ClientEvent}
use Rattle.scripts.specs.declared.line.ClientEvent.TheVariants as client_events
use Rattle.scripts.specs.declared.line.SessionEvent.{SessionEvent}
use Rattle.scripts.specs.declared.line.SessionEvent.TheVariants as session_events
use Rattle.replay.specs.World.{Seat, World, start_world, seat_of, number_in, session_number, hub_without, cut_connection, cut_peer, new_seat, with_seat, without, cut_seat, is_over, world_cut_if}
use Rattle.coalesce.proofs.ReadBack.{each-append}
use Rattle.pushserver.proofs.hub_steps.Pairs.{all-weaken}
use Rattle.pushserver.proofs.session_steps.Lists.{found-each}
use Rattle.pushclient.specs.Clients.{closed_as, connected}
use Rattle.pushclient.specs.Steps as steps
use Rattle.replay.specs.PassedOctets.{enough}
use Rattle.replay.specs.TextWords.{by_history}
use Rattle.replay.specs.Text.{placed, Printed, timed, feeds, called, asks, opens, seated, exchanges, sends, session_of_word, line_does, link_calls, hub_does, client_does, session_does, world_after, passes_way, passes}
use Rattle.replay.proofs.worlds.OneWorld.{shows-leave}
use Rattle.replay.proofs.worlds.FedSeats.{fed, fed_over}
use Rattle.replay.proofs.worlds.LinesDoing.{with_peer, made_or_not, has_room, hub_timed, moment_now, stopped, exchanged_with, cut-does, exchange-does, send-does, ask-does, open-does, feed-does}
use Rattle.replay.proofs.worlds.Keeping.{any-parts, exchanged-keeps, give-keeps}
use Rattle.replay.proofs.worlds.Seats.{put_seat}
use Rattle.scripts.specs.declared.line.Way.{Way}
use Rattle.replay.proofs.worlds.PassedWorlds.{PassingsKeep, passing-keeps, passed-world, passed-names, pass-does}

abbrev Peers : Type 0
Peers = List (Word × ℕ)

-- each number differs from all behind it
abbrev pub ApartNumbers : List (Word × ℕ) → Type 0
ApartNumbers [] = Unit {0}
ApartNumbers (e ∷ es) = AllByRecursion (λ f. e.1 ≡ f.1 → ⊥) es × ApartNumbers es

-- the session of a client, if it has one, is no peer's, and was made before the next one
abbrev pub IsSeatApart : ℕ → List (Word × ℕ) → Seat → Type 0
IsSeatApart given peers seat = (n : ℕ) → seat.session ≡ Some n → (n < given) × AllByRecursion (λ e. n ≡ e.1 → ⊥) peers

abbrev pub AreSeatsApart : World → List Seat → Type 0
AreSeatsApart world seats = AllByRecursion (IsSeatApart world.hub.numbers_given world.peers) seats

-- so it is of all clients, and the peers' numbers are apart and below that of the next session
pub record IsApart (world : World) : Type 0 where
  pub seats : AreSeatsApart world world.seats
  pub below : AllByRecursion (λ e. e.1 < world.hub.numbers_given) world.peers
  pub apart : ApartNumbers world.peers

-- ---- tests

pub not_so : (b : Bool) → (b ≡ true → ⊥) → b ≡ false
not_so true h = absurd (h refl)
not_so false h = refl

pub not_true : (b : Bool) → not b ≡ true → b ≡ false
not_true true h = absurd (true≢false (sym h))
not_true false h = refl

-- one word is not two that differ
pub one_word : (k v w : Word) → bytes_eq v w ≡ false → bytes_eq k v ≡ true → bytes_eq k w ≡ true → ⊥
one_word k v w other first second = true≢false (sym ((bytes_eq-Decides v w).1 (sym ((bytes_eq-Decides k v).0 first) ∙ (bytes_eq-Decides k w).0 second)) ∙ other)

-- what is sought is found among those that are kept
module _ {K X : Type 0} (test keep : K → Bool) (keeps : (k : K) → test k ≡ true → keep k ≡ true) where
  pub found-filter : (es : List (K × X)) → find (λ (e : K × X). test e.0) (filter (λ (e : K × X). keep e.0) es) ≡ find (λ (e : K × X). test e.0) es
  found-filter [] = refl
  found-filter (e ∷ es) = by (test e.0) refl (keep e.0) refl (found-filter es)
    where
      sought : List (K × X) → Option (K × X)
      sought xs = find (λ (x : K × X). test x.0) xs

      left : List (K × X)
      left = filter (λ (x : K × X). keep x.0) es

      by : (t : Bool) → test e.0 ≡ t → (k : Bool) → keep e.0 ≡ k → sought left ≡ sought es → sought (cond k (e ∷ left) left) ≡ cond t (Some e) (sought es)
      by true is true kept h = ap (λ b. cond b (Some e) (sought left)) is
      by true is false kept h = absurd (true≢false (sym (keeps e.0 is) ∙ kept))
      by false is true kept h = ap (λ b. cond b (Some e) (sought left)) is ∙ h
      by false is false kept h = h

-- what is found stays so with more behind
pub found-more : {X Y : Type 0} (p : X → Bool) (f : X → Y) (xs ys : List X) (y : Y) → option_map f (find p xs) ≡ Some y → option_map f (find p (xs ++ ys)) ≡ Some y
found-more {X} {Y} p f xs ys y is = ap (option_map f) (find-append p xs ys) ∙ by (find p xs) is
  where
    by : (o : Option X) → option_map f o ≡ Some y → option_map f (option_or o (find p ys)) ≡ Some y
    by (Some x) is = is
    by None is = absurd cc

-- ---- peers

-- what holds of all numbers holds of a peer's
pub number-all : (P : ℕ → Type 0) (w : Word) (peers : Peers) (n : ℕ) → AllByRecursion (λ e. P e.1) peers → number_in peers w ≡ Some n → P n
number-all P w [] n all is = absurd cc
number-all P w (e ∷ es) n all is = by (bytes_eq e.0 w) is (number-all P w es n all.1)
  where
    by : (b : Bool) → option_map (λ (x : Word × ℕ). x.1) (cond b (Some e) (find (λ (x : Word × ℕ). bytes_eq x.0 w) es)) ≡ Some n → (number_in es w ≡ Some n → P n) → P n
    by true is rest = subst P (same_found e.1 n is) all.0
    by false is rest = rest is

-- two peers have two numbers
pub numbers-apart : (v w : Word) (peers : Peers) (m n : ℕ) → bytes_eq v w ≡ false → ApartNumbers peers → number_in peers v ≡ Some m → number_in peers w ≡ Some n → m ≡ n → ⊥
numbers-apart v w [] m n other apart first second same = absurd cc
numbers-apart v w (e ∷ es) m n other apart first second same = by (bytes_eq e.0 v) refl (bytes_eq e.0 w) refl first second (λ f s. numbers-apart v w es m n other apart.1 f s same)
  where
    found : Bool → Word → Option ℕ
    found b u = option_map (λ (x : Word × ℕ). x.1) (cond b (Some e) (find (λ (x : Word × ℕ). bytes_eq x.0 u) es))

    by : (a : Bool) → bytes_eq e.0 v ≡ a → (b : Bool) → bytes_eq e.0 w ≡ b → found a v ≡ Some m → found b w ≡ Some n → (number_in es v ≡ Some m → number_in es w ≡ Some n → ⊥) → ⊥
    by true is_v true is_w f s rest = one_word e.0 v w other is_v is_w
    by true is_v false is_w f s rest = number-all (λ k. e.1 ≡ k → ⊥) w es n apart.0 s (same_found e.1 m f ∙ same)
    by false is_v true is_w f s rest = number-all (λ k. e.1 ≡ k → ⊥) v es m apart.0 f (same_found e.1 n s ∙ sym same)
    by false is_v false is_w f s rest = rest f s

below-later : (m n : ℕ) (peers : Peers) → m ≤ n → AllByRecursion (λ e. e.1 < m) peers → AllByRecursion (λ e. e.1 < n) peers
below-later m n [] le all = tt
below-later m n (e ∷ es) le all = (later e.1 all.0, below-later m n es le all.1)
  where
    later : (k : ℕ) → k < m → k < n
    later k l = omega (arith, l, le)

below-append : (w : Word) (n : ℕ) (peers : Peers) → AllByRecursion (λ e. e.1 < n) peers → AllByRecursion (λ e. e.1 < n + 1) (peers ++ (w, n) ∷ [])
below-append w n [] all = (omega arith, tt)
below-append w n (e ∷ es) all = (later e.1 all.0, below-append w n es all.1)
  where
    later : (k : ℕ) → k < n → k < n + 1
    later k l = omega (arith, l)

apart-append : (w : Word) (n : ℕ) (peers : Peers) → AllByRecursion (λ e. e.1 < n) peers → ApartNumbers peers → ApartNumbers (peers ++ (w, n) ∷ [])
apart-append w n [] all apart = (tt, tt)
apart-append w n (e ∷ es) all apart = (one es apart.0, apart-append w n es all.1 apart.1)
  where
    less : (k : ℕ) → k < n → k ≡ n → ⊥
    less k l same = omega (arith, l, same)

    one : (xs : Peers) → AllByRecursion (λ f. e.1 ≡ f.1 → ⊥) xs → AllByRecursion (λ f. e.1 ≡ f.1 → ⊥) (xs ++ (w, n) ∷ [])
    one [] h = (less e.1 all.0, tt)
    one (x ∷ xs) h = (h.0, one xs h.1)

apart-filter : (p : Word × ℕ → Bool) (peers : Peers) → ApartNumbers peers → ApartNumbers (filter p peers)
apart-filter p [] apart = tt
apart-filter p (e ∷ es) apart = by (p e) (apart-filter p es apart.1)
  where
    by : (b : Bool) → ApartNumbers (filter p es) → ApartNumbers (cond b (e ∷ filter p es) (filter p es))
    by true rest = (all_filter (λ (f : Word × ℕ). e.1 ≡ f.1 → ⊥) p es apart.0, rest)
    by false rest = rest

-- ---- the number of the next session never falls

-- it is at least so many
abbrev pub MadeFrom : ℕ → Hub → Type 0
MadeFrom n hub = n ≤ hub.numbers_given

pub made-kept : (n : ℕ) → IsKept AnyMessage (MadeFrom n)
made-kept n = record {
  reads = λ hub number session found there is h. tt;
  takes_up = λ hub number session found there is h. h;
  changes = λ hub number f step h. h;
  enters = λ hub entry by h. h;
  ends = λ hub point reason h. h;
  takes_in = λ hub number piece any h. h;
  asks_stop = λ hub number rcode delay h. h;
  makes = λ hub h. one_more hub.numbers_given h;
  drops = λ hub number h. h;
}
  where
    one_more : (m : ℕ) → n ≤ m → n ≤ m + 1
    one_more m h = omega (arith, h)

itself : (n : ℕ) → n ≤ n
itself n = omega arith

-- ---- a world that is apart

seat-later : (m n : ℕ) (peers : List (Word × ℕ)) (seat : Seat) → m ≤ n → IsSeatApart m peers seat → IsSeatApart n peers seat
seat-later m n peers seat le a = λ k is. (let one = a k is in (later k one.0, one.1))
  where
    later : (k : ℕ) → k < m → k < n
    later k l = omega (arith, l, le)

seat-without : (n : ℕ) (peers : List (Word × ℕ)) (seat : Seat) → seat.session ≡ None → IsSeatApart n peers seat
seat-without n peers seat none = λ k is. (let wrong : None ≡ Some k = sym none ∙ is in absurd cc)

apart-hub : (world : World) (hub : Hub) → world.hub.numbers_given ≤ hub.numbers_given → IsApart world → IsApart (record world { hub = hub })
apart-hub world hub le a = record {
  seats = all-weaken (IsSeatApart world.hub.numbers_given world.peers) (IsSeatApart hub.numbers_given world.peers) (λ seat one. seat-later world.hub.numbers_given hub.numbers_given world.peers seat le one) world.seats a.seats;
  below = below-later world.hub.numbers_given hub.numbers_given world.peers le a.below;
  apart = a.apart;
}

pub seats-put : (P : Seat → Type 0) (v : Word) (x : Seat) (seats : List Seat) → P x → AllByRecursion P seats → AllByRecursion P (put_seat v x seats)
seats-put P v x [] new all = tt
seats-put P v x (s ∷ ss) new all = (by (bytes_eq s.word v), seats-put P v x ss new all.1)
  where
    by : (b : Bool) → P (cond b x s)
    by true = new
    by false = all.0

abbrev pub seat_apart : World → Seat → Type 0
seat_apart world seat = IsSeatApart world.hub.numbers_given world.peers seat

apart-put : (world : World) (x : Seat) → seat_apart world x → IsApart world → IsApart (with_seat x world)
apart-put world x one a = record { seats = seats-put (seat_apart world) x.word x world.seats one a.seats; below = a.below; apart = a.apart }

pub seat-found : (w : Word) (world : World) (seat : Seat) → seat_of world w ≡ Some seat → IsApart world → seat_apart world seat
seat-found w world seat found a = (found-each (seat_apart world) (λ s. bytes_eq s.word w) world.seats seat a.seats found).0

made-without : (hub : Hub) (o : Option ℕ) → hub.numbers_given ≤ (hub_without o hub).numbers_given
made-without hub None = itself hub.numbers_given
made-without hub (Some number) = itself hub.numbers_given

apart-connection : (seat : Seat) (world : World) → IsApart world → IsApart (cut_connection seat world)
apart-connection seat world a =
    let there = record world { hub = hub_without seat.session world.hub } in
    apart-put there (cut_seat seat) (seat-without there.hub.numbers_given world.peers (cut_seat seat) refl) (apart-hub world there.hub (made-without world.hub seat.session) a)

apart-cut_if : (over : Bool) (seat : Seat) (world : World) → IsApart world → IsApart (world_cut_if over seat world)
apart-cut_if false seat world a = a
apart-cut_if true seat world a = apart-connection seat world a

seat-fewer : (n : ℕ) (p : Word × ℕ → Bool) (peers : List (Word × ℕ)) (seat : Seat) → IsSeatApart n peers seat → IsSeatApart n (filter p peers) seat
seat-fewer n p peers seat a = λ k is. (let one = a k is in (one.0, all_filter (λ (e : Word × ℕ). k ≡ e.1 → ⊥) p peers one.1))

apart-cut : (w : Word) (world : World) → IsApart world → IsApart (cut_peer w world)
apart-cut w world a = record {
  seats = all-weaken (seat_apart world) (IsSeatApart (hub_without (session_number world w) world.hub).numbers_given (without w world.peers))
      (λ seat one. seat-later world.hub.numbers_given (hub_without (session_number world w) world.hub).numbers_given (without w world.peers) seat (made-without world.hub (session_number world w))
      (seat-fewer world.hub.numbers_given (λ e. not (bytes_eq e.0 w)) world.peers seat one)) world.seats a.seats;
  below = all_filter (λ (e : Word × ℕ). e.1 < (hub_without (session_number world w) world.hub).numbers_given) (λ (e : Word × ℕ). not (bytes_eq e.0 w)) world.peers
      (below-later world.hub.numbers_given (hub_without (session_number world w) world.hub).numbers_given world.peers (made-without world.hub (session_number world w)) a.below);
  apart = apart-filter (λ e. not (bytes_eq e.0 w)) world.peers a.apart;
}

seat-more : (w : Word) (n : ℕ) (peers : List (Word × ℕ)) (seat : Seat) → IsSeatApart n peers seat → IsSeatApart (n + 1) (peers ++ (w, n) ∷ []) seat
seat-more w n peers seat a = λ k is. (let one = a k is in (more k one.0, each-append (λ (e : Word × ℕ). k ≡ e.1 → ⊥) peers ((w, n) ∷ []) one.1 (less k one.0, tt)))
  where
    more : (k : ℕ) → k < n → k < n + 1
    more k l = omega (arith, l)

    less : (k : ℕ) → k < n → k ≡ n → ⊥
    less k l same = omega (arith, l, same)

pub apart-more : (w : Word) (world : World) → IsApart world → IsApart (with_peer w world)
apart-more w world a = record { seats = all-weaken (seat_apart world) (IsSeatApart (world.hub.numbers_given + 1) (world.peers ++ (w, world.hub.numbers_given) ∷ [])) (λ seat one. seat-more w world.hub.numbers_given world.peers seat one) world.seats a.seats; below = below-append w world.hub.numbers_given world.peers a.below; apart = apart-append w world.hub.numbers_given world.peers a.below a.apart }

-- ---- each line leaves a world apart

apart-exchanges : (w : Word) (number : ℕ) (octets : List ℕ) (world : World) → IsApart world → IsApart (exchanges w number octets world).0
apart-exchanges w number octets world a =
    let later = exchanged_with world number octets in
    let given = world.hub.numbers_given in
    let behind : IsApart later = apart-hub world later.hub (exchanged-keeps AnyMessage (MadeFrom given) (made-kept given) any-parts enough number octets world.hub [] tt (itself given)) a in
    exchange-does world IsApart w number octets behind (apart-cut w later behind)

apart-sends : (w : Word) (octets : List ℕ) (world : World) → IsApart world → IsApart (sends w octets world).0
apart-sends w octets world a =
    send-does world IsApart w octets (λ number is. apart-exchanges w number octets world a) (apart-exchanges w world.hub.numbers_given octets (with_peer w world) (apart-more w world a)) a

-- the clients at a moment
apart-timed : (t : ℕ) (seats : List Seat) (p : Printed) → AreSeatsApart p.0 seats → IsApart p.0 → IsApart (fold (timed t) p seats).0
apart-timed t [] p all a = a
apart-timed t (seat ∷ seats) p all a =
    let later : Seat = record seat { client = steps.moment seat.client t } in
    let over = is_over None (closed_as later.client) in
    let put = with_seat later p.0 in
    let same : seat_apart put ≡ seat_apart (world_cut_if over later put) = same-apart over later put in
    apart-timed t seats (timed t p seat) (subst (λ (Q : Seat → Type 0). AllByRecursion Q seats) same all.1) (apart-cut_if over later put (apart-put p.0 later all.0 a))
  where
    same-given : (hub : Hub) (o : Option ℕ) → hub.numbers_given ≡ (hub_without o hub).numbers_given
    same-given hub None = refl
    same-given hub (Some number) = refl

    same-apart : (over : Bool) (x : Seat) (world : World) → seat_apart world ≡ seat_apart (world_cut_if over x world)
    same-apart false x world = refl
    same-apart true x world = ap (λ (n : ℕ). IsSeatApart n world.peers) (same-given world.hub x.session)

apart-seated : (w : Word) (is_lone : Bool) (world : World) → IsApart world → IsApart (seated w is_lone world).0
apart-seated w is_lone world a = record {
  seats = each-append (seat_apart world) world.seats (new_seat w is_lone ∷ []) a.seats (seat-without world.hub.numbers_given world.peers (new_seat w is_lone) refl, tt);
  below = a.below;
  apart = a.apart;
}

apart-asks : (call : Call) (w : Word) (world : World) → IsApart world → IsApart (asks call w world).0
apart-asks call w world a = ask-does world IsApart w call a (λ seat e. apart-put world (record seat { client = (called call seat.client).1 }) (seat-found w world seat e a) a)

apart-opens : (w : Word) (world : World) → IsApart world → IsApart (opens w world).0
apart-opens w world a =
    open-does world IsApart w a (λ seat e. apart-put world (record seat { client = connected (now world.hub) seat.client }) (seat-found w world seat e a) a)
    (λ seat e hub. apart-put (record world { hub = with_new world.hub }) (record seat { client = connected (now world.hub) seat.client; session = Some world.hub.numbers_given }) (new_one seat) (apart-hub world (with_new world.hub) (one_more world.hub.numbers_given) a))
  where
    one_more : (n : ℕ) → n ≤ n + 1
    one_more n = omega arith

    next_one : (n k : ℕ) → n ≡ k → k < n + 1
    next_one n k e = omega (arith, e)

    differs : (n k m : ℕ) → n ≡ k → m < n → k ≡ m → ⊥
    differs n k m e l same = omega (arith, e, l, same)

    some_number : (m n : ℕ) → Some m ≡ Some n → m ≡ n
    some_number m n e = cc

    new_one : (seat : Seat) → IsSeatApart (world.hub.numbers_given + 1) world.peers (record seat { session = Some world.hub.numbers_given })
    new_one seat = λ k is. (
        let same = some_number world.hub.numbers_given k is in
        (next_one world.hub.numbers_given k same, all-weaken (λ (e : Word × ℕ). e.1 < world.hub.numbers_given) (λ (e : Word × ℕ). k ≡ e.1 → ⊥) (λ e l. differs world.hub.numbers_given k e.1 same l) world.peers a.below))

-- octets pass between a client and its session, and what follows
pub any-seat : PassingsKeep (λ x. Unit {0})
any-seat = record { says = λ n world x s. tt; ups = λ number n world x s. tt; emits = λ number n world x s. tt; downs = λ n world x s. tt }

apart-passes : (way : Way) (w : Word) (world : World) → IsApart world → IsApart (passes way w world).0
apart-passes way w world a = pass-does IsApart way w world a (λ seat e.
    let p = passes_way way world seat in
    let given = world.hub.numbers_given in
    let made : given ≤ p.world.hub.numbers_given =
    (passing-keeps (MadeFrom given) (λ x. Unit {0}) any-seat way world seat (λ number some. give-keeps AnyMessage (MadeFrom given) (made-kept given) number) (λ number some hub x k n h. h) (itself given) tt).0 in
    let there : IsApart p.world = subst IsApart (sym (passed-world way world seat)) (apart-hub world p.world.hub made a) in
    let named = passed-names way world seat in
    let one : seat_apart p.world p.seat =
    subst (λ (x : World). seat_apart x p.seat) (sym (passed-world way world seat))
    (λ n is. (let found = seat-found w world seat e a n (sym named.session ∙ is) in (below given p.world.hub.numbers_given n made found.0, found.1))) in
    apart-cut_if (is_over p.over (closed_as p.seat.client)) p.seat (with_seat p.seat p.world) (apart-put p.world p.seat one there))
  where
    below : (m n k : ℕ) → m ≤ n → k < m → k < n
    below m n k le l = omega (arith, le, l)

apart-feeds : (w : Word) (octets : List ℕ) (world : World) → IsApart world → IsApart (feeds w octets world).0
apart-feeds w octets world a = feed-does world IsApart w octets a (λ seat e connects.
    let p = fed octets world seat in
    apart-cut_if (fed_over octets world seat) p.seat (with_seat p.seat world) (apart-put world p.seat (seat-found w world seat e a) a))

-- the hub behind a call
apart-called : (call : HubCall) (world : World) → IsApart world → IsApart (record world { hub = hub_called call world.hub })
apart-called call world a = (let given = world.hub.numbers_given in
    apart-hub world (hub_called call world.hub) (keeps-called AnyMessage (MadeFrom given) (made-kept given) call world.hub (bring_any (call ∷ [])).0 (itself given)) a)

apart-calls : (calls : List HubCall) (world : World) → IsApart world → IsApart (record world { hub = after_calls calls world.hub })
apart-calls [] world a = a
apart-calls (call ∷ calls) world a = apart-calls calls (record world { hub = hub_called call world.hub }) (apart-called call world a)

apart-hub-event : (event : HubEvent) (world : World) → IsApart world → IsApart (hub_does event world).0
apart-hub-event (hub_events.At t) world a = (let later = apart-called (moves t) world a in apart-timed (moment_now world t) world.seats (hub_timed world t) later.seats later)
apart-hub-event (hub_events.Update message) world a = apart-called (updates message) world a
apart-hub-event hub_events.Point world a = a

apart-client : (event : ClientEvent) (w : Word) (world : World) → IsApart world → IsApart (client_does by_history event w world).0
apart-client client_events.Open w world a = apart-opens w world a
apart-client (client_events.Feed octets) w world a = apart-feeds w octets world a
apart-client (client_events.Show question written) w world a = subst IsApart (sym (shows-leave by_history w question written world)) a

apart-session : (event : SessionEvent) (w : Word) (world : World) → IsApart world → IsApart (session_does event w world).0
apart-session (session_events.Send octets) w world a = apart-sends w octets world a
apart-session (session_events.Stop rcode delay) w world a = by (session_of_word world w)
  where
    by : (o : Option ℕ) → IsApart (stopped world rcode delay o)
    by None = a
    by (Some number) = apart-called (stops number rcode delay) world a
apart-session session_events.Cut w world a = cut-does world IsApart w (λ seat e. apart-connection seat world a) (apart-cut w world a)

pub apart-line : (line : ScriptLine) (world : World) → IsApart world → IsApart (line_does by_history line world).0
apart-line silent world a = a
apart-line (head_line line) world a = a
apart-line (joining w is_lone) world a = apart-seated w is_lone world a
apart-line (hub_event event) world a = apart-hub-event event world a
apart-line (link_event w event) world a = apart-calls (link_calls event w world) world a
apart-line (client_call w call) world a = apart-asks call w world a
apart-line (client_passing w way) world a = apart-passes way w world a
apart-line (client_event w event) world a = apart-client event w world a
apart-line (session_event w event) world a = apart-session event w world a

pub apart-lines : (lines : List ScriptLine) (world : World) → IsApart world → IsApart (world_after lines world)
apart-lines [] world a = a
apart-lines (line ∷ lines) world a = apart-lines lines (line_does by_history line world).0 (apart-line line world a)

pub apart-start : (script : List ScriptLine) → IsApart (start_world script)
apart-start script = record { seats = tt; below = tt; apart = tt }

pub apart-placed : (w : Word) (earlier world : World) (number : ℕ) → placed w earlier ≡ Some (number, world) → IsApart earlier → IsApart world
apart-placed w earlier world number is a = by (session_number earlier w) is
  where
    by_made : Option ℕ × Hub → Option (ℕ × World)
    by_made r = option_map (λ n. (n, record earlier { hub = r.1; peers = earlier.peers ++ (w, n) ∷ [] })) r.0

    at_place : ℕ → World → Option (ℕ × World)
    at_place n there = Some (n, there)

    moved : (n : ℕ) (there : World) → at_place n there ≡ at_place number world → IsApart there → IsApart world
    moved n there same h = subst (λ (p : ℕ × World). IsApart p.1) (same_found (n, there) (number, world) same) h

    by_room : (b : Bool) → by_made (made_or_not earlier.hub b) ≡ at_place number world → IsApart world
    by_room true same = moved earlier.hub.numbers_given (with_peer w earlier) same (apart-more w earlier a)
    by_room false same = absurd cc

    by : (o : Option ℕ) → elim o as (λ _. Option (ℕ × World)) [ Some n ↦ Some (n, earlier) | None ↦ by_made (connect earlier.hub) ] ≡ at_place number world → IsApart world
    by (Some n) same = moved n earlier same a
    by None same = by_room (has_room earlier.hub) same
