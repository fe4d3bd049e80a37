-- A world still stands behind calls for one session, or for none, with which one seat may change.
--     changed-seats-are-found
--     seats-pass, hubs-go-on, seats-open, peers-open, seats-are-cut, seats-pass-and-are-cut, peers-are-cut
use Rattle.std.proofs.Common.{◌≡◌, ℕ, Bool, true, false, cond, List, [], ◌∷◌, ◌++◌, find, Option, Some, None, refl, sym, ◌∙◌, ap, subst, true≢false}
use Rattle.std.specs.List.{AllByRecursion}
use Rattle.std.specs.Str.{bytes_eq}
use Rattle.coalesce.proofs.ReadBack.{each-append}
use Rattle.pushserver.specs.Calls.{HubCall, connects, ends, after_calls}
use Rattle.pushserver.specs.PlainHubs.{Hub}
use Rattle.scripts.specs.Lines.{Word}
use Rattle.replay.specs.World.{World, Seat, seat_of, with_seat, session_number, cut_seat, cut_connection, hub_without, without}
use Rattle.replay.specs.Promises.{NumbersFit}
use Rattle.scripts.proofs.lines.SameWords.{same_word, word_itself}
use Rattle.replay.proofs.worlds.Seats.{is_of_word, put_seat}
use Rattle.script_laws.specs.Reached.{FitsCall, FitCalls, IsReached, Avoids}
use Rattle.script_laws.specs.Numbers.{IsForNoOther, AreForNoOther, ChangedSeatsAreFound}
use Rattle.script_laws.specs.Joined.{SeatStands, ShownToEach, WorldStands}
use Rattle.script_laws.specs.Worlds.{SeatsPass, HubsGoOn, SeatsOpen, PeersOpen, SeatsAreCut, SeatsPassAndAreCut, PeersAreCut}
use Rattle.script_laws.proofs.hubs.Reaching.{calls-append, reached-go-on}
use Rattle.script_laws.proofs.hubs.Others.{others-leave-seats}
use Rattle.script_laws.proofs.hubs.Words.{among}
use Rattle.script_laws.proofs.hubs.WorldNumbers.{calls-fit, seats-change-fit, seats-open-fit, peers-open-fit, seats-are-cut-fit, peers-are-cut-fit}
use Rattle.script_laws.proofs.hubs.Avoiding.{other-seats-avoid, seats-avoid-peers}

-- ---- what is found behind a change of one seat

found-put : (w v : Word) (x : Seat) (seats : List Seat) → bytes_eq x.word w ≡ true → bytes_eq v w ≡ false → find (is_of_word v) (put_seat x.word x seats) ≡ find (is_of_word v) seats
found-put w v x [] own other = refl
found-put w v x (s ∷ ss) own other = by (bytes_eq s.word x.word) refl (found-put w v x ss own other)
  where
    -- a seat whose word is w isn't the one of v
    not-of : (u : Word) → bytes_eq u w ≡ true → bytes_eq u v ≡ false
    not-of u is = by_test (bytes_eq u v) refl
      where
        by_test : (b : Bool) → bytes_eq u v ≡ b → b ≡ false
        by_test true same = absurd (true≢false (sym is ∙ ap (λ (t : Word). bytes_eq t w) (same_word u v same) ∙ other))
        by_test false same = refl

    by : (b : Bool) → bytes_eq s.word x.word ≡ b → find (is_of_word v) (put_seat x.word x ss) ≡ find (is_of_word v) ss
        → find (is_of_word v) (cond b x s ∷ put_seat x.word x ss) ≡ find (is_of_word v) (s ∷ ss)
    by true is rest =
        let same = same_word s.word x.word is in
        let first = ap (λ (b : Bool). cond b (Some x) (find (is_of_word v) (put_seat x.word x ss))) (not-of x.word own) in
        let last = ap (λ (b : Bool). cond b (Some s) (find (is_of_word v) ss)) (not-of s.word (ap (λ (t : Word). bytes_eq t w) same ∙ own)) in
        first ∙ rest ∙ sym last
    by false is rest = ap (λ (o : Option Seat). cond (bytes_eq s.word v) (Some s) o) rest

found-own : (x seat : Seat) (seats : List Seat) → find (is_of_word x.word) seats ≡ Some seat → find (is_of_word x.word) (put_seat x.word x seats) ≡ Some x
found-own x seat [] there = absurd cc
found-own x seat (s ∷ ss) there = by (bytes_eq s.word x.word) refl there (found-own x seat ss)
  where
    later : List Seat
    later = put_seat x.word x ss

    by : (b : Bool) → bytes_eq s.word x.word ≡ b → cond b (Some s) (find (is_of_word x.word) ss) ≡ Some seat → (find (is_of_word x.word) ss ≡ Some seat → find (is_of_word x.word) later ≡ Some x)
        → find (is_of_word x.word) (cond b x s ∷ later) ≡ Some x
    by true is there rest = ap (λ (b : Bool). cond b (Some x) (find (is_of_word x.word) later)) (word_itself x.word)
    by false is there rest = ap (λ (b : Bool). cond b (Some s) (find (is_of_word x.word) later)) is ∙ rest there

pub changed-seats-are-found : ChangedSeatsAreFound
changed-seats-are-found world w seat later there same =
    let own : later.word ≡ w = same ∙ (among w world.seats seat there).word in
    (subst (λ (u : Word). find (is_of_word u) (put_seat later.word later world.seats) ≡ Some later) own (found-own later seat world.seats (subst (λ (u : Word). find (is_of_word u) world.seats ≡ Some seat) (sym own) there)), λ v other. found-put w v later world.seats (ap (λ (u : Word). bytes_eq u w) own ∙ word_itself w) other)

-- ---- each seat stands

abbrev pub StandsIn : ShownToEach → Hub → Seat → Type 0
StandsIn shown hub s = SeatStands hub (shown s.word) s

-- the seats whose sessions the calls aren't for
all-leave : (shown : ShownToEach) (hub : Hub) (calls : List HubCall) (seats : List Seat) → IsReached hub → FitCalls calls → AllByRecursion (λ s. Avoids s.session calls) seats
    → AllByRecursion (StandsIn shown hub) seats → AllByRecursion (StandsIn shown (after_calls calls hub)) seats
all-leave shown hub calls [] reached fit avoid stand = tt
all-leave shown hub calls (s ∷ ss) reached fit avoid stand = (others-leave-seats hub (shown s.word) s calls reached fit avoid.0 stand.0, all-leave shown hub calls ss reached fit avoid.1 stand.1)

-- one seat changes, and the calls aren't for the others'
all-but-one : (shown : ShownToEach) (hub : Hub) (calls : List HubCall) (x : Seat) (seats : List Seat) → IsReached hub → FitCalls calls → AllByRecursion (λ s. bytes_eq s.word x.word ≡ false → Avoids s.session calls) seats
    → StandsIn shown (after_calls calls hub) x → AllByRecursion (StandsIn shown hub) seats → AllByRecursion (StandsIn shown (after_calls calls hub)) (put_seat x.word x seats)
all-but-one shown hub calls x [] reached fit avoid own stand = tt
all-but-one shown hub calls x (s ∷ ss) reached fit avoid own stand = (by (bytes_eq s.word x.word) refl, all-but-one shown hub calls x ss reached fit avoid.1 own stand.1)
  where
    by : (b : Bool) → bytes_eq s.word x.word ≡ b → StandsIn shown (after_calls calls hub) (cond b x s)
    by true is = own
    by false is = others-leave-seats hub (shown s.word) s calls reached fit (avoid.0 is) stand.0

-- ---- the world

module _ (shown : ShownToEach) (world : World) (stands : WorldStands shown world) where
  module _ (w : Word) (seat later : Seat) (there : seat_of world w ≡ Some seat) (same : later.word ≡ seat.word) where
    -- the word of the later seat
    own-word : later.word ≡ w
    own-word = same ∙ (among w world.seats seat there).word

    beside : (calls : List HubCall) → AreForNoOther seat.session calls → AllByRecursion (λ s. bytes_eq s.word later.word ≡ false → Avoids s.session calls) world.seats
    beside calls are = subst (λ (v : Word). AllByRecursion (λ s. bytes_eq s.word v ≡ false → Avoids s.session calls) world.seats) (sym own-word) (other-seats-avoid world w seat calls stands.numbers there are)

    -- calls for no other session, and numbers that fit
    pub seat-changes : (calls : List HubCall) → FitCalls calls → AreForNoOther seat.session calls → SeatStands (after_calls calls world.hub) (shown seat.word) later
        → NumbersFit (with_seat later (record world { hub = after_calls calls world.hub })) → WorldStands shown (with_seat later (record world { hub = after_calls calls world.hub }))
    seat-changes calls fit are own numbers = record {
      reached = reached-go-on world.hub calls stands.reached fit;
      numbers = numbers;
      seats = all-but-one shown world.hub calls later world.seats stands.reached fit (beside calls are) (subst (λ (v : Word). SeatStands (after_calls calls world.hub) (shown v) later) (sym same) own) stands.seats;
    }

  pub hub-changes : (w : Word) (calls : List HubCall) (peers : List (Word × ℕ)) → FitCalls calls → AreForNoOther (session_number world w) calls
      → NumbersFit (record world { hub = after_calls calls world.hub; peers = peers }) → WorldStands shown (record world { hub = after_calls calls world.hub; peers = peers })
  hub-changes w calls peers fit are numbers = record {
    reached = reached-go-on world.hub calls stands.reached fit;
    numbers = numbers;
    seats = all-leave shown world.hub calls world.seats stands.reached fit (seats-avoid-peers world w calls stands.numbers are) stands.seats;
  }

-- ---- the laws

pub seats-pass : SeatsPass
seats-pass shown world w seat later calls stands there same session fit keeps are own =
    seat-changes shown world stands w seat later there same calls fit are own
    (seats-change-fit (record world { hub = after_calls calls world.hub }) w seat later there same session (calls-fit world calls keeps stands.numbers))

pub hubs-go-on : HubsGoOn
hubs-go-on shown world w calls stands fit keeps are = hub-changes shown world stands w calls world.peers fit are (calls-fit world calls keeps stands.numbers)

pub seats-open : SeatsOpen
seats-open shown world w seat later number stands there none opened same session own =
    seat-changes shown world stands w seat later there same (connects ∷ []) ((tt, tt), tt) (tt, tt) own (seats-open-fit world w seat later number there none opened same session stands.numbers)

pub peers-open : PeersOpen
peers-open shown world w number stands no_seat no_peer opened =
    hub-changes shown world stands w (connects ∷ []) (world.peers ++ (w, number) ∷ []) ((tt, tt), tt) (tt, tt) (peers-open-fit world w number no_seat no_peer opened stands.numbers)

-- ---- cuts

-- the call that ends a session, if there is one
abbrev ending : Option ℕ → List HubCall
ending None = []
ending (Some number) = ends number ∷ []

ending-is : (o : Option ℕ) (hub : Hub) → hub_without o hub ≡ after_calls (ending o) hub
ending-is None hub = refl
ending-is (Some number) hub = refl

ending-fits : (o : Option ℕ) → FitCalls (ending o)
ending-fits None = tt
ending-fits (Some number) = ((tt, tt), tt)

ending-own : (o : Option ℕ) → AreForNoOther o (ending o)
ending-own None = tt
ending-own (Some number) = (refl, tt)

pub seats-are-cut : SeatsAreCut
seats-are-cut shown world w seat later stands there same session own =
    subst (λ (h : Hub). WorldStands shown (with_seat (cut_seat later) (record world { hub = h }))) (sym is)
    (seat-changes shown world stands w seat (cut_seat later) there same (ending seat.session) (ending-fits seat.session) (ending-own seat.session)
    (subst (λ (h : Hub). SeatStands h (shown seat.word) (cut_seat later)) (ending-is seat.session world.hub) own)
    (subst (λ (h : Hub). NumbersFit (with_seat (cut_seat later) (record world { hub = h }))) is (seats-are-cut-fit world w seat later there same session stands.numbers)))
  where
    is : hub_without later.session world.hub ≡ after_calls (ending seat.session) world.hub
    is = ap (λ (o : Option ℕ). hub_without o world.hub) session ∙ ending-is seat.session world.hub

pub peers-are-cut : PeersAreCut
peers-are-cut shown world w stands =
    subst (λ (h : Hub). WorldStands shown (record world { hub = h; peers = without w world.peers })) (sym is)
    (hub-changes shown world stands w (ending o) (without w world.peers) (ending-fits o) (ending-own o)
    (subst (λ (h : Hub). NumbersFit (record world { hub = h; peers = without w world.peers })) is (peers-are-cut-fit world w stands.numbers)))
  where
    o : Option ℕ
    o = session_number world w

    is : hub_without o world.hub ≡ after_calls (ending o) world.hub
    is = ending-is o world.hub

-- ---- a seat passes octets, and is cut

put-twice : (v : Word) (x y : Seat) (seats : List Seat) → bytes_eq x.word v ≡ true → put_seat v y (put_seat v x seats) ≡ put_seat v y seats
put-twice v x y [] own = refl
put-twice v x y (s ∷ ss) own = by (bytes_eq s.word v) refl (put-twice v x y ss own)
  where
    by : (b : Bool) → bytes_eq s.word v ≡ b → put_seat v y (put_seat v x ss) ≡ put_seat v y ss → put_seat v y (cond b x s ∷ put_seat v x ss) ≡ cond b y s ∷ put_seat v y ss
    by true is rest = λ i. cond (own i) y x ∷ rest i
    by false is rest = λ i. cond (is i) y s ∷ rest i

pub seats-pass-and-are-cut : SeatsPassAndAreCut
seats-pass-and-are-cut shown world w seat later calls stands there same session fit keeps are own =
    subst (WorldStands shown) (sym is)
    (seat-changes shown world stands w seat (cut_seat later) there same (calls ++ ending seat.session)
    (each-append FitsCall calls (ending seat.session) fit (ending-fits seat.session))
    (each-append (IsForNoOther seat.session) calls (ending seat.session) are (ending-own seat.session))
    (subst (λ (h : Hub). SeatStands h (shown seat.word) (cut_seat later)) ended own)
    (subst NumbersFit is (seats-are-cut-fit passed_world w later later found refl refl passed)))
  where
    passed_world : World
    passed_world = with_seat later (record world { hub = after_calls calls world.hub })

    passed : NumbersFit passed_world
    passed = seats-change-fit (record world { hub = after_calls calls world.hub }) w seat later there same session (calls-fit world calls keeps stands.numbers)

    found : seat_of passed_world w ≡ Some later
    found = (changed-seats-are-found (record world { hub = after_calls calls world.hub }) w seat later there same).0

    ended : hub_without seat.session (after_calls calls world.hub) ≡ after_calls (calls ++ ending seat.session) world.hub
    ended = ending-is seat.session (after_calls calls world.hub) ∙ sym (calls-append calls (ending seat.session) world.hub)

    hub_is : hub_without later.session (after_calls calls world.hub) ≡ after_calls (calls ++ ending seat.session) world.hub
    hub_is = ap (λ (o : Option ℕ). hub_without o (after_calls calls world.hub)) session ∙ ended

    seats_are : put_seat later.word (cut_seat later) (put_seat later.word later world.seats) ≡ put_seat later.word (cut_seat later) world.seats
    seats_are = put-twice later.word later (cut_seat later) world.seats (word_itself later.word)

    is : cut_connection later passed_world ≡ with_seat (cut_seat later) (record world { hub = after_calls (calls ++ ending seat.session) world.hub })
    is = λ i. record world { hub = hub_is i; seats = seats_are i }
