-- Seats whose sessions calls aren't for: two have no number in common, nor has one with a peer.
--     own-calls-are-for-no-other, all-avoid, other-seats-avoid, seats-avoid-peers
use Rattle.std.proofs.Common.{◌≡◌, ℕ, ◌+◌, false, List, [], ◌∷◌, Option, Some, None, refl, sym, ◌∙◌, ap, subst, arith, true≢false}
use Rattle.std.specs.List.{AllByRecursion}
use Rattle.std.specs.Str.{bytes_eq}
use Rattle.coalesce.proofs.ReadBack.{each-append}
use Rattle.pushclient.specs.SoundClients.{count_of}
use Rattle.pushserver.specs.Calls.{HubCall, updates, hears, goes, moves, connects, takes, gives, stops, ends}
use Rattle.pushserver.proofs.hub_steps.Pairs.{all-weaken}
use Rattle.scripts.specs.Lines.{Word}
use Rattle.replay.specs.World.{Seat, session_number}
use Rattle.scripts.proofs.lines.SameWords.{word_itself}
use Rattle.replay.proofs.worlds.Seats.{words_of}
use Rattle.flight_laws.specs.OtherCalls.{IsOfOthers}
use Rattle.script_laws.specs.Reached.{IsFor, Avoids}
use Rattle.script_laws.specs.Numbers.{KeepsNumbers, IsForNoOther, AreForNoOther, OwnCallsAreForNoOther, AllAvoid, OtherSeatsAvoid, SeatsAvoidPeers}
use Rattle.script_laws.proofs.hubs.Counting.{one_of, counted-option, one-itself}
use Rattle.script_laws.proofs.hubs.Words.{distinct-back, among, peer-among, peer_words}
use Rattle.script_laws.proofs.hubs.WorldNumbers.{seat_numbers, peer_numbers, of-parts, with-seat, with-peer}

-- ---- calls for one session alone

own-call : (number : ℕ) (call : HubCall) → IsFor number call → IsForNoOther (Some number) call × KeepsNumbers call
own-call number (takes other piece) own = (ap (λ (n : ℕ). Some n) (sym own), tt)
own-call number (gives other room) own = (ap (λ (n : ℕ). Some n) (sym own), tt)
own-call number (updates message) own = absurd own
own-call number (hears link datagram) own = absurd own
own-call number (goes link) own = absurd own
own-call number (moves t) own = absurd own
own-call number connects own = absurd own
own-call number (stops other rcode delay) own = absurd own
own-call number (ends other) own = absurd own

pub own-calls-are-for-no-other : OwnCallsAreForNoOther
own-calls-are-for-no-other number [] own = (tt, tt)
own-calls-are-for-no-other number (call ∷ calls) own =
    let first = own-call number call own.0 in
    let rest = own-calls-are-for-no-other number calls own.1 in
    ((first.0, rest.0), (first.1, rest.1))

-- ---- sessions that are apart

-- both are none, or not the same
abbrev pub AreApart : Option ℕ → Option ℕ → Type 0
AreApart own other = (number : ℕ) → own ≡ Some number → other ≡ Some number → ⊥

of-others : (own : Option ℕ) (number : ℕ) (call : HubCall) → AreApart own (Some number) → IsForNoOther own call → IsOfOthers number call
of-others own number (takes other piece) apart is = λ same. apart other is (ap (λ (n : ℕ). Some n) same)
of-others own number (gives other room) apart is = λ same. apart other is (ap (λ (n : ℕ). Some n) same)
of-others own number (ends other) apart is = λ same. apart other is (ap (λ (n : ℕ). Some n) same)
of-others own number (updates message) apart is = tt
of-others own number (hears link datagram) apart is = tt
of-others own number (goes link) apart is = tt
of-others own number (moves t) apart is = tt
of-others own number connects apart is = tt
of-others own number (stops other rcode delay) apart is = tt

pub apart-avoid : (own other : Option ℕ) (calls : List HubCall) → AreApart own other → AreForNoOther own calls → Avoids other calls
apart-avoid own None calls apart are = tt
apart-avoid own (Some number) calls apart are = all-weaken (IsForNoOther own) (IsOfOthers number) (λ call is. of-others own number call apart is) calls are

pub all-avoid : AllAvoid
all-avoid session calls are = apart-avoid None session calls (λ number none is. absurd cc) are

-- ---- seats

-- where none is counted
none-counted : (number : ℕ) (seats : List Seat) → count_of number (seat_numbers seats) ≡ 0 → AllByRecursion (λ s. AreApart (Some number) s.session) seats
none-counted number [] none = tt
none-counted number (s ∷ ss) none = (apart, none-counted number ss (omega (arith, none, all_of)))
  where
    all_of : count_of number (seat_numbers (s ∷ ss)) ≡ one_of number s.session + count_of number (seat_numbers ss)
    all_of = counted-option number s.session (seat_numbers ss)

    apart : AreApart (Some number) s.session
    apart other own is =
        let both : number ≡ other = cc in
        let one : one_of number s.session ≡ 1 = ap (one_of number) (is ∙ ap (λ (n : ℕ). Some n) (sym both)) ∙ one-itself number in
        absurd (omega (arith, none, all_of, one))

abbrev AvoidsBeside : Word → List HubCall → Seat → Type 0
AvoidsBeside w calls s = bytes_eq s.word w ≡ false → Avoids s.session calls

pub other-seats-avoid : OtherSeatsAvoid
other-seats-avoid world w seat calls f there are = by seat.session refl
  where
    avoiding : (number : ℕ) → seat.session ≡ Some number → (seats : List Seat) → count_of number (seat_numbers seats) ≡ 0 → AllByRecursion (AvoidsBeside w calls) seats
    avoiding number is seats none =
        all-weaken (λ (s : Seat). AreApart (Some number) s.session) (AvoidsBeside w calls) (λ s apart other. apart-avoid seat.session s.session calls (subst (λ (o : Option ℕ). AreApart o s.session) (sym is) apart) are) seats (none-counted number seats none)

    by : (o : Option ℕ) → seat.session ≡ o → AllByRecursion (AvoidsBeside w calls) world.seats
    by None is = all-of world.seats
      where
        all-of : (seats : List Seat) → AllByRecursion (AvoidsBeside w calls) seats
        all-of [] = tt
        all-of (s ∷ ss) = (λ other. all-avoid s.session calls (subst (λ (o : Option ℕ). AreForNoOther o calls) is are), all-of ss)
    by (Some number) is =
        let a = among w world.seats seat there in
        let was = of-parts number world.seats world.peers in
        let was_is = ap (λ (ss : List Seat). count_of number (seat_numbers ss)) a.is ∙ with-seat number a.front a.back seat in
        let one : one_of number seat.session ≡ 1 = ap (one_of number) is ∙ one-itself number in
        let most = f.distinct number in
        let own : AvoidsBeside w calls seat = λ other. absurd (true≢false (sym (word_itself w) ∙ ap (λ (v : Word). bytes_eq v w) (sym a.word) ∙ other)) in
        subst (AllByRecursion (AvoidsBeside w calls)) (sym a.is)
        (each-append (AvoidsBeside w calls) a.front (seat ∷ a.back)
        (avoiding number is a.front (omega (arith, was, was_is, one, most)))
        (own, avoiding number is a.back (omega (arith, was, was_is, one, most))))

pub seats-avoid-peers : SeatsAvoidPeers
seats-avoid-peers world w calls f are = by (session_number world w) refl are
  where
    by : (o : Option ℕ) → session_number world w ≡ o → AreForNoOther o calls → AllByRecursion (λ s. Avoids s.session calls) world.seats
    by None is are = all-of world.seats
      where
        all-of : (seats : List Seat) → AllByRecursion (λ s. Avoids s.session calls) seats
        all-of [] = tt
        all-of (s ∷ ss) = (all-avoid s.session calls are, all-of ss)
    by (Some number) is are =
        let a = peer-among w number world.peers (distinct-back (words_of world.seats) (peer_words world.peers) f.words) is in
        let was = of-parts number world.seats world.peers in
        let was_is = ap (λ (ps : List (Word × ℕ)). count_of number (peer_numbers ps)) a.is ∙ with-peer number a.front a.back (a.word, number) in
        let one = one-itself number in
        let most = f.distinct number in
        all-weaken (λ (s : Seat). AreApart (Some number) s.session) (λ (s : Seat). Avoids s.session calls) (λ s apart. apart-avoid (Some number) s.session calls apart are) world.seats
        (none-counted number world.seats (omega (arith, was, was_is, one, most)))
