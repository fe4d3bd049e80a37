-- The client drops a question that it holds: an UNSUBSCRIBE goes up.
--     held-dropped      what is under way fits together with it
use Rattle.std.proofs.Common.{◌≡◌, ℕ, ◌+◌, ◌≤◌, Bool, true, false, not, ◌&&◌, ◌||◌, cond, List, [], ◌∷◌, ◌++◌, length, Some, sym, ap, ◌∙◌, subst, refl, true≢false, arith}
use Rattle.std.specs.Prelude.{IsTrue, IsSome, is_some, find, filter, flat_map, ◌==◌}
use Rattle.std.specs.List.{list_any, AllByRecursion}
use Rattle.std.proofs.lemmas.Bool.{and_parts, and_from, eqb-true, eq-eqb}
use Rattle.std.proofs.lemmas.List.{length-append, append-nil}
use Rattle.std.proofs.lemmas.List.Folds.{list_any-append}
use Rattle.std.proofs.lemmas.List.Elements.{filter_map-append}
use Rattle.push_base.specs.Limits.{max_questions}
use Rattle.rrset.specs.Records.{same_question}
use Rattle.rrset.specs.declared.record.Question.{Question}
use Rattle.pushserver.specs.PlainHubs.{Made, Subscription, asked_of}
use Rattle.pushserver.proofs.hub_steps.Pairs.{all-weaken}
use Rattle.pushclient.specs.Clients.{Wish, RequestState, not_asked, unanswered, refused, answered}
use Rattle.pushclient.specs.ServerMessages.{ServerMessage, accepts, refuses, grants, tells, delays}
use Rattle.pushclient.specs.SoundClients.{count_of, is_asked}
use Rattle.pushclient.specs.Steps.{is_answered, is_unanswered}
use Rattle.pushclient.proofs.SoundWishes.{Apart, apart, found_own, all_behind}
use Rattle.inflight.specs.Messages.{ClientMessage, subscribes, unsubscribes, reconfirms, requests_keepalive, request_id, request_ids, unsubscribed_id, unsubscribed_ids, unsubscribes_id, Flying, answer_ids, accepts_id}
use Rattle.inflight.specs.Ends.{BothEnds, is_id, is_question, is_held_with, is_unanswered_as, is_answered_as, is_active_as, unanswered_id, answered_id, unanswered_ids, used_ids, is_requested, fits_request, taken_up}
use Rattle.inflight.specs.Flight.{IsSoundClient, Downward, Upward, FitsTogether, TookNotices, is_seen, is_homeless, is_active_answer, is_let_go, is_held_active, is_accounted_for}
use Rattle.flight_laws.specs.Laws.{Active, without_question, HeldOnesAreDropped}
use Rattle.flight_laws.proofs.TakenUp.{taken_where}
use Rattle.flight_laws.proofs.Counting.{count-behind, count-unanswered, count-used, held_ids, waiting_ids}
use Rattle.flight_laws.proofs.Writing.{each-behind, accounted-more, all_taken_up-more}
use Rattle.flight_laws.proofs.Taking.{count-cons, itself}
use Rattle.flight_laws.proofs.FirstFits.{one-waits, counts-waiting, counted}
use Rattle.flight_laws.proofs.Replaced.{mid-all, mid-any, mid-none, count-old, count-new, differ-left}
use Rattle.flight_laws.proofs.Refusals.{all-counted, any-weaken, and-weaken, or-weaken, isn't-held, questions-differ}

-- ---- tests

and-three : (a h f : Bool) → a ≡ true → h ≡ false → f ≡ false → (a && not h && not f) ≡ true
and-three true false false p q r = refl
and-three false h f p q r = absurd (true≢false (sym p))
and-three true true f p q r = absurd (true≢false q)
and-three true false true p q r = absurd (true≢false r)

never-held : (a f : Bool) → (a && not true && f) ≡ true → ⊥
never-held true f h = true≢false (sym h)
never-held false f h = true≢false (sym h)

or-last : (x f u : Bool) → u ≡ true → (x || f || u) ≡ true
or-last true f u h = refl
or-last false true u h = refl
or-last false false u h = h

or-own : (a b : Bool) → b ≡ true → (a || (b || false)) ≡ true
or-own true b h = refl
or-own false true h = refl
or-own false false h = h

is-established : (client session : Bool) → client ≡ true → (not client || session) ≡ true → session ≡ true
is-established true session is h = h
is-established false session is h = absurd (true≢false (sym is))

pub any-at : (p : Wish → Bool) (before : List Wish) (w : Wish) (behind : List Wish) → p w ≡ true → list_any p (before ++ w ∷ behind) ≡ true
any-at p before w behind is = list_any-append p before (w ∷ behind) ∙ by (list_any p before) (p w) (list_any p behind) is
  where
    by : (a b c : Bool) → b ≡ true → (a || (b || c)) ≡ true
    by true b c h = refl
    by false true c h = refl
    by false false c h = absurd (true≢false (sym h))

-- ---- IDs

-- where no held ID is this one
none-held : (id : ℕ) (ws : List Wish) → count_of id (flat_map (λ w. answered_id w.standing) ws) ≡ 0 → list_any (λ w. is_held_with id w.standing) ws ≡ false
none-held id [] none = refl
none-held id (w ∷ ws) none = by w.standing none (none-held id ws)
  where
    by_id : (other : ℕ) (b : Bool) → (id == other) ≡ b → count_of id (other ∷ flat_map (λ (v : Wish). answered_id v.standing) ws) ≡ 0
        → (count_of id (flat_map (λ (v : Wish). answered_id v.standing) ws) ≡ 0 → list_any (λ v. is_held_with id v.standing) ws ≡ false) → (b || list_any (λ v. is_held_with id v.standing) ws) ≡ false
    by_id other true is none rest =
        let first = count-cons id other (flat_map (λ (v : Wish). answered_id v.standing) ws) in
        let one : cond (other == id) 1 0 ≡ 1 = ap (λ (b : Bool). cond {A = ℕ} b 1 0) (eq-eqb other id (sym (eqb-true id other is))) in
        absurd (omega (arith, first, one, none))
    by_id other false is none rest =
        let first = count-cons id other (flat_map (λ (v : Wish). answered_id v.standing) ws) in
        rest (omega (arith, first, none))

    by : (s : RequestState) → count_of id (answered_id s ++ flat_map (λ (v : Wish). answered_id v.standing) ws) ≡ 0
        → (count_of id (flat_map (λ (v : Wish). answered_id v.standing) ws) ≡ 0 → list_any (λ v. is_held_with id v.standing) ws ≡ false) → (is_held_with id s || list_any (λ v. is_held_with id v.standing) ws) ≡ false
    by not_asked none rest = rest none
    by (unanswered other) none rest = rest none
    by (refused rcode) none rest = rest none
    by (answered other) none rest = by_id other (id == other) refl none rest

-- no answer comes down with an ID with which no wish waits
pub none-accepted : (e : BothEnds) (id : ℕ) → count_of id (waiting_ids e) ≡ 0 → (flying : List Flying) → AllByRecursion (λ f. IsTrue (fits_request e f.says)) flying → list_any (λ f. accepts_id id f.says) flying ≡ false
none-accepted e id none [] all = refl
none-accepted e id none (f ∷ flying) all = by f.says all.0 (none-accepted e id none flying all.1)
  where
    by_id : (other : ℕ) (b : Bool) → (id == other) ≡ b → IsTrue (fits_request e (accepts other)) → list_any (λ f. accepts_id id f.says) flying ≡ false → (b || list_any (λ f. accepts_id id f.says) flying) ≡ false
    by_id other true is h rest =
        let one = one-waits id (λ w. e.serves w.question) e.wishes (subst (λ n. IsTrue (fits_request e (accepts n))) (sym (eqb-true id other is)) h) in
        let some = counts-waiting id e.wishes one.0 one.1 in
        absurd (omega (arith, some, none))
    by_id other false is h rest = rest

    by : (m : ServerMessage) → IsTrue (fits_request e m) → list_any (λ f. accepts_id id f.says) flying ≡ false → (accepts_id id m || list_any (λ f. accepts_id id f.says) flying) ≡ false
    by (accepts other) h rest = by_id other (id == other) refl h rest
    by (refuses other) h rest = rest
    by (grants other) h rest = rest
    by (tells notices) h rest = rest
    by (delays rcode delay) h rest = rest

-- ---- without it

module _ (e : BothEnds) (before : List Wish) (wish : Wish) (behind : List Wish) (id : ℕ) where
  abbrev held : Wish
  held = record wish { standing = answered id }

  abbrev earlier : BothEnds
  earlier = record e { wishes = before ++ held ∷ behind }

  abbrev later : BothEnds
  later = record e { wishes = before ++ behind }

  left : (P : Wish → Type 0) → AllByRecursion P (before ++ held ∷ behind) → AllByRecursion P (before ++ behind)
  left P all = mid-all before held [] behind P tt all

  at-held : (P : Wish → Type 0) → AllByRecursion P (before ++ held ∷ behind) → P held
  at-held P all = (each-behind P before (held ∷ behind) all).0

  zero-of : (n : ℕ) → count_of n [] ≡ 0
  zero-of n = refl

  waiting-same : (n : ℕ) → count_of n (waiting_ids earlier) ≡ count_of n (waiting_ids later)
  waiting-same n =
      let old = count-old before held [] behind (λ w. unanswered_id w.standing) n in
      let new = count-new before held [] behind (λ w. unanswered_id w.standing) n in
      let zero = zero-of n in
      omega (arith, old, new, zero)

  unanswered-same : (n : ℕ) → count_of n (unanswered_ids earlier) ≡ count_of n (unanswered_ids later)
  unanswered-same n =
      let before_all = count-unanswered n earlier in
      let after_all = count-unanswered n later in
      let same = waiting-same n in
      omega (arith, before_all, after_all, same)

  held-before : (n : ℕ) → count_of n (held_ids earlier) ≡ count_of n (held_ids later) + cond (id == n) 1 0
  held-before n =
      let old = count-old before held [] behind (λ w. answered_id w.standing) n in
      let new = count-new before held [] behind (λ w. answered_id w.standing) n in
      let one = count-cons n id [] in
      let zero = zero-of n in
      omega (arith, old, new, one, zero)

  used-before : (n : ℕ) → count_of n (used_ids earlier) ≡ count_of n (used_ids later) + cond (id == n) 1 0
  used-before n =
      let before_all = count-used n earlier in
      let after_all = count-used n later in
      let waiting = unanswered-same n in
      let holding = held-before n in
      omega (arith, before_all, after_all, waiting, holding)

  few-later : length (before ++ held ∷ behind) ≤ max_questions → length (before ++ behind) ≤ max_questions
  few-later few =
      let old = length-append before (held ∷ behind) in
      let new = length-append before behind in
      omega (arith, few, old, new)

  client-later : IsSoundClient earlier → IsSoundClient later
  client-later c = record {
    wishes = record {
      few = few-later c.wishes.few;
      questions = differ-left before held behind c.wishes.questions;
      fit = left (λ w. IsTrue (is_question w.question)) c.wishes.fit;
    };
    ids = all-counted (used_ids later) (λ n some. counted (used_ids earlier) c.ids n (let was = used-before n in omega (arith, was, some)));
    distinct = λ n. let was = used-before n in let most = c.distinct n in omega (arith, was, most);
    last = c.last;
    asked = left (λ w. IsTrue (is_asked w.standing)) c.asked;
    begun = left (λ w. IsTrue (not (is_answered w.standing) || e.client_established)) c.begun;
  }

  -- ---- what comes down

  fits-later : (m : ServerMessage) → IsTrue (fits_request earlier m) → IsTrue (fits_request later m)
  fits-later (accepts other) h = mid-any before held [] behind (λ w. is_unanswered other w.standing && e.serves w.question) refl h
  fits-later (refuses other) h = mid-any before held [] behind (λ w. is_unanswered other w.standing && not (e.serves w.question)) refl h
  fits-later (grants other) h = h
  fits-later (tells notices) h = refl
  fits-later (delays rcode delay) h = refl

  module _ (taken : List Made) (flying : List Flying) (ups : List ClientMessage) where
    down-later : Downward earlier taken flying → Downward later taken flying
    down-later d = record {
      readable = d.readable;
      fits = all-weaken (λ (f : Flying). IsTrue (fits_request earlier f.says)) (λ f. IsTrue (fits_request later f.says)) (λ f h. fits-later f.says h) flying d.fits;
      awaited = λ n. let same = unanswered-same n in let most = d.awaited n in omega (arith, same, most);
      notices = left (TookNotices taken) d.notices;
      seen = left (λ w. IsTrue (is_seen e.told taken flying w)) d.seen;
      told = d.told;
      homeless = left (λ w. IsTrue (is_homeless e w)) d.homeless;
      established = d.established;
      speaks = d.speaks;
      first = d.first;
    }

    -- ---- what goes up

    abbrev ended : List ClientMessage
    ended = ups ++ unsubscribes id ∷ []

    once-later : (n : ℕ) → count_of n (unanswered_ids earlier) ≡ count_of n (request_ids ups) + count_of n (answer_ids flying)
        → count_of n (unanswered_ids later) ≡ count_of n (request_ids ended) + count_of n (answer_ids flying)
    once-later n once =
        let same = unanswered-same n in
        let up : count_of n (request_ids ended) ≡ count_of n (request_ids ups) = ap (count_of n) (filter_map-append request_id ups (unsubscribes id ∷ []) ∙ append-nil (request_ids ups)) in
        omega (arith, same, up, once)

    requested-later : (m : ClientMessage) → IsTrue (is_requested earlier m) → IsTrue (is_requested later m)
    requested-later (subscribes other question) h = mid-any before held [] behind (λ w. is_unanswered_as other question w) refl h
    requested-later (unsubscribes other) h = refl
    requested-later (reconfirms rr) h = refl
    requested-later (requests_keepalive other) h = h

    -- an answer that is active, by the wishes
    abbrev active_by : List Wish → ServerMessage → Bool
    active_by wishes (accepts other) = list_any (λ s. s.id == other && list_any (is_unanswered_as other s.question) wishes) e.subscriptions
    active_by wishes _ = true

    answers-later : (m : ServerMessage) → active_by (before ++ held ∷ behind) m ≡ true → active_by (before ++ behind) m ≡ true
    answers-later (accepts other) h =
        any-weaken (λ (s : Subscription). s.id == other && list_any (is_unanswered_as other s.question) (before ++ held ∷ behind)) (λ (s : Subscription). s.id == other && list_any (is_unanswered_as other s.question) (before ++ behind))
        (λ s i. and-weaken (s.id == other) (list_any (is_unanswered_as other s.question) (before ++ held ∷ behind)) (list_any (is_unanswered_as other s.question) (before ++ behind))
        (λ j. mid-any before held [] behind (λ w. is_unanswered_as other s.question w) refl j) i) e.subscriptions h
    answers-later (refuses other) h = refl
    answers-later (grants other) h = refl
    answers-later (tells notices) h = refl
    answers-later (delays rcode delay) h = refl

    go-later : (n : ℕ) → IsTrue (is_let_go earlier flying n) → IsTrue (is_let_go later flying n)
    go-later n h = isn't-held (list_any (λ (s : Subscription). s.id == n) e.subscriptions) (list_any (λ (w : Wish). is_held_with n w.standing) (before ++ held ∷ behind)) (list_any (λ (w : Wish). is_held_with n w.standing) (before ++ behind))
        (not (list_any (λ (f : Flying). accepts_id n f.says) flying)) (mid-none before held [] behind (λ w. is_held_with n w.standing) refl) h

    -- its subscription is active, it isn't held any more, and no answer to it comes down
    own-goes : IsSoundClient earlier → Downward earlier taken flying → Upward earlier flying ups → IsTrue (is_let_go later flying id)
    own-goes c d u =
        let most = c.distinct id in
        let used = count-used id earlier in
        let waiting = count-unanswered id earlier in
        let holding = held-before id in
        let one = itself id in
        let active = any-weaken (is_active_as id wish.question) (λ (s : Subscription). s.id == id)
        (λ s i. eq-eqb s.id id (sym (eqb-true id s.id (and_parts (id == s.id) (same_question wish.question s.question) i).0))) e.subscriptions (at-held (λ w. IsTrue (is_held_active e w)) u.held) in
        let let_go = none-held id (before ++ behind) (omega (arith, most, used, holding, one)) in
        let unaccepted = none-accepted earlier id (omega (arith, most, used, waiting, holding, one)) flying d.fits in
        and-three (list_any (λ (s : Subscription). s.id == id) e.subscriptions) (list_any (λ (w : Wish). is_held_with id w.standing) (before ++ behind)) (list_any (λ (f : Flying). accepts_id id f.says) flying) active let_go unaccepted

    -- what is held wasn't let go
    not-yet : (ids : List ℕ) → AllByRecursion (λ n. IsTrue (is_let_go earlier flying n)) ids → count_of id ids ≡ 0
    not-yet [] all = refl
    not-yet (n ∷ ids) all = by (n == id) refl (not-yet ids all.1)
      where
        by : (b : Bool) → (n == id) ≡ b → count_of id ids ≡ 0 → count_of id (n ∷ ids) ≡ 0
        by true is rest =
            let itself_held = any-at (λ w. is_held_with n w.standing) before held behind is in
            absurd (never-held (list_any (λ (s : Subscription). s.id == n) e.subscriptions) (not (list_any (λ (f : Flying). accepts_id n f.says) flying))
            (subst (λ t. (list_any (λ (s : Subscription). s.id == n) e.subscriptions && not t && not (list_any (λ (f : Flying). accepts_id n f.says) flying)) ≡ true) itself_held all.0))
        by false is rest =
            let first = count-cons id n ids in
            let none : cond (n == id) 1 0 ≡ 0 = ap (λ (b : Bool). cond {A = ℕ} b 1 0) is in
            omega (arith, first, none, rest)

    ends-one-more : unsubscribed_ids ended ≡ unsubscribed_ids ups ++ id ∷ []
    ends-one-more = filter_map-append unsubscribed_id ups (unsubscribes id ∷ [])

    once-more : (n : ℕ) (b : Bool) → (id == n) ≡ b → AllByRecursion (λ n. IsTrue (is_let_go earlier flying n)) (unsubscribed_ids ups) → count_of n (unsubscribed_ids ups) ≤ 1 → count_of n (unsubscribed_ids ups ++ id ∷ []) ≤ 1
    once-more n true is all most =
        let both = count-behind n id (unsubscribed_ids ups) in
        let one = count-cons n id [] in
        let own : cond (id == n) 1 0 ≡ 1 = ap (λ (b : Bool). cond {A = ℕ} b 1 0) is in
        let none : count_of n (unsubscribed_ids ups) ≡ 0 = subst (λ m. count_of m (unsubscribed_ids ups) ≡ 0) (eqb-true id n is) (not-yet (unsubscribed_ids ups) all) in
        let zero = zero-of n in
        omega (arith, both, one, own, none, zero)
    once-more n false is all most =
        let both = count-behind n id (unsubscribed_ids ups) in
        let one = count-cons n id [] in
        let own : cond (id == n) 1 0 ≡ 0 = ap (λ (b : Bool). cond {A = ℕ} b 1 0) is in
        let zero = zero-of n in
        omega (arith, both, one, own, most, zero)

    accounted-later : (s : Subscription) → IsTrue (is_accounted_for earlier flying ups s) → IsTrue (is_accounted_for later flying ended s)
    accounted-later s h = by (s.id == id) refl
      where
        by : (b : Bool) → (s.id == id) ≡ b → IsTrue (is_accounted_for later flying ended s)
        by true is = or-last (list_any (is_answered_as s.id s.question) (before ++ behind)) (list_any (λ (f : Flying). accepts_id s.id f.says) flying) (list_any (unsubscribes_id s.id) ended)
            (list_any-append (unsubscribes_id s.id) ups (unsubscribes id ∷ []) ∙ or-own (list_any (unsubscribes_id s.id) ups) (s.id == id) is)
        by false is = accounted-more later flying ups (unsubscribes id ∷ []) s
            (or-weaken (list_any (is_answered_as s.id s.question) (before ++ held ∷ behind)) (list_any (is_answered_as s.id s.question) (before ++ behind))
            (list_any (λ (f : Flying). accepts_id s.id f.says) flying) (list_any (unsubscribes_id s.id) ups)
            (mid-any before held [] behind (λ w. is_answered_as s.id s.question w) (ap (λ t. t && same_question s.question wish.question) is)) h)

    takes : IsSoundClient earlier → Downward earlier taken flying → (active : Active) → IsSome (taken_up e.established active (unsubscribes id))
    takes c d active =
        let begun = at-held (λ w. IsTrue (not (is_answered w.standing) || e.client_established)) c.begun in
        let session = is-established e.client_established e.established begun d.established in
        let was = used-before id in
        let one = itself id in
        let good = counted (used_ids earlier) c.ids id (omega (arith, was, one)) in
        ap is_some (taken_where (e.established && is_id id) (filter (λ (a : ℕ × Question). not (a.0 == id)) active) (and_from e.established (is_id id) session good))

    up-later : IsSoundClient earlier → Downward earlier taken flying → Upward earlier flying ups → Upward later flying ended
    up-later c d u = record {
      once = λ n. once-later n (u.once n);
      requests = all_behind (λ m. IsTrue (is_requested later m)) ups (unsubscribes id) (all-weaken (λ m. IsTrue (is_requested earlier m)) (λ m. IsTrue (is_requested later m)) (λ m h. requested-later m h) ups u.requests) refl;
      answers = all-weaken (λ f. IsTrue (is_active_answer earlier f)) (λ f. IsTrue (is_active_answer later f)) (λ (f : Flying) h. answers-later f.says h) flying u.answers;
      let_go = subst (AllByRecursion (λ n. IsTrue (is_let_go later flying n))) (sym ends-one-more)
          (all_behind (λ n. IsTrue (is_let_go later flying n)) (unsubscribed_ids ups) id (all-weaken (λ n. IsTrue (is_let_go earlier flying n)) (λ n. IsTrue (is_let_go later flying n)) (λ n h. go-later n h) (unsubscribed_ids ups) u.let_go) (own-goes c d u));
      let_go_once = λ n. subst (λ ids. count_of n ids ≤ 1) (sym ends-one-more) (once-more n (id == n) refl u.let_go (u.let_go_once n));
      held = left (λ w. IsTrue (is_held_active e w)) u.held;
      active = all-weaken (λ s. IsTrue (is_accounted_for earlier flying ups s)) (λ s. IsTrue (is_accounted_for later flying ended s)) (λ s h. accounted-later s h) e.subscriptions u.active;
      accepted = all_taken_up-more e.established (unsubscribes id) (takes c d) (asked_of e.subscriptions) ups u.accepted;
      no_delay = u.no_delay;
    }

    pub held-goes : FitsTogether earlier taken flying ups → FitsTogether later taken flying ended
    held-goes fit = record {
      timers = fit.timers;
      client = client-later fit.client;
      down = down-later fit.down;
      up = λ goes_on. up-later fit.client fit.down (fit.up goes_on);
    }

-- ---- the wish that is held

module _ (e : BothEnds) (taken : List Made) (flying : List Flying) (ups : List ClientMessage) (question : Question) (wish : Wish) (id : ℕ)
    (found : find (λ w. same_question w.question question) e.wishes ≡ Some wish) (is : wish.standing ≡ answered id) (fit : FitsTogether e taken flying ups) where
  its-place : Apart wish.question wish e.wishes
  its-place =
      let differ = questions-differ e.wishes fit.client.wishes.questions in
      apart wish.question wish e.wishes differ (found_own (λ w. same_question w.question question) e.wishes wish differ found)

  stands : wish ≡ record wish { standing = answered id }
  stands = ap (λ s. record wish { standing = s }) is

  apart-from : FitsTogether (record e { wishes = its-place.before ++ (record wish { standing = answered id }) ∷ its-place.behind }) taken flying ups
  apart-from = subst (λ ws. FitsTogether (record e { wishes = ws }) taken flying ups) (its-place.is ∙ ap (λ u. its-place.before ++ u ∷ its-place.behind) stands) fit

  without-it : FitsTogether (without_question wish.question e) taken flying (ups ++ unsubscribes id ∷ [])
  without-it = subst (λ ws. FitsTogether (record e { wishes = ws }) taken flying (ups ++ unsubscribes id ∷ [])) (sym its-place.left)
      (held-goes e its-place.before wish its-place.behind id taken flying ups apart-from)

pub held-dropped : HeldOnesAreDropped
held-dropped e taken flying ups question wish id found is fit = without-it e taken flying ups question wish id found is fit
