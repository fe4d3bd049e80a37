-- The client takes a refusal: the wish that waits for it stands refused, or goes where it was dropped.
--     refusals-taken      what is under way fits together without it
use Rattle.std.proofs.Common.{◌≡◌, ℕ, ◌+◌, ◌≤◌, Bool, true, false, not, ◌&&◌, ◌||◌, cond, List, [], ◌∷◌, ◌++◌, map, length, Some, sym, ap, ◌∙◌, subst, refl, true≢false, arith}
use Rattle.std.specs.Prelude.{IsTrue, find, flat_map, ◌==◌, if◌then◌else◌}
use Rattle.std.specs.List.{list_any, AllByRecursion, IsDistinct, cons_option}
use Rattle.std.proofs.lemmas.Bool.{eqb-true}
use Rattle.std.proofs.lemmas.List.{length-append}
use Rattle.push_base.specs.Limits.{max_questions}
use Rattle.rrset.specs.Rcodes.{notauth}
use Rattle.rrset.specs.Records.{same_question}
use Rattle.pushserver.specs.PlainHubs.{Made, Note, Subscription}
use Rattle.pushserver.proofs.hub_steps.Pairs.{all-weaken}
use Rattle.pushtelling.proofs.Quiet.{quiet-refusal_notauth}
use Rattle.pushclient.specs.Clients.{Wish, RequestState, not_asked, unanswered, refused, answered, without_wish}
use Rattle.pushclient.specs.Rule.{stood_wish}
use Rattle.pushclient.specs.ServerMessages.{ServerMessage, accepts, refuses, grants, tells, delays}
use Rattle.pushclient.specs.FittingMessages.{id_answered}
use Rattle.pushclient.specs.SoundClients.{count_of, question_of, is_asked}
use Rattle.pushclient.specs.Steps.{is_answered, is_unanswered}
use Rattle.pushclient.proofs.SoundWishes.{Apart, apart, found_own, find_holds, some_is, all_map}
use Rattle.inflight.specs.Messages.{ClientMessage, subscribes, unsubscribes, reconfirms, requests_keepalive, request_id, request_ids, unsubscribed_ids, unsubscribes_id, Flying, made_of, answer_ids, accepts_id}
use Rattle.inflight.specs.Ends.{BothEnds, is_id, is_question, is_held_with, is_unanswered_as, is_answered_as, unanswered_id, answered_id, unanswered_ids, used_ids, is_requested, fits_request}
use Rattle.inflight.specs.Flight.{IsSoundClient, Downward, Upward, FitsTogether, TookNotices, is_seen, is_homeless, is_active_answer, is_let_go, is_held_active, is_accounted_for}
use Rattle.flight_laws.specs.Laws.{flies, RefusalsAreTaken}
use Rattle.flight_laws.proofs.Counting.{count-append, count-unanswered, count-used}
use Rattle.flight_laws.proofs.Writing.{each-behind}
use Rattle.flight_laws.proofs.Taking.{count-cons, itself, notices-quiet, seen-rest}
use Rattle.flight_laws.proofs.FirstFits.{one-waits, counts-waiting, counted}
use Rattle.flight_laws.proofs.Replaced.{mid-all, mid-any, mid-none, count-old, count-new, Differ, differ-left, differ-replaced}

-- ---- IDs

pub all-counted : (ids : List ℕ) → ((id : ℕ) → 1 ≤ count_of id ids → is_id id ≡ true) → AllByRecursion (λ i. IsTrue (is_id i)) ids
all-counted [] each = tt
all-counted (u ∷ ids) each =
    let first = count-cons u u ids in
    let one = itself u in
    (each u (omega (arith, first, one)), all-counted ids (λ id some. each id (let more = count-cons id u ids in omega (arith, more, some))))

-- an ID that isn't among some is another than each of them
pub differs : (id other : ℕ) (ids : List ℕ) → count_of id (other ∷ ids) ≡ 0 → (other == id) ≡ false
differs id other ids none = by (other == id) refl
  where
    by : (b : Bool) → (other == id) ≡ b → b ≡ false
    by false is = refl
    by true is =
        let first = count-cons id other ids in
        let one : cond (other == id) 1 0 ≡ 1 = ap (λ (b : Bool). cond {A = ℕ} b 1 0) is in
        absurd (omega (arith, first, one, none))

pub fewer-behind : (id other : ℕ) (ids : List ℕ) → count_of id (other ∷ ids) ≡ 0 → count_of id ids ≡ 0
fewer-behind id other ids none = let first = count-cons id other ids in omega (arith, first, none)

pub behind-answer : (id : ℕ) (m : ServerMessage) (ids : List ℕ) → count_of id (cons_option (id_answered m) ids) ≡ 0 → count_of id ids ≡ 0
behind-answer id (accepts other) ids none = fewer-behind id other ids none
behind-answer id (refuses other) ids none = fewer-behind id other ids none
behind-answer id (grants other) ids none = fewer-behind id other ids none
behind-answer id (tells notices) ids none = none
behind-answer id (delays rcode delay) ids none = none

pub behind-request : (id : ℕ) (m : ClientMessage) (ids : List ℕ) → count_of id (cons_option (request_id m) ids) ≡ 0 → count_of id ids ≡ 0
behind-request id (subscribes other question) ids none = fewer-behind id other ids none
behind-request id (unsubscribes other) ids none = none
behind-request id (reconfirms rr) ids none = none
behind-request id (requests_keepalive other) ids none = fewer-behind id other ids none

-- ---- tests

pub any-weaken : {X : Type 0} (p q : X → Bool) → ((x : X) → p x ≡ true → q x ≡ true) → (xs : List X) → list_any p xs ≡ true → list_any q xs ≡ true
any-weaken p q step [] h = h
any-weaken p q step (x ∷ xs) h = by (p x) refl (q x) refl h (any-weaken p q step xs)
  where
    by : (b : Bool) → p x ≡ b → (c : Bool) → q x ≡ c → (b || list_any p xs) ≡ true → (list_any p xs ≡ true → list_any q xs ≡ true) → (c || list_any q xs) ≡ true
    by b is true also h rest = refl
    by true is false also h rest = absurd (true≢false (sym (step x is) ∙ also))
    by false is false also h rest = rest h

pub and-weaken : (a x y : Bool) → (x ≡ true → y ≡ true) → (a && x) ≡ true → (a && y) ≡ true
and-weaken true x y step h = step h
and-weaken false x y step h = h

pub or-weaken : (x y f u : Bool) → (x ≡ true → y ≡ true) → (x || f || u) ≡ true → (y || f || u) ≡ true
or-weaken true y f u step h = subst (λ t. (t || f || u) ≡ true) (sym (step refl)) refl
or-weaken false true f u step h = refl
or-weaken false false f u step h = h

pub isn't-held : (a x y f : Bool) → (x ≡ false → y ≡ false) → (a && not x && f) ≡ true → (a && not y && f) ≡ true
isn't-held true true y f step h = absurd (true≢false (sym h))
isn't-held false true y f step h = absurd (true≢false (sym h))
isn't-held a false y f step h = subst (λ t. (a && not t && f) ≡ true) (sym (step refl)) h

-- ---- the wish

pub waits-with : (id : ℕ) (s : RequestState) → is_unanswered id s ≡ true → s ≡ unanswered id
waits-with id not_asked h = absurd (true≢false (sym h))
waits-with id (unanswered other) h = ap (λ n. unanswered n) (sym (eqb-true id other h))
waits-with id (refused rcode) h = absurd (true≢false (sym h))
waits-with id (answered other) h = absurd (true≢false (sym h))

own-count : (id : ℕ) (s : RequestState) → s ≡ unanswered id → count_of id (unanswered_id s) ≡ 1
own-count id s is =
    let all : count_of id (unanswered_id s) ≡ count_of id (id ∷ []) = ap (λ t. count_of id (unanswered_id t)) is in
    let first = count-cons id id [] in
    let one = itself id in
    omega (arith, all, first, one)

-- where one wish waits with an ID, what is so of some that does is so of it
pub so-of-it : (id : ℕ) (r : Wish → Bool) (ws : List Wish) (w : Wish) → count_of id (flat_map (λ w. unanswered_id w.standing) ws) ≤ 1 → find (λ w. is_unanswered id w.standing) ws ≡ Some w
    → list_any (λ w. is_unanswered id w.standing && r w) ws ≡ true → r w ≡ true
so-of-it id r [] w most found h = absurd cc
so-of-it id r (v ∷ ws) w most found h = by (is_unanswered id v.standing) refl (r v) refl found h (so-of-it id r ws w)
  where
    by : (b : Bool) → is_unanswered id v.standing ≡ b → (c : Bool) → r v ≡ c → cond b (Some v) (find (λ w. is_unanswered id w.standing) ws) ≡ Some w
        → ((b && c) || list_any (λ w. is_unanswered id w.standing && r w) ws) ≡ true
        → (count_of id (flat_map (λ w. unanswered_id w.standing) ws) ≤ 1 → find (λ w. is_unanswered id w.standing) ws ≡ Some w → list_any (λ w. is_unanswered id w.standing && r w) ws ≡ true → r w ≡ true) → r w ≡ true
    by true is true so found h rest = subst (λ u. r u ≡ true) (some_is v w found) so
    by true is false so found h rest =
        let other = one-waits id r ws h in
        let more = counts-waiting id ws other.0 other.1 in
        let own = own-count id v.standing (waits-with id v.standing is) in
        let all = count-append id (unanswered_id v.standing) (flat_map (λ (u : Wish). unanswered_id u.standing) ws) in
        absurd (omega (arith, most, more, own, all))
    by false is c so found h rest =
        let all = count-append id (unanswered_id v.standing) (flat_map (λ (u : Wish). unanswered_id u.standing) ws) in
        rest (omega (arith, most, all)) found h

pub questions-differ : (ws : List Wish) → Differ ws → IsDistinct same_question (map question_of ws)
unfolding IsDistinct
questions-differ [] h = tt
questions-differ (w ∷ ws) h = (all_map (λ (y : Wish). same_question w.question y.question ≡ false) (λ q. same_question w.question q ≡ false) question_of (λ y i. i) ws h.0, questions-differ ws h.1)

-- ---- without it

module _ (e : BothEnds) (before : List Wish) (wish : Wish) (behind : List Wish) (id : ℕ) (b : Bool) where
  abbrev waits : Wish
  waits = record wish { standing = unanswered id }

  abbrev refusal : Wish
  refusal = record wish { standing = refused notauth; notices = [] }

  abbrev mid : List Wish
  mid = cond b (refusal ∷ []) []

  abbrev earlier : BothEnds
  earlier = record e { wishes = before ++ waits ∷ behind }

  abbrev later : BothEnds
  later = record e { wishes = before ++ (mid ++ behind) }

  replaced : (P : Wish → Type 0) → (P waits → P refusal) → AllByRecursion P (before ++ waits ∷ behind) → AllByRecursion P (before ++ (mid ++ behind))
  replaced P step all = mid-all before waits mid behind P (by b) all
    where
      by : (t : Bool) → AllByRecursion P (cond t (refusal ∷ []) [])
      by true = (step (each-behind P before (waits ∷ behind) all).0, tt)
      by false = tt

  none-waits : (n : ℕ) → count_of n (flat_map (λ w. unanswered_id w.standing) mid) ≡ 0
  none-waits n = by b
    where
      by : (t : Bool) → count_of n (flat_map (λ w. unanswered_id w.standing) (cond t (refusal ∷ []) [])) ≡ 0
      by true = refl
      by false = refl

  none-held : (n : ℕ) → count_of n (flat_map (λ w. answered_id w.standing) mid) ≡ 0
  none-held n = by b
    where
      by : (t : Bool) → count_of n (flat_map (λ w. answered_id w.standing) (cond t (refusal ∷ []) [])) ≡ 0
      by true = refl
      by false = refl

  waiting-before : (n : ℕ) → count_of n (unanswered_ids earlier) ≡ count_of n (unanswered_ids later) + cond (id == n) 1 0
  waiting-before n =
      let before_all = count-unanswered n earlier in
      let after_all = count-unanswered n later in
      let old = count-old before waits mid behind (λ w. unanswered_id w.standing) n in
      let new = count-new before waits mid behind (λ w. unanswered_id w.standing) n in
      let one = count-cons n id [] in
      let none = none-waits n in
      omega (arith, before_all, after_all, old, new, one, none)

  used-before : (n : ℕ) → count_of n (used_ids earlier) ≡ count_of n (used_ids later) + cond (id == n) 1 0
  used-before n =
      let before_all = count-used n earlier in
      let after_all = count-used n later in
      let old = count-old before waits mid behind (λ w. answered_id w.standing) n in
      let new = count-new before waits mid behind (λ w. answered_id w.standing) n in
      let waiting = waiting-before n in
      let none = none-held n in
      omega (arith, before_all, after_all, old, new, waiting, none)

  -- ---- the client

  few-later : length (before ++ waits ∷ behind) ≤ max_questions → length (before ++ (mid ++ behind)) ≤ max_questions
  few-later few =
      let old = length-append before (waits ∷ behind) in
      let new = length-append before (mid ++ behind) in
      let more = length-append mid behind in
      let short = by b in
      omega (arith, few, old, new, more, short)
    where
      by : (t : Bool) → length (cond t (refusal ∷ []) []) ≤ 1
      by true = omega arith
      by false = omega arith

  differ-later : (t : Bool) → Differ (before ++ waits ∷ behind) → Differ (before ++ (cond t (refusal ∷ []) [] ++ behind))
  differ-later true h = differ-replaced before waits refusal behind refl h
  differ-later false h = differ-left before waits behind h

  client-later : IsSoundClient earlier → IsSoundClient later
  client-later c = record {
    wishes = record {
      few = few-later c.wishes.few;
      questions = differ-later b c.wishes.questions;
      fit = replaced (λ w. IsTrue (is_question w.question)) (λ h. h) c.wishes.fit;
    };
    ids = all-counted (used_ids later) (λ n some. counted (used_ids earlier) c.ids n (let was = used-before n in omega (arith, was, some)));
    distinct = λ n. let was = used-before n in let most = c.distinct n in omega (arith, was, most);
    last = c.last;
    asked = replaced (λ w. IsTrue (is_asked w.standing)) (λ h. refl) c.asked;
    begun = replaced (λ w. IsTrue (not (is_answered w.standing) || e.client_established)) (λ h. refl) c.begun;
  }

  -- ---- the rest that comes down

  fits-other : (m : ServerMessage) (ids : List ℕ) → count_of id (cons_option (id_answered m) ids) ≡ 0 → IsTrue (fits_request earlier m) → IsTrue (fits_request later m)
  fits-other (accepts other) ids none h = mid-any before waits mid behind (λ w. is_unanswered other w.standing && e.serves w.question) (ap (λ t. t && e.serves wish.question) (differs id other ids none)) h
  fits-other (refuses other) ids none h = mid-any before waits mid behind (λ w. is_unanswered other w.standing && not (e.serves w.question)) (ap (λ t. t && not (e.serves wish.question)) (differs id other ids none)) h
  fits-other (grants other) ids none h = h
  fits-other (tells notices) ids none h = refl
  fits-other (delays rcode delay) ids none h = refl

  fits-rest : (flying : List Flying) → count_of id (answer_ids flying) ≡ 0 → AllByRecursion (λ f. IsTrue (fits_request earlier f.says)) flying → AllByRecursion (λ f. IsTrue (fits_request later f.says)) flying
  fits-rest [] none all = tt
  fits-rest (f ∷ flying) none all = (fits-other f.says (answer_ids flying) none all.0, fits-rest flying (behind-answer id f.says (answer_ids flying) none) all.1)

  module _ (taken : List Made) (fs : List Flying) (ups : List ClientMessage) (note : Note) (subscribed : List Subscription) where
    abbrev the_refusal : Flying
    the_refusal = flies (refuses id) note subscribed

    none-left : count_of id (id ∷ answer_ids fs) ≤ count_of id (unanswered_ids earlier) → count_of id (used_ids earlier) ≤ 1 → count_of id (answer_ids fs) ≡ 0
    none-left awaited most =
        let first = count-cons id id (answer_ids fs) in
        let one = itself id in
        let used = count-used id earlier in
        omega (arith, first, one, used, awaited, most)

    awaited-rest : (n : ℕ) → count_of n (id ∷ answer_ids fs) ≤ count_of n (unanswered_ids earlier) → count_of n (answer_ids fs) ≤ count_of n (unanswered_ids later)
    awaited-rest n most =
        let first = count-cons n id (answer_ids fs) in
        let was = waiting-before n in
        omega (arith, first, was, most)

    down-later : not (e.serves wish.question) ≡ true → IsSoundClient earlier → Downward earlier taken (the_refusal ∷ fs) → Downward later (taken ++ made_of e.timers the_refusal ∷ []) fs
    down-later away c d = record {
      readable = d.readable.1;
      fits = fits-rest fs (none-left (d.awaited id) (c.distinct id)) d.fits.1;
      awaited = λ n. awaited-rest n (d.awaited n);
      notices = replaced (TookNotices (taken ++ made_of e.timers the_refusal ∷ [])) (λ h. tt) (notices-quiet taken (made_of e.timers the_refusal) (quiet-refusal_notauth id) (before ++ waits ∷ behind) d.notices);
      seen = replaced (λ w. IsTrue (is_seen e.told (taken ++ made_of e.timers the_refusal ∷ []) fs w)) (λ h. refl) (seen-rest e.told e.timers taken the_refusal fs (λ other. refl) (before ++ waits ∷ behind) d.seen);
      told = d.told;
      homeless = replaced (λ w. IsTrue (is_homeless e w)) (λ h. away) d.homeless;
      established = d.established;
      speaks = d.speaks.1;
      first = d.first;
    }

    -- ---- what goes up

    once-rest : (n : ℕ) → count_of n (unanswered_ids earlier) ≡ count_of n (request_ids ups) + count_of n (id ∷ answer_ids fs)
        → count_of n (unanswered_ids later) ≡ count_of n (request_ids ups) + count_of n (answer_ids fs)
    once-rest n once =
        let first = count-cons n id (answer_ids fs) in
        let was = waiting-before n in
        omega (arith, first, was, once)

    none-up : count_of id (unanswered_ids earlier) ≡ count_of id (request_ids ups) + count_of id (id ∷ answer_ids fs) → count_of id (used_ids earlier) ≤ 1 → count_of id (request_ids ups) ≡ 0
    none-up once most =
        let first = count-cons id id (answer_ids fs) in
        let one = itself id in
        let used = count-used id earlier in
        omega (arith, first, one, used, once, most)

    requested-other : (m : ClientMessage) (ids : List ℕ) → count_of id (cons_option (request_id m) ids) ≡ 0 → IsTrue (is_requested earlier m) → IsTrue (is_requested later m)
    requested-other (subscribes other question) ids none h = mid-any before waits mid behind (λ w. is_unanswered_as other question w) (ap (λ t. t && same_question question wish.question) (differs id other ids none)) h
    requested-other (unsubscribes other) ids none h = refl
    requested-other (reconfirms rr) ids none h = refl
    requested-other (requests_keepalive other) ids none h = h

    requests-rest : (up : List ClientMessage) → count_of id (request_ids up) ≡ 0 → AllByRecursion (λ m. IsTrue (is_requested earlier m)) up → AllByRecursion (λ m. IsTrue (is_requested later m)) up
    requests-rest [] none all = tt
    requests-rest (m ∷ up) none all = (requested-other m (request_ids up) none all.0, requests-rest up (behind-request id m (request_ids up) none) all.1)

    -- an answer that is active, by the wishes
    abbrev active_by : List Wish → ServerMessage → Bool
    active_by wishes (accepts other) = list_any (λ s. s.id == other && list_any (is_unanswered_as other s.question) wishes) e.subscriptions
    active_by wishes _ = true

    answers-other : (m : ServerMessage) (ids : List ℕ) → count_of id (cons_option (id_answered m) ids) ≡ 0 → active_by (before ++ waits ∷ behind) m ≡ true → active_by (before ++ (mid ++ behind)) m ≡ true
    answers-other (accepts other) ids none h =
        any-weaken (λ (s : Subscription). s.id == other && list_any (is_unanswered_as other s.question) (before ++ waits ∷ behind)) (λ (s : Subscription). s.id == other && list_any (is_unanswered_as other s.question) (before ++ (mid ++ behind)))
        (λ s i. and-weaken (s.id == other) (list_any (is_unanswered_as other s.question) (before ++ waits ∷ behind)) (list_any (is_unanswered_as other s.question) (before ++ (mid ++ behind)))
        (λ j. mid-any before waits mid behind (λ w. is_unanswered_as other s.question w) (ap (λ t. t && same_question s.question wish.question) (differs id other ids none)) j) i) e.subscriptions h
    answers-other (refuses other) ids none h = refl
    answers-other (grants other) ids none h = refl
    answers-other (tells notices) ids none h = refl
    answers-other (delays rcode delay) ids none h = refl

    answers-rest : (flying : List Flying) → count_of id (answer_ids flying) ≡ 0 → AllByRecursion (λ f. IsTrue (is_active_answer earlier f)) flying → AllByRecursion (λ f. IsTrue (is_active_answer later f)) flying
    answers-rest [] none all = tt
    answers-rest (f ∷ flying) none all = (answers-other f.says (answer_ids flying) none all.0, answers-rest flying (behind-answer id f.says (answer_ids flying) none) all.1)

    not-held : (n : ℕ) → list_any (λ w. is_held_with n w.standing) (before ++ waits ∷ behind) ≡ false → list_any (λ w. is_held_with n w.standing) (before ++ (mid ++ behind)) ≡ false
    not-held n h = mid-none before waits mid behind (λ w. is_held_with n w.standing) (by b) h
      where
        by : (t : Bool) → list_any (λ w. is_held_with n w.standing) (cond t (refusal ∷ []) []) ≡ false
        by true = refl
        by false = refl

    go-later : (n : ℕ) → IsTrue (is_let_go earlier fs n) → IsTrue (is_let_go later fs n)
    go-later n h = isn't-held (list_any (λ (s : Subscription). s.id == n) e.subscriptions) (list_any (λ (w : Wish). is_held_with n w.standing) (before ++ waits ∷ behind)) (list_any (λ (w : Wish). is_held_with n w.standing) (before ++ (mid ++ behind)))
        (not (list_any (λ (f : Flying). accepts_id n f.says) fs)) (not-held n) h

    accounted-later : (s : Subscription) → IsTrue (is_accounted_for earlier fs ups s) → IsTrue (is_accounted_for later fs ups s)
    accounted-later s h = or-weaken (list_any (is_answered_as s.id s.question) (before ++ waits ∷ behind)) (list_any (is_answered_as s.id s.question) (before ++ (mid ++ behind)))
        (list_any (λ (f : Flying). accepts_id s.id f.says) fs) (list_any (unsubscribes_id s.id) ups) (mid-any before waits mid behind (λ w. is_answered_as s.id s.question w) refl) h

    up-later : IsSoundClient earlier → Upward earlier (the_refusal ∷ fs) ups → count_of id (answer_ids fs) ≡ 0 → Upward later fs ups
    up-later c u none = record {
      once = λ n. once-rest n (u.once n);
      requests = requests-rest ups (none-up (u.once id) (c.distinct id)) u.requests;
      answers = answers-rest fs none u.answers.1;
      let_go = all-weaken (λ n. IsTrue (is_let_go earlier fs n)) (λ n. IsTrue (is_let_go later fs n)) (λ n h. go-later n h) (unsubscribed_ids ups) u.let_go;
      let_go_once = u.let_go_once;
      held = replaced (λ w. IsTrue (is_held_active e w)) (λ h. refl) u.held;
      active = all-weaken (λ s. IsTrue (is_accounted_for earlier fs ups s)) (λ s. IsTrue (is_accounted_for later fs ups s)) (λ s h. accounted-later s h) e.subscriptions u.active;
      accepted = u.accepted;
      no_delay = u.no_delay.1;
    }

    pub refusal-taken : not (e.serves wish.question) ≡ true → FitsTogether earlier taken (the_refusal ∷ fs) ups → FitsTogether later (taken ++ made_of e.timers the_refusal ∷ []) fs ups
    refusal-taken away fit = record {
      timers = fit.timers;
      client = client-later fit.client;
      down = down-later away fit.client fit.down;
      up = λ goes_on. up-later fit.client (fit.up goes_on) (none-left (fit.down.awaited id) (fit.client.distinct id));
    }

-- ---- the wish that waits

module _ (e : BothEnds) (taken : List Made) (fs : List Flying) (ups : List ClientMessage) (id : ℕ) (note : Note) (subscribed : List Subscription) (wish : Wish)
    (found : find (λ w. is_unanswered id w.standing) e.wishes ≡ Some wish) (fit : FitsTogether e taken (flies (refuses id) note subscribed ∷ fs) ups) where
  abbrev made : Made
  made = made_of e.timers (flies (refuses id) note subscribed)

  once-waits : count_of id (flat_map (λ w. unanswered_id w.standing) e.wishes) ≤ 1
  once-waits =
      let used = count-used id e in
      let waiting = count-unanswered id e in
      let most = fit.client.distinct id in
      omega (arith, used, waiting, most)

  away : not (e.serves wish.question) ≡ true
  away = so-of-it id (λ w. not (e.serves w.question)) e.wishes wish once-waits found fit.down.fits.0

  its-place : Apart wish.question wish e.wishes
  its-place =
      let differ = questions-differ e.wishes fit.client.wishes.questions in
      apart wish.question wish e.wishes differ (found_own (λ w. is_unanswered id w.standing) e.wishes wish differ found)

  stands : wish ≡ record wish { standing = unanswered id }
  stands = ap (λ s. record wish { standing = s }) (waits-with id wish.standing (find_holds (λ w. is_unanswered id w.standing) e.wishes wish found))

  apart-from : FitsTogether (record e { wishes = its-place.before ++ (record wish { standing = unanswered id }) ∷ its-place.behind }) taken (flies (refuses id) note subscribed ∷ fs) ups
  apart-from = subst (λ ws. FitsTogether (record e { wishes = ws }) taken (flies (refuses id) note subscribed ∷ fs) ups) (its-place.is ∙ ap (λ u. its-place.before ++ u ∷ its-place.behind) stands) fit

  by-wanted : (t : Bool) → FitsTogether (record e { wishes = if t then map (stood_wish wish.question (refused notauth)) e.wishes else without_wish wish.question e.wishes }) (taken ++ made ∷ []) fs ups
  by-wanted true = subst (λ ws. FitsTogether (record e { wishes = ws }) (taken ++ made ∷ []) fs ups) (sym (its-place.changed (λ w. record w { standing = refused notauth; notices = [] })))
      (refusal-taken e its-place.before wish its-place.behind id true taken fs ups note subscribed away apart-from)
  by-wanted false = subst (λ ws. FitsTogether (record e { wishes = ws }) (taken ++ made ∷ []) fs ups) (sym its-place.left)
      (refusal-taken e its-place.before wish its-place.behind id false taken fs ups note subscribed away apart-from)

pub refusals-taken : RefusalsAreTaken
refusals-taken e taken fs ups id note subscribed fit =
    let one = one-waits id (λ w. not (e.serves w.question)) e.wishes fit.down.fits.0 in
    (one.0, one.1, by-wanted e taken fs ups id note subscribed one.0 one.1 fit one.0.wanted)
