-- The client takes the first message that comes down: one that is no answer to a SUBSCRIBE and tells nothing.
--     delay-taken, grant-taken      what is under way fits together without it
use Rattle.std.proofs.Common.{◌≡◌, ℕ, ◌+◌, ◌≤◌, Bool, true, false, not, ◌||◌, cond, List, [], ◌∷◌, ◌++◌, map, Option, Some, None, sym, ap, ◌∙◌, subst, refl, true≢false, arith}
use Rattle.std.specs.Prelude.{IsTrue, option_to_list, ◌==◌}
use Rattle.std.specs.List.{list_any, AllByRecursion, cons_option}
use Rattle.std.proofs.lemmas.Bool.{and_parts, or_left, or_right, eqb-true, eq-eqb}
use Rattle.std.proofs.lemmas.List.{append-nil}
use Rattle.std.proofs.lemmas.List.Sums.{sum_by-cons}
use Rattle.rrset.specs.declared.record.Question.{Question}
use Rattle.dsotlv.specs.declared.message.Notice.{Notice}
use Rattle.dsosession.specs.declared.session.Timers.{Timers}
use Rattle.coalesce.proofs.ReadBack.{each-append}
use Rattle.coalesce.proofs.Packing.{each-front}
use Rattle.pushserver.specs.PlainHubs.{Made, Note, Subscription}
use Rattle.pushserver.specs.ToldMessages.{notices_since}
use Rattle.pushserver.proofs.hub_steps.Pairs.{all-weaken}
use Rattle.pushtelling.proofs.Tells.{IsQuiet}
use Rattle.pushtelling.proofs.Quiet.{quiet-grant, quiet-stop}
use Rattle.pushtelling.proofs.Messages.{notices_since-append}
use Rattle.pushclient.specs.Clients.{Wish, RequestState, not_asked, unanswered, refused, answered}
use Rattle.inflight.specs.Messages.{ClientMessage, subscribes, unsubscribes, reconfirms, requests_keepalive, request_id, request_ids, Flying, made_of, answer_ids, accepts_id, answer_comes_first}
use Rattle.inflight.specs.Ends.{BothEnds, is_id, unanswered_ids, used_ids, is_keepalive_out, is_requested, fits_request, subscribed_at_last}
use Rattle.flight_laws.specs.Laws.{flies, with_grant, GrantsAreTaken}
use Rattle.inflight.specs.Flight.{IsSoundClient, Downward, Upward, FitsTogether, TookNotices, is_listed, is_so_along, is_seen}
use Rattle.flight_laws.proofs.Counting.{count-unanswered, count-used, waiting_ids, held_ids}
use Rattle.flight_laws.proofs.Writing.{each-behind}
use Rattle.pushclient.specs.ServerMessages.{ServerMessage, accepts, refuses, grants, tells, delays}
use Rattle.pushclient.specs.FittingMessages.{id_answered}
use Rattle.pushclient.specs.SoundClients.{count_of}
use Rattle.pushclient.specs.Steps.{is_answered}

-- ---- one message more is taken

pub last-subscribed : (taken : List Made) (m : Made) → subscribed_at_last (taken ++ m ∷ []) ≡ m.subscribed
last-subscribed [] m = refl
last-subscribed (x ∷ []) m = refl
last-subscribed (x ∷ y ∷ ys) m = last-subscribed (y ∷ ys) m

-- by how a wish stands
abbrev pub Took : List Made → List Notice → RequestState → Type 0
Took taken notices not_asked = Unit {0}
Took taken notices (unanswered id) = Unit {0}
Took taken notices (refused rcode) = Unit {0}
Took taken notices (answered id) = notices ≡ notices_since id taken

took-quiet : (taken : List Made) (m : Made) → IsQuiet m.message → (notices : List Notice) (standing : RequestState) → Took taken notices standing → Took (taken ++ m ∷ []) notices standing
took-quiet taken m quiet notices not_asked h = h
took-quiet taken m quiet notices (unanswered id) h = h
took-quiet taken m quiet notices (refused rcode) h = h
took-quiet taken m quiet notices (answered id) h =
    h ∙ sym (notices_since-append id taken m (quiet.1 id) ∙ ap (λ ns. notices_since id taken ++ ns) quiet.0 ∙ append-nil (notices_since id taken))

-- a message that says nothing of subscriptions adds no notices
pub notices-quiet : (taken : List Made) (m : Made) → IsQuiet m.message → (wishes : List Wish) → AllByRecursion (TookNotices taken) wishes → AllByRecursion (TookNotices (taken ++ m ∷ [])) wishes
notices-quiet taken m quiet wishes all = all-weaken (TookNotices taken) (TookNotices (taken ++ m ∷ [])) (λ (w : Wish) h. took-quiet taken m quiet w.notices w.standing h) wishes all

abbrev pub Seen : List (ℕ × ℕ) → Question → List Subscription → List Flying → RequestState → Bool
Seen told question subscribed flying not_asked = true
Seen told question subscribed flying (unanswered id) = is_so_along (is_listed told id question) id false subscribed flying
Seen told question subscribed flying (refused rcode) = true
Seen told question subscribed flying (answered id) = is_so_along (is_listed told id question) id true subscribed flying

module _ (told : List (ℕ × ℕ)) (timers : Timers) (taken : List Made) (f : Flying) (fs : List Flying) (other : (id : ℕ) → accepts_id id f.says ≡ false) where
  seen-next : (question : Question) (standing : RequestState) → Seen told question (subscribed_at_last taken) (f ∷ fs) standing ≡ true → Seen told question f.subscribed fs standing ≡ true
  seen-next question not_asked h = refl
  seen-next question (refused rcode) h = refl
  seen-next question (answered id) h = (and_parts (is_listed told id question (subscribed_at_last taken)) (is_so_along (is_listed told id question) id true f.subscribed fs) h).1
  seen-next question (unanswered id) h = subst (λ t. is_so_along (is_listed told id question) id t f.subscribed fs ≡ true) (other id) h

  -- what was seen along the messages is seen along the rest
  pub seen-rest : (wishes : List Wish) → AllByRecursion (λ w. IsTrue (is_seen told taken (f ∷ fs) w)) wishes
      → AllByRecursion (λ w. IsTrue (is_seen told (taken ++ made_of timers f ∷ []) fs w)) wishes
  seen-rest wishes all = all-weaken (λ w. IsTrue (is_seen told taken (f ∷ fs) w)) (λ w. IsTrue (is_seen told (taken ++ made_of timers f ∷ []) fs w))
      (λ (w : Wish) h. subst (λ s. Seen told w.question s fs w.standing ≡ true) (sym (last-subscribed taken (made_of timers f))) (seen-next w.question w.standing h)) wishes all

-- ---- Retry Delay

module _ (e : BothEnds) (taken : List Made) (fs : List Flying) (ups : List ClientMessage) (rcode delay : ℕ) (note : Note) (subscribed : List Subscription) where
  abbrev the_delay : Flying
  the_delay = flies (delays rcode delay) note subscribed

  still-first : (a b : Bool) → (a || false) ≡ true → (a || b) ≡ true
  still-first true b h = refl
  still-first false b h = absurd (true≢false (sym h))

  delay-down : Downward e taken (the_delay ∷ fs) → Downward e (taken ++ made_of e.timers the_delay ∷ []) fs
  delay-down d = record {
    readable = d.readable.1;
    fits = d.fits.1;
    awaited = d.awaited;
    notices = notices-quiet taken (made_of e.timers the_delay) (quiet-stop rcode delay) e.wishes d.notices;
    seen = seen-rest e.told e.timers taken the_delay fs (λ id. refl) e.wishes d.seen;
    told = d.told;
    homeless = d.homeless;
    established = d.established;
    speaks = d.speaks.1;
    first = still-first (not e.established || e.client_established) (answer_comes_first (map (λ (f : Flying). f.says) fs)) d.first;
  }

  -- the client takes a Retry Delay, and closes; its session doesn't go on (RFC 8490, 6.6.1)
  pub delay-taken : FitsTogether e taken (the_delay ∷ fs) ups → FitsTogether e (taken ++ made_of e.timers the_delay ∷ []) fs ups
  delay-taken fit = record {
    timers = fit.timers;
    client = fit.client;
    down = delay-down fit.down;
    up = λ goes_on. absurd (true≢false (sym (fit.up goes_on).no_delay.0));
  }

-- ---- the answer to a Keepalive

pub is-out : (id : ℕ) (o : Option ℕ) → list_any (λ k. k == id) (option_to_list o) ≡ true → o ≡ Some id
is-out id None h = absurd (true≢false (sym h))
is-out id (Some k) h = by (k == id) refl h
  where
    by : (b : Bool) → (k == id) ≡ b → (b || false) ≡ true → Some k ≡ Some id
    by true is h = ap (λ n. Some n) (eqb-true k id is)
    by false is h = absurd (true≢false (sym h))

pub count-cons : (n id : ℕ) (ids : List ℕ) → count_of n (id ∷ ids) ≡ cond (id == n) 1 0 + count_of n ids
count-cons n id ids = sum_by-cons (λ m. cond (m == n) 1 0) id ids

pub itself : (n : ℕ) → cond {A = ℕ} (n == n) 1 0 ≡ 1
itself n = ap (λ (b : Bool). cond {A = ℕ} b 1 0) (eq-eqb n n refl)

module _ (e : BothEnds) (taken : List Made) (fs : List Flying) (ups : List ClientMessage) (id : ℕ) (note : Note) (subscribed : List Subscription) (out : e.keepalive_out ≡ Some id) where
  abbrev the_grant : Flying
  the_grant = flies (grants id) note subscribed

  one-waits : (n : ℕ) → count_of n (option_to_list e.keepalive_out) ≡ cond (id == n) 1 0 + 0
  one-waits n = ap (λ o. count_of n (option_to_list o)) out ∙ count-cons n id []

  unanswered-before : (n : ℕ) → count_of n (unanswered_ids e) ≡ count_of n (unanswered_ids (with_grant e)) + cond (id == n) 1 0
  unanswered-before n =
      let before = count-unanswered n e in
      let after = count-unanswered n (with_grant e) in
      let one = one-waits n in
      omega (arith, before, after, one)

  used-before : (n : ℕ) → count_of n (used_ids e) ≡ count_of n (used_ids (with_grant e)) + cond (id == n) 1 0
  used-before n =
      let before = count-used n e in
      let after = count-used n (with_grant e) in
      let waiting = unanswered-before n in
      omega (arith, before, after, waiting)

  -- only one Keepalive is out
  only-out : (other : ℕ) → is_keepalive_out other e ≡ true → id ≡ other
  only-out other h = same (sym out ∙ is-out other e.keepalive_out h)
    where
      same : Some id ≡ Some other → id ≡ other
      same s = cc

  good-rest : AllByRecursion (λ i. IsTrue (is_id i)) (used_ids e) → AllByRecursion (λ i. IsTrue (is_id i)) (used_ids (with_grant e))
  good-rest all =
      let P : ℕ → Type 0 = λ i. IsTrue (is_id i) in
      let front = each-front P (unanswered_ids e) (held_ids e) all in
      let waiting = each-front P (waiting_ids e) (option_to_list e.keepalive_out) front in
      each-append P (unanswered_ids (with_grant e)) (held_ids e) (each-append P (waiting_ids e) [] waiting tt) (each-behind P (unanswered_ids e) (held_ids e) all)

  fewer : (n : ℕ) → count_of n (used_ids e) ≤ 1 → count_of n (used_ids (with_grant e)) ≤ 1
  fewer n most = let before = used-before n in omega (arith, before, most)

  grant-client : IsSoundClient e → IsSoundClient (with_grant e)
  grant-client c = record {
    wishes = c.wishes;
    ids = good-rest c.ids;
    distinct = λ n. fewer n (c.distinct n);
    last = c.last;
    asked = c.asked;
    begun = all-weaken (λ (w : Wish). IsTrue (not (is_answered w.standing) || e.client_established)) (λ w. IsTrue (not (is_answered w.standing) || true)) (λ (w : Wish) h. or_right (not (is_answered w.standing)) true refl) e.wishes c.begun;
  }

  -- no other answer with its ID comes down, and no request with it goes up
  none-left : (ids : List ℕ) → count_of id (id ∷ ids) ≤ count_of id (unanswered_ids e) → count_of id (used_ids e) ≤ 1 → count_of id ids ≡ 0
  none-left ids awaited most =
      let first = count-cons id id ids in
      let one = itself id in
      let used = count-used id e in
      omega (arith, first, one, used, awaited, most)

  never : (other : ℕ) (ids : List ℕ) → count_of id (other ∷ ids) ≡ 0 → is_keepalive_out other e ≡ true → ⊥
  never other ids none h =
      let first = count-cons id other ids in
      let one : cond (other == id) 1 0 ≡ 1 = ap (λ (b : Bool). cond {A = ℕ} b 1 0) (eq-eqb other id (sym (only-out other h))) in
      omega (arith, first, one, none)

  behind-none : (other : ℕ) (ids : List ℕ) → count_of id (other ∷ ids) ≡ 0 → count_of id ids ≡ 0
  behind-none other ids none = let first = count-cons id other ids in omega (arith, first, none)

  answers-behind : (m : ServerMessage) (ids : List ℕ) → count_of id (cons_option (id_answered m) ids) ≡ 0 → count_of id ids ≡ 0
  answers-behind (accepts other) ids none = behind-none other ids none
  answers-behind (refuses other) ids none = behind-none other ids none
  answers-behind (grants other) ids none = behind-none other ids none
  answers-behind (tells notices) ids none = none
  answers-behind (delays rcode delay) ids none = none

  fits-still : (m : ServerMessage) (ids : List ℕ) → count_of id (cons_option (id_answered m) ids) ≡ 0 → IsTrue (fits_request e m) → IsTrue (fits_request (with_grant e) m)
  fits-still (accepts other) ids none h = h
  fits-still (refuses other) ids none h = h
  fits-still (grants other) ids none h = absurd (never other ids none h)
  fits-still (tells notices) ids none h = refl
  fits-still (delays rcode delay) ids none h = refl

  fits-rest : (flying : List Flying) → count_of id (answer_ids flying) ≡ 0 → AllByRecursion (λ f. IsTrue (fits_request e f.says)) flying → AllByRecursion (λ f. IsTrue (fits_request (with_grant e) f.says)) flying
  fits-rest [] none all = tt
  fits-rest (f ∷ flying) none all = (fits-still f.says (answer_ids flying) none all.0, fits-rest flying (answers-behind f.says (answer_ids flying) none) all.1)

  requests-behind : (m : ClientMessage) (ids : List ℕ) → count_of id (cons_option (request_id m) ids) ≡ 0 → count_of id ids ≡ 0
  requests-behind (subscribes other question) ids none = behind-none other ids none
  requests-behind (unsubscribes other) ids none = none
  requests-behind (reconfirms rr) ids none = none
  requests-behind (requests_keepalive other) ids none = behind-none other ids none

  requested-still : (m : ClientMessage) (ids : List ℕ) → count_of id (cons_option (request_id m) ids) ≡ 0 → IsTrue (is_requested e m) → IsTrue (is_requested (with_grant e) m)
  requested-still (subscribes other question) ids none h = h
  requested-still (unsubscribes other) ids none h = refl
  requested-still (reconfirms rr) ids none h = refl
  requested-still (requests_keepalive other) ids none h = absurd (never other ids none h)

  requests-rest : (up : List ClientMessage) → count_of id (request_ids up) ≡ 0 → AllByRecursion (λ m. IsTrue (is_requested e m)) up → AllByRecursion (λ m. IsTrue (is_requested (with_grant e) m)) up
  requests-rest [] none all = tt
  requests-rest (m ∷ up) none all = (requested-still m (request_ids up) none all.0, requests-rest up (requests-behind m (request_ids up) none) all.1)

  awaited-rest : (n : ℕ) → count_of n (id ∷ answer_ids fs) ≤ count_of n (unanswered_ids e) → count_of n (answer_ids fs) ≤ count_of n (unanswered_ids (with_grant e))
  awaited-rest n most =
      let first = count-cons n id (answer_ids fs) in
      let before = unanswered-before n in
      omega (arith, first, before, most)

  speaking : (b : Bool) → (b || false) ≡ true → b ≡ true
  speaking true h = refl
  speaking false h = absurd (true≢false (sym h))

  grant-down : IsSoundClient e → Downward e taken (the_grant ∷ fs) → Downward (with_grant e) (taken ++ made_of e.timers the_grant ∷ []) fs
  grant-down c d = record {
    readable = d.readable.1;
    fits = fits-rest fs (none-left (answer_ids fs) (d.awaited id) (c.distinct id)) d.fits.1;
    awaited = λ n. awaited-rest n (d.awaited n);
    notices = notices-quiet taken (made_of e.timers the_grant) (quiet-grant id e.timers.inactivity e.timers.keepalive) e.wishes d.notices;
    seen = seen-rest e.told e.timers taken the_grant fs (λ other. refl) e.wishes d.seen;
    told = d.told;
    homeless = d.homeless;
    established = speaking e.established d.speaks.0;
    speaks = d.speaks.1;
    first = or_left (not e.established || true) (answer_comes_first (map (λ (f : Flying). f.says) fs)) (or_right (not e.established) true refl);
  }

  once-rest : (n : ℕ) → count_of n (unanswered_ids e) ≡ count_of n (request_ids ups) + count_of n (id ∷ answer_ids fs)
      → count_of n (unanswered_ids (with_grant e)) ≡ count_of n (request_ids ups) + count_of n (answer_ids fs)
  once-rest n once =
      let first = count-cons n id (answer_ids fs) in
      let before = unanswered-before n in
      omega (arith, first, before, once)

  none-up : count_of id (unanswered_ids e) ≡ count_of id (request_ids ups) + count_of id (id ∷ answer_ids fs) → count_of id (used_ids e) ≤ 1 → count_of id (request_ids ups) ≡ 0
  none-up once most =
      let first = count-cons id id (answer_ids fs) in
      let one = itself id in
      let used = count-used id e in
      omega (arith, first, one, used, once, most)

  grant-up : IsSoundClient e → Upward e (the_grant ∷ fs) ups → Upward (with_grant e) fs ups
  grant-up c u = record {
    once = λ n. once-rest n (u.once n);
    requests = requests-rest ups (none-up (u.once id) (c.distinct id)) u.requests;
    answers = u.answers.1;
    let_go = u.let_go;
    let_go_once = u.let_go_once;
    held = u.held;
    active = u.active;
    accepted = u.accepted;
    no_delay = u.no_delay.1;
  }

  -- the client takes the answer to its Keepalive, and is established (RFC 8490, 5.1 and 7.1)
  pub grant-taken : FitsTogether e taken (the_grant ∷ fs) ups → FitsTogether (with_grant e) (taken ++ made_of e.timers the_grant ∷ []) fs ups
  grant-taken fit = record { timers = fit.timers; client = grant-client fit.client; down = grant-down fit.client fit.down; up = λ goes_on. grant-up fit.client (fit.up goes_on) }

-- the Keepalive waits with the ID of the answer
pub grants-taken : GrantsAreTaken
grants-taken e taken fs ups id note subscribed fit =
    let out = is-out id e.keepalive_out fit.down.fits.0 in (out, grant-taken e taken fs ups id note subscribed out fit)
