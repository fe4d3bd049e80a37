-- The client asks a question that no wish has, with a free ID.
--     questions-asked      what is under way fits together with the SUBSCRIBE
use Rattle.std.proofs.Common.{◌≡◌, ℕ, ◌+◌, ◌<◌, ◌≤◌, Bool, true, false, not, ◌&&◌, ◌||◌, cond, List, [], ◌∷◌, ◌++◌, map, length, sym, ap, ◌∙◌, subst, refl, true≢false, arith}
use Rattle.std.specs.Prelude.{IsTrue, IsSome, is_some, nat_le, ◌==◌}
use Rattle.std.specs.List.{list_any, AllByRecursion, IsDistinct}
use Rattle.std.proofs.lemmas.Bool.{and_parts, and_from, or_left, or_from, or_parts, eqb-true, eq-eqb, leb-true, lt-leb}
use Rattle.std.proofs.lemmas.List.{length-append, length-map}
use Rattle.std.proofs.lemmas.List.Folds.{list_any-append}
use Rattle.std.proofs.lemmas.List.Elements.{filter_map-append}
use Rattle.std.proofs.lemmas.Grind.{flat_map-append}
use Rattle.push_base.specs.Limits.{max_questions}
use Rattle.rrset.specs.Records.{same_question}
use Rattle.rrset.specs.declared.record.Question.{Question}
use Rattle.rrset.proofs.Distinct.{any_found, distinct_push}
use Rattle.pushserver.specs.PlainHubs.{Made, Subscription, asked_of}
use Rattle.pushserver.proofs.hub_steps.Pairs.{all-weaken}
use Rattle.pushclient.specs.Clients.{Wish, RequestState, unanswered}
use Rattle.pushclient.specs.ServerMessages.{ServerMessage, accepts, refuses, grants, tells, delays}
use Rattle.pushclient.specs.SoundClients.{count_of, is_asked}
use Rattle.pushclient.specs.Steps.{is_answered, is_unanswered}
use Rattle.pushclient.proofs.SoundWishes.{all_behind, all_map, same_as, not_back, question_itself}
use Rattle.inflight.specs.Messages.{ClientMessage, subscribes, unsubscribes, reconfirms, requests_keepalive, request_id, request_ids, unsubscribed_ids, unsubscribes_id, Flying, answer_ids, accepts_id}
use Rattle.inflight.specs.Ends.{BothEnds, is_id, is_question, is_held_with, is_unanswered_as, is_answered_as, unanswered_id, answered_id, unanswered_ids, used_ids, is_requested, fits_request, taken_up}
use Rattle.inflight.specs.Flight.{IsSoundClient, Downward, Upward, TookNotices, is_so_along, is_seen, is_homeless, is_active_answer, is_let_go, is_held_active, is_accounted_for}
use Rattle.flight_laws.specs.Laws.{Active}
use Rattle.flight_laws.specs.Asking.{with_asked, QuestionsAreAsked}
use Rattle.flight_laws.proofs.TakenUp.{from_three, taken_unless}
use Rattle.flight_laws.proofs.Counting.{count-append, count-unanswered, count-used, waiting_ids, held_ids}
use Rattle.flight_laws.proofs.Writing.{ends-none, accounted-more}
use Rattle.flight_laws.proofs.Taking.{count-cons}
use Rattle.flight_laws.proofs.FirstFits.{counted}
use Rattle.flight_laws.proofs.Refusals.{all-counted, or-weaken, isn't-held}
use Rattle.flight_laws.proofs.Accepting.{speaking}
use Rattle.flight_laws.proofs.Ended.{any-at, none-accepted}
use Rattle.flight_laws.proofs.InUse.{wish_ids, no-more-than, there, shows-waiting, shows-held, unused}
use Rattle.flight_laws.proofs.Asked.{taken-last, is_wished, IsAskedFor, is_asked_or_ended, all-asked, answers-weaken}

-- ---- small ones

-- a test that one of some passes, one of more passes
any-more : {X : Type 0} (p : X → Bool) (xs ys : List X) → list_any p xs ≡ true → list_any p (xs ++ ys) ≡ true
any-more p xs ys h = list_any-append p xs ys ∙ or_left (list_any p xs) (list_any p ys) h

none-more : {X : Type 0} (p : X → Bool) (xs : List X) (y : X) → p y ≡ false → list_any p xs ≡ false → list_any p (xs ++ y ∷ []) ≡ false
none-more p xs y own h = list_any-append p xs (y ∷ []) ∙ or_from (list_any p xs) (p y || false) h (or_from (p y) false own refl)

-- of numbered things, those with different numbers
numbers-differ : (active : Active) → IsDistinct (λ a b. a.0 == b.0) active → IsDistinct ◌==◌ (map (λ a. a.0) active)
unfolding IsDistinct
numbers-differ [] h = tt
numbers-differ (a ∷ active) h = (all_map (λ (b : ℕ × Question). (a.0 == b.0) ≡ false) (λ n. (a.0 == n) ≡ false) (λ b. b.0) (λ b other. other) active h.0, numbers-differ active h.1)

-- where no answer with an ID comes down nothing is to be seen of it
unseen : (so : List Subscription → Bool) (id : ℕ) (subscribed : List Subscription) (flying : List Flying) → list_any (λ f. accepts_id id f.says) flying ≡ false → is_so_along so id false subscribed flying ≡ true
unseen so id subscribed [] none = refl
unseen so id subscribed (f ∷ flying) none =
    let parts = or_parts (accepts_id id f.says) (list_any (λ (g : Flying). accepts_id id g.says) flying) none in
    subst (λ b. is_so_along so id b f.subscribed flying ≡ true) (sym parts.0) (unseen so id f.subscribed flying parts.1)

-- no wish has a question
other-question : (test : RequestState → Bool) (question asked : Question) (ws : List Wish) → list_any (λ w. same_question w.question question) ws ≡ false → same_question asked question ≡ true
    → list_any (λ w. test w.standing && same_question asked w.question) ws ≡ false
other-question test question asked [] none same = refl
other-question test question asked (w ∷ ws) none same =
    let parts = or_parts (same_question w.question question) (list_any (λ (v : Wish). same_question v.question question) ws) none in
    let apart : same_question asked w.question ≡ false = not_back w.question asked (same_as asked question w.question same ∙ parts.0) in
    or_from (test w.standing && same_question asked w.question) (list_any (λ (v : Wish). test v.standing && same_question asked v.question) ws) (both-off (test w.standing) (same_question asked w.question) apart) (other-question test question asked ws parts.1 same)
  where
    both-off : (a b : Bool) → b ≡ false → (a && b) ≡ false
    both-off true b h = h
    both-off false b h = refl

-- ---- what is active behind all that goes up

module _ (e : BothEnds) (id : ℕ) (question : Question) (last : Active) (asked : IsAskedFor e [] last) where
  wished-there : (a : ℕ × Question) → is_wished e a ≡ true → list_any (λ n. a.0 == n) (wish_ids e.wishes) ≡ true
  wished-there a h = by (list_any (is_unanswered_as a.0 a.1) e.wishes) refl h
    where
      by : (b : Bool) → list_any (is_unanswered_as a.0 a.1) e.wishes ≡ b → (b || list_any (is_answered_as a.0 a.1) e.wishes) ≡ true → list_any (λ n. a.0 == n) (wish_ids e.wishes) ≡ true
      by true is h = there (is_unanswered a.0) a.0 (shows-waiting a.0) (λ w. same_question a.1 w.question) e.wishes is
      by false is h = there (is_held_with a.0) a.0 (shows-held a.0) (λ w. same_question a.1 w.question) e.wishes h

  all-there : (active : Active) → AllByRecursion (λ a. IsTrue (is_asked_or_ended e [] a)) active → (n : ℕ) → list_any (λ m. n == m) (map (λ a. a.0) active) ≡ true → list_any (λ m. n == m) (wish_ids e.wishes) ≡ true
  all-there [] all n h = absurd (true≢false (sym h))
  all-there (a ∷ active) all n h = by (n == a.0) refl h (all-there active all.1 n)
    where
      by : (b : Bool) → (n == a.0) ≡ b → (b || list_any (λ m. n == m) (map (λ a. a.0) active)) ≡ true
          → (list_any (λ m. n == m) (map (λ a. a.0) active) ≡ true → list_any (λ m. n == m) (wish_ids e.wishes) ≡ true) → list_any (λ m. n == m) (wish_ids e.wishes) ≡ true
      by true is h rest = subst (λ k. list_any (λ m. k == m) (wish_ids e.wishes) ≡ true) (sym (eqb-true n a.0 is)) (wished-there a (speaking (is_wished e a) all.0))
      by false is h rest = rest h

  -- no more than there are wishes
  few-last : length last ≤ length e.wishes
  few-last =
      let few = no-more-than (map (λ a. a.0) last) e.wishes (numbers-differ last asked.1) (all-there last asked.0) in
      subst (λ n. n ≤ length e.wishes) (length-map last (λ a. a.0)) few

  module _ (free : count_of id (used_ids e) ≡ 0) (new : list_any (λ w. same_question w.question question) e.wishes ≡ false) where
    other-id : (a : ℕ × Question) → is_wished e a ≡ true → (a.0 == id) ≡ false
    other-id a h = by (a.0 == id) refl
      where
        by : (b : Bool) → (a.0 == id) ≡ b → b ≡ false
        by true is = absurd (true≢false (sym (wished-there a h) ∙ ap (λ k. list_any (λ n. k == n) (wish_ids e.wishes)) (eqb-true a.0 id is) ∙ unused e id free))
        by false is = refl

    other-one : (a : ℕ × Question) → is_wished e a ≡ true → same_question a.1 question ≡ false
    other-one a h = by (same_question a.1 question) refl
      where
        by : (b : Bool) → same_question a.1 question ≡ b → b ≡ false
        by true is =
            let unwished = or_from (list_any (is_unanswered_as a.0 a.1) e.wishes) (list_any (is_answered_as a.0 a.1) e.wishes)
            (other-question (is_unanswered a.0) question a.1 e.wishes new is) (other-question (is_held_with a.0) question a.1 e.wishes new is) in
            absurd (true≢false (sym h ∙ unwished))
        by false is = refl

    none-same : (active : Active) → AllByRecursion (λ a. IsTrue (is_asked_or_ended e [] a)) active → list_any (λ a. a.0 == id || same_question a.1 question) active ≡ false
    none-same [] all = refl
    none-same (a ∷ active) all =
        let wished = speaking (is_wished e a) all.0 in
        or_from (a.0 == id || same_question a.1 question) (list_any (λ (b : ℕ × Question). b.0 == id || same_question b.1 question) active)
        (or_from (a.0 == id) (same_question a.1 question) (other-id a wished) (other-one a wished)) (none-same active all.1)

    -- so one more is taken
    takes-one : (established : Bool) → is_id id ≡ true → is_question question ≡ true → length e.wishes < max_questions → IsSome (taken_up established last (subscribes id question))
    takes-one established good fits room =
        let short = few-last in
        let few : length last < max_questions = omega (arith, room, short) in
        let bad : Bool = not (is_id id && is_question question) in
        let same : Bool = list_any (λ a. a.0 == id || same_question a.1 question) last in
        let many : Bool = nat_le max_questions (length last) in
        let goes = from_three bad same many (ap not (and_from (is_id id) (is_question question) good fits)) (none-same last asked.0) (lt-leb max_questions (length last) few) in
        ap is_some (taken_unless (bad || same || many) (last ++ (id, question) ∷ []) goes)

-- ---- with the question

module _ (e : BothEnds) (id : ℕ) (question : Question) (good : is_id id ≡ true) (free : count_of id (used_ids e) ≡ 0) where
  abbrev new_wish : Wish
  new_wish = record { question = question; wanted = true; standing = unanswered id; notices = [] }

  abbrev later : BothEnds
  later = with_asked id question e

  one-id : (n : ℕ) → count_of n (id ∷ []) ≡ cond (id == n) 1 0
  one-id n = let first = count-cons n id [] in omega (arith, first)

  waiting-later : (n : ℕ) → count_of n (waiting_ids later) ≡ count_of n (waiting_ids e) + cond (id == n) 1 0
  waiting-later n =
      let both = count-append n (waiting_ids e) (id ∷ []) in
      let one = one-id n in
      let all : count_of n (waiting_ids later) ≡ count_of n (waiting_ids e ++ id ∷ []) = ap (count_of n) (flat_map-append (λ (w : Wish). unanswered_id w.standing) e.wishes (new_wish ∷ [])) in
      omega (arith, both, one, all)

  held-later : (n : ℕ) → count_of n (held_ids later) ≡ count_of n (held_ids e)
  held-later n =
      let both = count-append n (held_ids e) [] in
      let all : count_of n (held_ids later) ≡ count_of n (held_ids e ++ []) = ap (count_of n) (flat_map-append (λ (w : Wish). answered_id w.standing) e.wishes (new_wish ∷ [])) in
      let none : count_of n [] ≡ 0 = refl in
      omega (arith, both, all, none)

  unanswered-later : (n : ℕ) → count_of n (unanswered_ids later) ≡ count_of n (unanswered_ids e) + cond (id == n) 1 0
  unanswered-later n =
      let before = count-unanswered n e in
      let after = count-unanswered n later in
      let waiting = waiting-later n in
      omega (arith, before, after, waiting)

  used-later : (n : ℕ) → count_of n (used_ids later) ≡ count_of n (used_ids e) + cond (id == n) 1 0
  used-later n =
      let before = count-used n e in
      let after = count-used n later in
      let waiting = unanswered-later n in
      let holding = held-later n in
      omega (arith, before, after, waiting, holding)

  good-later : AllByRecursion (λ i. IsTrue (is_id i)) (used_ids e) → (n : ℕ) (b : Bool) → (id == n) ≡ b → 1 ≤ count_of n (used_ids later) → is_id n ≡ true
  good-later all n true is some = subst (λ m. is_id m ≡ true) (eqb-true id n is) good
  good-later all n false is some =
      let now = used-later n in
      let none : cond (id == n) 1 0 ≡ 0 = ap (λ (b : Bool). cond {A = ℕ} b 1 0) is in
      counted (used_ids e) all n (omega (arith, now, none, some))

  once-later : (n : ℕ) (b : Bool) → (id == n) ≡ b → count_of n (used_ids e) ≤ 1 → count_of n (used_ids later) ≤ 1
  once-later n true is most =
      let now = used-later n in
      let one : cond (id == n) 1 0 ≡ 1 = ap (λ (b : Bool). cond {A = ℕ} b 1 0) is in
      let unused_yet : count_of n (used_ids e) ≡ 0 = subst (λ m. count_of m (used_ids e) ≡ 0) (eqb-true id n is) free in
      omega (arith, now, one, unused_yet)
  once-later n false is most =
      let now = used-later n in
      let none : cond (id == n) 1 0 ≡ 0 = ap (λ (b : Bool). cond {A = ℕ} b 1 0) is in
      omega (arith, now, none, most)

  client-later : is_question question ≡ true → list_any (λ w. same_question w.question question) e.wishes ≡ false → length e.wishes < max_questions → IsSoundClient e → IsSoundClient later
  client-later fits new room c = record {
    wishes = record {
      few = (let more = length-append e.wishes (new_wish ∷ []) in omega (arith, more, room));
      questions = distinct_push (λ (v w : Wish). same_question v.question w.question) e.wishes new_wish c.wishes.questions new;
      fit = all_behind (λ w. IsTrue (is_question w.question)) e.wishes new_wish c.wishes.fit fits;
    };
    ids = all-counted (used_ids later) (λ n some. good-later c.ids n (id == n) refl some);
    distinct = λ n. once-later n (id == n) refl (c.distinct n);
    last = leb-true id 65535 (and_parts (nat_le 1 id) (nat_le id 65535) good).1;
    asked = all_behind (λ w. IsTrue (is_asked w.standing)) e.wishes new_wish c.asked refl;
    begun = all_behind (λ w. IsTrue (not (is_answered w.standing) || e.client_established)) e.wishes new_wish c.begun refl;
  }

  -- ---- what comes down

  fits-later : (m : ServerMessage) → IsTrue (fits_request e m) → IsTrue (fits_request later m)
  fits-later (accepts other) h = any-more (λ w. is_unanswered other w.standing && e.serves w.question) e.wishes (new_wish ∷ []) h
  fits-later (refuses other) h = any-more (λ w. is_unanswered other w.standing && not (e.serves w.question)) e.wishes (new_wish ∷ []) h
  fits-later (grants other) h = h
  fits-later (tells notices) h = refl
  fits-later (delays rcode delay) h = refl

  module _ (taken : List Made) (flying : List Flying) (ups : List ClientMessage) where
    -- no answer with the new ID comes down
    none-comes : AllByRecursion (λ f. IsTrue (fits_request e f.says)) flying → list_any (λ f. accepts_id id f.says) flying ≡ false
    none-comes all =
        let used = count-used id e in
        let waiting = count-unanswered id e in
        none-accepted e id (omega (arith, free, used, waiting)) flying all

    down-later : Downward e taken flying → Downward later taken flying
    down-later d = record {
      readable = d.readable;
      fits = all-weaken (λ (f : Flying). IsTrue (fits_request e f.says)) (λ f. IsTrue (fits_request later f.says)) (λ f h. fits-later f.says h) flying d.fits;
      awaited = λ n. let now = unanswered-later n in let most = d.awaited n in omega (arith, now, most);
      notices = all_behind (TookNotices taken) e.wishes new_wish d.notices tt;
      seen = all_behind (λ w. IsTrue (is_seen e.told taken flying w)) e.wishes new_wish d.seen (unseen _ id _ flying (none-comes d.fits));
      told = d.told;
      homeless = all_behind (λ w. IsTrue (is_homeless e w)) e.wishes new_wish d.homeless refl;
      established = d.established;
      speaks = d.speaks;
      first = d.first;
    }

    -- ---- what goes up

    abbrev asking : List ClientMessage
    asking = ups ++ subscribes id question ∷ []

    up-once : (n : ℕ) → count_of n (unanswered_ids e) ≡ count_of n (request_ids ups) + count_of n (answer_ids flying) → count_of n (unanswered_ids later) ≡ count_of n (request_ids asking) + count_of n (answer_ids flying)
    up-once n once =
        let now = unanswered-later n in
        let one = one-id n in
        let up : count_of n (request_ids asking) ≡ count_of n (request_ids ups) + count_of n (id ∷ []) =
        ap (count_of n) (filter_map-append request_id ups (subscribes id question ∷ [])) ∙ count-append n (request_ids ups) (id ∷ []) in
        omega (arith, now, one, up, once)

    requested-later : (m : ClientMessage) → IsTrue (is_requested e m) → IsTrue (is_requested later m)
    requested-later (subscribes other asked) h = any-more (is_unanswered_as other asked) e.wishes (new_wish ∷ []) h
    requested-later (unsubscribes other) h = refl
    requested-later (reconfirms rr) h = refl
    requested-later (requests_keepalive other) h = h

    own-request : IsTrue (is_requested later (subscribes id question))
    own-request = any-at (is_unanswered_as id question) e.wishes new_wish [] (and_from (id == id) (same_question question question) (eq-eqb id id refl) (question_itself question))

    go-later : (n : ℕ) → IsTrue (is_let_go e flying n) → IsTrue (is_let_go later flying n)
    go-later n h = isn't-held (list_any (λ (s : Subscription). s.id == n) e.subscriptions) (list_any (λ (w : Wish). is_held_with n w.standing) e.wishes) (list_any (λ (w : Wish). is_held_with n w.standing) (e.wishes ++ new_wish ∷ []))
        (not (list_any (λ (f : Flying). accepts_id n f.says) flying)) (λ j. none-more (λ (w : Wish). is_held_with n w.standing) e.wishes new_wish refl j) h

    accounted-later : (s : Subscription) → IsTrue (is_accounted_for e flying ups s) → IsTrue (is_accounted_for later flying asking s)
    accounted-later s h = accounted-more later flying ups (subscribes id question ∷ []) s
        (or-weaken (list_any (is_answered_as s.id s.question) e.wishes) (list_any (is_answered_as s.id s.question) (e.wishes ++ new_wish ∷ []))
        (list_any (λ (f : Flying). accepts_id s.id f.says) flying) (list_any (unsubscribes_id s.id) ups)
        (λ j. any-more (is_answered_as s.id s.question) e.wishes (new_wish ∷ []) j) h)

    up-later : is_question question ≡ true → list_any (λ w. same_question w.question question) e.wishes ≡ false → length e.wishes < max_questions → IsDistinct (λ s t. s.id == t.id) e.subscriptions
        → Upward e flying ups → Upward later flying asking
    up-later fits new room different u =
        let ended = sym (ends-none ups (subscribes id question) refl) in
        record {
          once = λ n. up-once n (u.once n);
          requests = all_behind (λ m. IsTrue (is_requested later m)) ups (subscribes id question) (all-weaken (λ m. IsTrue (is_requested e m)) (λ m. IsTrue (is_requested later m)) (λ m h. requested-later m h) ups u.requests) own-request;
          answers = all-weaken (λ f. IsTrue (is_active_answer e f)) (λ f. IsTrue (is_active_answer later f)) (λ (f : Flying) h. answers-weaken e.subscriptions e.wishes (e.wishes ++ new_wish ∷ []) (λ other asked j. any-more (is_unanswered_as other asked) e.wishes (new_wish ∷ []) j) f.says h) flying u.answers;
          let_go = subst (AllByRecursion (λ n. IsTrue (is_let_go later flying n))) ended (all-weaken (λ n. IsTrue (is_let_go e flying n)) (λ n. IsTrue (is_let_go later flying n)) (λ n h. go-later n h) (unsubscribed_ids ups) u.let_go);
          let_go_once = λ n. subst (λ ids. count_of n ids ≤ 1) ended (u.let_go_once n);
          held = all_behind (λ w. IsTrue (is_held_active e w)) e.wishes new_wish u.held refl;
          active = all-weaken (λ s. IsTrue (is_accounted_for e flying ups s)) (λ s. IsTrue (is_accounted_for later flying asking s)) (λ s h. accounted-later s h) e.subscriptions u.active;
          accepted = taken-last e.established (subscribes id question) (asked_of e.subscriptions) ups
              (λ last is. takes-one e id question last (all-asked e flying ups last different u is) free new e.established good fits room) u.accepted;
          no_delay = u.no_delay;
        }

pub questions-asked : QuestionsAreAsked
questions-asked e taken flying ups id question good free fits none room different fit =
    let new = any_found (λ (w : Wish). same_question w.question question) e.wishes none in
    record {
      timers = fit.timers;
      client = client-later e id question good free fits new room fit.client;
      down = down-later e id question good free taken flying ups fit.down;
      up = λ goes_on. up-later e id question good free taken flying ups fits new room different (fit.up goes_on);
    }
