-- The session answers a SUBSCRIBE: of a question that is served, and of one that isn't.
--     subscribes-accepted, subscribes-refused      what is under way fits together behind it
use Rattle.std.proofs.Common.{◌≡◌, ℕ, ◌+◌, ◌≤◌, Bool, true, false, not, ◌&&◌, ◌||◌, List, [], ◌∷◌, ◌++◌, map, length, inl, inr, sym, ap, ◌∙◌, subst, refl, true≢false, arith}
use Rattle.std.specs.Prelude.{IsTrue, IsSome, nat_le, ◌==◌}
use Rattle.std.specs.List.{list_any, AllByRecursion, cons_option}
use Rattle.std.proofs.lemmas.Bool.{and_parts, and_from, or_parts, or_right, eqb-true, eq-eqb}
use Rattle.std.proofs.lemmas.List.{map-append, append_assoc}
use Rattle.push_base.specs.Limits.{max_questions}
use Rattle.rrset.specs.Records.{same_question}
use Rattle.rrset.specs.declared.record.Question.{Question}
use Rattle.coalesce.proofs.Packing.{each-front}
use Rattle.pushserver.specs.PlainHubs.{Made, Note, Subscription, asked_of}
use Rattle.pushserver.proofs.hub_steps.Pairs.{all-weaken}
use Rattle.pushclient.specs.Clients.{Wish, RequestState, not_asked, unanswered, refused, answered}
use Rattle.pushclient.specs.ServerMessages.{ServerMessage, accepts, refuses, grants, tells, delays}
use Rattle.pushclient.specs.FittingMessages.{id_answered, is_delay}
use Rattle.pushclient.specs.SoundClients.{count_of}
use Rattle.pushclient.specs.Steps.{is_unanswered}
use Rattle.pushclient.proofs.SoundWishes.{all_behind}
use Rattle.inflight.specs.Messages.{ClientMessage, subscribes, request_ids, unsubscribed_ids, unsubscribes_id, Flying, CanBeRead, answer_ids, accepts_id, is_refusal}
use Rattle.inflight.specs.Ends.{BothEnds, is_id, is_question, is_held_with, is_unanswered_as, is_answered_as, is_active_as, unanswered_ids, used_ids, fits_request, is_told, told_end, all_taken_up, remembers}
use Rattle.inflight.specs.Flight.{IsSoundClient, Downward, Upward, FitsTogether, is_seen, is_active_answer, is_let_go, is_held_active, is_accounted_for}
use Rattle.flight_laws.specs.Laws.{Active, flies}
use Rattle.flight_laws.specs.Reacting.{with_made, ServesAlike, subscription, with_subscription, SubscribesAreAccepted, SubscribesAreRefused}
use Rattle.flight_laws.proofs.Counting.{count-used}
use Rattle.flight_laws.proofs.TakenUp.{three_false, unless_refused, part-itself, part-front, all_taken_up-part}
use Rattle.flight_laws.proofs.Taking.{count-cons, itself}
use Rattle.flight_laws.proofs.Refusals.{any-weaken, and-weaken, differs, behind-answer}
use Rattle.flight_laws.proofs.ToldEnds.{told-other, told-own, told-again, is_end, IsRetold, seen-retold, retold}
use Rattle.flight_laws.proofs.MoreDown.{active_in, held_in, both-of, each-not, turned-apart, any-front, any-last, seen-more, more-answer, enough-wait, first-answer, first-still, let-go-more}
use Rattle.flight_laws.proofs.Granting.{first-taken, accounted-down}

-- ---- IDs

-- no message accepts an ID that isn't among those of answers
none-accepts : (id : ℕ) (flying : List Flying) → count_of id (answer_ids flying) ≡ 0 → list_any (λ f. accepts_id id f.says) flying ≡ false
none-accepts id [] none = refl
none-accepts id (f ∷ flying) none = by f.says none (none-accepts id flying (behind-answer id f.says (answer_ids flying) none))
  where
    by : (m : ServerMessage) → count_of id (cons_option (id_answered m) (answer_ids flying)) ≡ 0 → list_any (λ (g : Flying). accepts_id id g.says) flying ≡ false → (accepts_id id m || list_any (λ (g : Flying). accepts_id id g.says) flying) ≡ false
    by (accepts other) none rest = ap (λ b. b || list_any (λ (g : Flying). accepts_id id g.says) flying) (turned-apart other id (differs id other (answer_ids flying) none)) ∙ rest
    by (refuses other) none rest = rest
    by (grants other) none rest = rest
    by (tells notices) none rest = rest
    by (delays rcode delay) none rest = rest

-- no two requests wait with one ID, so no answer to one that goes up comes down
none-down : (e : BothEnds) (id : ℕ) (requests answers : List ℕ) → count_of id (used_ids e) ≤ 1 → count_of id (unanswered_ids e) ≡ count_of id (id ∷ requests) + count_of id answers → count_of id answers ≡ 0
none-down e id requests answers most once =
    let used = count-used id e in
    let first = count-cons id id requests in
    let one = itself id in
    omega (arith, used, first, one, most, once)

-- a wish that waits with a question that is served, or with one that isn't
waits-served : (e : BothEnds) (id : ℕ) (question : Question) (test : Bool → Bool) → ServesAlike e → test (e.serves question) ≡ true → list_any (is_unanswered_as id question) e.wishes ≡ true
    → list_any (λ w. is_unanswered id w.standing && test (e.serves w.question)) e.wishes ≡ true
waits-served e id question test alike is h =
    any-weaken (is_unanswered_as id question) (λ w. is_unanswered id w.standing && test (e.serves w.question)) each e.wishes h
  where
    each : (w : Wish) → (is_unanswered id w.standing && same_question question w.question) ≡ true → (is_unanswered id w.standing && test (e.serves w.question)) ≡ true
    each w i = and-weaken (is_unanswered id w.standing) (same_question question w.question) (test (e.serves w.question)) (λ same. subst (λ b. test b ≡ true) (alike question w.question same) is) i

-- ---- what is active

any-named : (id : ℕ) (subscriptions : List Subscription) → list_any (λ a. a.0 == id) (asked_of subscriptions) ≡ list_any (λ s. s.id == id) subscriptions
any-named id [] = refl
any-named id (s ∷ ss) = ap (λ b. (s.id == id) || b) (any-named id ss)

none-active : (id : ℕ) (question : Question) (active : Active) → list_any (λ a. a.0 == id || same_question a.1 question) active ≡ false → list_any (λ a. a.0 == id) active ≡ false
none-active id question [] h = refl
none-active id question (a ∷ active) h =
    let parts = or_parts (a.0 == id || same_question a.1 question) (list_any (λ a. a.0 == id || same_question a.1 question) active) h in
    let own = or_parts (a.0 == id) (same_question a.1 question) parts.0 in
    ap (λ b. b || list_any (λ (a : ℕ × Question). a.0 == id) active) own.0 ∙ none-active id question active parts.1

module _ (e : BothEnds) (taken : List Made) (flying : List Flying) (ups : List ClientMessage) (id : ℕ) (question : Question)
    (going : IsTrue e.goes_on) (alike : ServesAlike e) (fit : FitsTogether e taken flying (subscribes id question ∷ ups)) where
  abbrev active : Active
  active = asked_of e.subscriptions

  -- what the tests of the session say
  abbrev Passed : Type 0
  Passed = (list_any (λ s. s.id == id) e.subscriptions ≡ false) × IsSome (all_taken_up e.established (active ++ (id, question) ∷ []) ups)

  passed : Passed
  passed =
      let one = first-taken e.established active (subscribes id question) ups (fit.up going).accepted in
      let bad : Bool = not (is_id id && is_question question) in
      let same : Bool = list_any (λ a. a.0 == id || same_question a.1 question) active in
      let many : Bool = nat_le max_questions (length active) in
      let ok = unless_refused (bad || same || many) (active ++ (id, question) ∷ []) one.0 one.1 in
      let parts = three_false bad same many ok.0 in
      (sym (any-named id e.subscriptions) ∙ none-active id question active parts.1, subst (λ l. IsSome (all_taken_up e.established l ups)) (sym ok.1) one.2)

  none-comes : list_any (λ f. accepts_id id f.says) flying ≡ false
  none-comes = none-accepts id flying (none-down e id (request_ids ups) (answer_ids flying) (fit.client.distinct id) ((fit.up going).once id))

  -- ---- NOTAUTH

  module _ (note : Note) (unserved : IsTrue (not (e.serves question))) where
    abbrev the_refusal : Flying
    the_refusal = flies (refuses id) note e.subscriptions

    abbrev refusing : BothEnds
    refusing = with_made the_refusal e

    refusal-once : (n : ℕ) → count_of n (unanswered_ids e) ≡ count_of n (request_ids ups) + count_of n (answer_ids (flying ++ the_refusal ∷ []))
    refusal-once n = more-answer n id (unanswered_ids e) (request_ids ups) flying the_refusal refl ((fit.up going).once n)

    refusal-client : IsSoundClient refusing
    refusal-client = (let c = fit.client in record { wishes = c.wishes; ids = c.ids; distinct = c.distinct; last = c.last; asked = c.asked; begun = c.begun })

    refusal-answers : AllByRecursion (λ g. IsTrue (is_active_answer e g)) (flying ++ the_refusal ∷ [])
    refusal-answers = all_behind (λ g. IsTrue (is_active_answer e g)) flying the_refusal (fit.up going).answers refl

    refusal-down : Downward refusing taken (flying ++ the_refusal ∷ [])
    refusal-down =
        let d = fit.down in
        let u = fit.up going in
        record {
          readable = all_behind (CanBeRead e.timers) flying the_refusal d.readable (tt, omega arith);
          fits = all_behind (λ (g : Flying). IsTrue (fits_request e g.says)) flying the_refusal d.fits (waits-served e id question not alike unserved u.requests.0);
          awaited = λ n. enough-wait (count_of n (unanswered_ids e)) (count_of n (request_ids ups)) (count_of n (answer_ids (flying ++ the_refusal ∷ []))) (refusal-once n);
          notices = d.notices;
          seen = seen-more e taken flying the_refusal fit.client refl d.told u.held refusal-answers d.seen;
          told = d.told;
          homeless = d.homeless;
          established = d.established;
          speaks = all_behind (λ (g : Flying). IsTrue (e.established || is_refusal g.says)) flying the_refusal d.speaks (or_right e.established true refl);
          first = first-still e.established e.client_established flying the_refusal d.first;
        }

    refusal-up : Upward refusing (flying ++ the_refusal ∷ []) ups
    refusal-up =
        let u = fit.up going in
        record {
          once = refusal-once;
          requests = u.requests.1;
          answers = refusal-answers;
          let_go = all-weaken (λ n. IsTrue (is_let_go e flying n)) (λ n. IsTrue (is_let_go e (flying ++ the_refusal ∷ []) n)) (λ n h. let-go-more e flying the_refusal n refl h) (unsubscribed_ids ups) u.let_go;
          let_go_once = u.let_go_once;
          held = u.held;
          active = all-weaken (λ s. IsTrue (is_accounted_for e flying ups s)) (λ s. IsTrue (is_accounted_for e (flying ++ the_refusal ∷ []) ups s)) (λ s h. accounted-down e flying the_refusal ups s h) e.subscriptions u.active;
          accepted = all_taken_up-part e.established e.established (λ was. was) active (active ++ (id, question) ∷ []) (part-front active (id, question)) ups passed.1;
          no_delay = all_behind (λ (g : Flying). IsTrue (not (is_delay g.says))) flying the_refusal u.no_delay refl;
        }

    pub subscribe-refused : FitsTogether refusing taken (flying ++ the_refusal ∷ []) ups
    subscribe-refused = record { timers = fit.timers; client = refusal-client; down = refusal-down; up = λ goes_on. refusal-up }

  -- ---- NOERROR

  module _ (filled : ℕ) (note : Note) (served : IsTrue (e.serves question)) where
    abbrev new : Subscription
    new = subscription id question filled

    abbrev subscriptions_later : List Subscription
    subscriptions_later = e.subscriptions ++ new ∷ []

    abbrev told_later : List (ℕ × ℕ)
    told_later = (id, filled) ∷ e.told

    abbrev the_answer : Flying
    the_answer = flies (accepts id) note subscriptions_later

    abbrev accepting : BothEnds
    accepting = with_made the_answer (record e { subscriptions = subscriptions_later; established = true; told = told_later })

    accept-once : (n : ℕ) → count_of n (unanswered_ids e) ≡ count_of n (request_ids ups) + count_of n (answer_ids (flying ++ the_answer ∷ []))
    accept-once n = more-answer n id (unanswered_ids e) (request_ids ups) flying the_answer refl ((fit.up going).once n)

    accept-client : IsSoundClient accepting
    accept-client = (let c = fit.client in record { wishes = c.wishes; ids = c.ids; distinct = c.distinct; last = c.last; asked = c.asked; begun = c.begun })

    -- the ends of the others are as they were told
    end-of-other : (n : ℕ) → (id == n) ≡ false → told_end e.told n ≡ told_end told_later n
    end-of-other n other = sym (told-other (id, filled) e.told n other)

    -- what the client holds has another ID
    held-other : (n : ℕ) (q : Question) → list_any (is_active_as n q) e.subscriptions ≡ true → (id == n) ≡ false
    held-other n q h = by (id == n) refl
      where
        there : list_any (λ (s : Subscription). s.id == n) e.subscriptions ≡ true
        there = any-weaken (is_active_as n q) (λ (s : Subscription). s.id == n) (λ s i. eq-eqb s.id n (sym (eqb-true n s.id (and_parts (n == s.id) (same_question q s.question) i).0))) e.subscriptions h

        by : (b : Bool) → (id == n) ≡ b → b ≡ false
        by true is = absurd (true≢false (sym (subst (λ m. list_any (λ (s : Subscription). s.id == m) e.subscriptions ≡ true) (sym (eqb-true id n is)) there) ∙ passed.0))
        by false is = refl

    each-told : (q : Question) (standing : RequestState) → held_in e.subscriptions q standing ≡ true → IsRetold e.told told_later taken flying standing
    each-told q not_asked h = tt
    each-told q (refused rcode) h = tt
    each-told q (answered n) h = end-of-other n (held-other n q h)
    each-told q (unanswered n) h = by (id == n) refl
      where
        by : (b : Bool) → (id == n) ≡ b → IsRetold e.told told_later taken flying (unanswered n)
        by true is = inr (subst (λ m. list_any (λ (f : Flying). accepts_id m f.says) flying ≡ false) (eqb-true id n is) none-comes)
        by false is = inl (end-of-other n is)

    seen-before : AllByRecursion (λ w. IsTrue (is_seen told_later taken flying w)) e.wishes
    seen-before =
        let P : Wish → Type 0 = λ w. IsTrue (is_held_active e w) in
        let Q : Wish → Type 0 = λ w. IsTrue (is_seen e.told taken flying w) in
        all-weaken (λ w. P w × Q w) (λ w. IsTrue (is_seen told_later taken flying w))
        (λ (w : Wish) h. seen-retold e.told told_later taken flying w.question w.standing (each-told w.question w.standing h.0) h.1) e.wishes (both-of P Q e.wishes (fit.up going).held fit.down.seen)

    told-still : AllByRecursion (λ s. IsTrue (is_told told_later s)) subscriptions_later
    told-still =
        let P : Subscription → Type 0 = λ s. (s.id == id) ≡ false in
        let Q : Subscription → Type 0 = λ s. IsTrue (is_told e.told s) in
        let others = all-weaken (λ s. P s × Q s) (λ s. IsTrue (is_told told_later s)) (λ (s : Subscription) h. ap (is_end s.filled) (told-other (id, filled) e.told s.id (turned-apart s.id id h.0)) ∙ h.1) e.subscriptions
        (both-of P Q e.subscriptions (each-not (λ (s : Subscription). s.id == id) e.subscriptions passed.0) fit.down.told) in
        all_behind (λ s. IsTrue (is_told told_later s)) e.subscriptions new others (ap (is_end filled) (told-own (id, filled) e.told id (eq-eqb id id refl)) ∙ eq-eqb filled filled refl)

    held-later : AllByRecursion (λ w. IsTrue (is_held_active accepting w)) e.wishes
    held-later = all-weaken (λ w. IsTrue (is_held_active e w)) (λ w. IsTrue (is_held_active accepting w)) (λ (w : Wish) h. by w.question w.standing h) e.wishes (fit.up going).held
      where
        by : (q : Question) (standing : RequestState) → held_in e.subscriptions q standing ≡ true → held_in subscriptions_later q standing ≡ true
        by q not_asked h = refl
        by q (unanswered n) h = refl
        by q (refused rcode) h = refl
        by q (answered n) h = any-front (is_active_as n q) e.subscriptions (new ∷ []) h

    still-active : (m : ServerMessage) → active_in e.wishes e.subscriptions m ≡ true → active_in e.wishes subscriptions_later m ≡ true
    still-active (accepts n) h = any-front (λ (s : Subscription). s.id == n && list_any (is_unanswered_as n s.question) e.wishes) e.subscriptions (new ∷ []) h
    still-active (refuses n) h = refl
    still-active (grants n) h = refl
    still-active (tells notices) h = refl
    still-active (delays rcode delay) h = refl

    accept-answers : AllByRecursion (λ g. IsTrue (is_active_answer accepting g)) (flying ++ the_answer ∷ [])
    accept-answers =
        let u = fit.up going in
        all_behind (λ g. IsTrue (is_active_answer accepting g)) flying the_answer
        (all-weaken (λ g. IsTrue (is_active_answer e g)) (λ g. IsTrue (is_active_answer accepting g)) (λ (g : Flying) h. still-active g.says h) flying u.answers)
        (any-last (λ (s : Subscription). s.id == id && list_any (is_unanswered_as id s.question) e.wishes) e.subscriptions new (and_from (id == id) (list_any (is_unanswered_as id question) e.wishes) (eq-eqb id id refl) u.requests.0))

    accept-down : Downward accepting taken (flying ++ the_answer ∷ [])
    accept-down =
        let d = fit.down in
        let u = fit.up going in
        record {
          readable = all_behind (CanBeRead e.timers) flying the_answer d.readable (tt, omega arith);
          fits = all_behind (λ (g : Flying). IsTrue (fits_request e g.says)) flying the_answer d.fits (waits-served e id question (λ b. b) alike served u.requests.0);
          awaited = λ n. enough-wait (count_of n (unanswered_ids e)) (count_of n (request_ids ups)) (count_of n (answer_ids (flying ++ the_answer ∷ []))) (accept-once n);
          notices = d.notices;
          seen = seen-more accepting taken flying the_answer accept-client refl told-still held-later accept-answers seen-before;
          told = told-still;
          homeless = d.homeless;
          established = or_right (not e.client_established) true refl;
          speaks = all_behind (λ (g : Flying). IsTrue (true || is_refusal g.says)) flying the_answer (all-weaken (λ (g : Flying). IsTrue (e.established || is_refusal g.says)) (λ (g : Flying). IsTrue (true || is_refusal g.says)) (λ g h. refl) flying d.speaks) refl;
          first = first-answer e.established e.client_established flying the_answer refl d.speaks d.first;
        }

    -- ---- what goes up

    -- what is let go is active, and has another ID
    go-later : (n : ℕ) → IsTrue (is_let_go e flying n) → IsTrue (is_let_go accepting (flying ++ the_answer ∷ []) n)
    go-later n h =
        let parts = and_parts (list_any (λ (s : Subscription). s.id == n) e.subscriptions && not (list_any (λ (w : Wish). is_held_with n w.standing) e.wishes)) (not (list_any (λ (f : Flying). accepts_id n f.says) flying)) h in
        let first = and_parts (list_any (λ (s : Subscription). s.id == n) e.subscriptions) (not (list_any (λ (w : Wish). is_held_with n w.standing) e.wishes)) parts.0 in
        let more = let-go-more e flying the_answer n (by (n == id) refl first.0) h in
        let goes = and_parts (list_any (λ (s : Subscription). s.id == n) e.subscriptions && not (list_any (λ (w : Wish). is_held_with n w.standing) e.wishes)) (not (list_any (λ (f : Flying). accepts_id n f.says) (flying ++ the_answer ∷ []))) more in
        and_from (list_any (λ (s : Subscription). s.id == n) subscriptions_later && not (list_any (λ (w : Wish). is_held_with n w.standing) e.wishes)) (not (list_any (λ (f : Flying). accepts_id n f.says) (flying ++ the_answer ∷ [])))
        (and_from (list_any (λ (s : Subscription). s.id == n) subscriptions_later) (not (list_any (λ (w : Wish). is_held_with n w.standing) e.wishes)) (any-front (λ (s : Subscription). s.id == n) e.subscriptions (new ∷ []) first.0) first.1) goes.1
      where
        by : (b : Bool) → (n == id) ≡ b → list_any (λ (s : Subscription). s.id == n) e.subscriptions ≡ true → b ≡ false
        by true is there = absurd (true≢false (sym (subst (λ m. list_any (λ (s : Subscription). s.id == m) e.subscriptions ≡ true) (eqb-true n id is) there) ∙ passed.0))
        by false is there = refl

    accounted-later : AllByRecursion (λ s. IsTrue (is_accounted_for accepting (flying ++ the_answer ∷ []) ups s)) subscriptions_later
    accounted-later =
        all_behind (λ s. IsTrue (is_accounted_for accepting (flying ++ the_answer ∷ []) ups s)) e.subscriptions new
        (all-weaken (λ s. IsTrue (is_accounted_for e flying ups s)) (λ s. IsTrue (is_accounted_for accepting (flying ++ the_answer ∷ []) ups s)) (λ s h. accounted-down e flying the_answer ups s h) e.subscriptions (fit.up going).active)
        (by (list_any (is_answered_as id question) e.wishes) (list_any (λ (g : Flying). accepts_id id g.says) (flying ++ the_answer ∷ [])) (list_any (unsubscribes_id id) ups)
        (any-last (λ (g : Flying). accepts_id id g.says) flying the_answer (eq-eqb id id refl)))
      where
        by : (a b u : Bool) → b ≡ true → (a || b || u) ≡ true
        by true b u h = refl
        by false true u h = refl
        by false false u h = absurd (true≢false (sym h))

    accept-up : Upward accepting (flying ++ the_answer ∷ []) ups
    accept-up =
        let u = fit.up going in
        let one : active ++ (id, question) ∷ [] ≡ asked_of subscriptions_later = sym (map-append (λ (s : Subscription). (s.id, s.question)) e.subscriptions (new ∷ [])) in
        record {
          once = accept-once;
          requests = u.requests.1;
          answers = accept-answers;
          let_go = all-weaken (λ n. IsTrue (is_let_go e flying n)) (λ n. IsTrue (is_let_go accepting (flying ++ the_answer ∷ []) n)) (λ n h. go-later n h) (unsubscribed_ids ups) u.let_go;
          let_go_once = u.let_go_once;
          held = held-later;
          active = accounted-later;
          accepted = subst (λ l. IsSome (all_taken_up true l ups)) one
              (all_taken_up-part e.established true (λ was. refl) (active ++ (id, question) ∷ []) (active ++ (id, question) ∷ []) (part-itself (active ++ (id, question) ∷ [])) ups passed.1);
          no_delay = all_behind (λ (g : Flying). IsTrue (not (is_delay g.says))) flying the_answer u.no_delay refl;
        }

    accept-fits : FitsTogether accepting taken (flying ++ the_answer ∷ []) ups
    accept-fits = record { timers = fit.timers; client = accept-client; down = accept-down; up = λ goes_on. accept-up }

    -- the end that was told last of each is the same where those of all are told
    ends-same : (n : ℕ) → told_end told_later n ≡ told_end (remembers subscriptions_later e.told) n
    ends-same n =
        let others : AllByRecursion (λ s. IsTrue (is_told told_later s)) e.subscriptions = each-front (λ s. IsTrue (is_told told_later s)) e.subscriptions (new ∷ []) told-still in
        let split : remembers subscriptions_later e.told ≡ remembers e.subscriptions told_later =
        ap (λ l. l ++ e.told) (map-append (λ (s : Subscription). (s.id, s.filled)) e.subscriptions (new ∷ [])) ∙ append_assoc (map (λ (s : Subscription). (s.id, s.filled)) e.subscriptions) ((id, filled) ∷ []) e.told in
        sym (ap (λ l. told_end l n) split ∙ told-again told_later e.subscriptions others n)

    pub subscribe-accepted : FitsTogether (with_made the_answer (with_subscription new e)) taken (flying ++ the_answer ∷ []) ups
    subscribe-accepted = retold accepting (remembers subscriptions_later e.told) ends-same taken (flying ++ the_answer ∷ []) ups accept-fits

pub subscribes-refused : SubscribesAreRefused
subscribes-refused e taken flying ups id question note going alike unserved fit = subscribe-refused e taken flying ups id question going alike fit note unserved

pub subscribes-accepted : SubscribesAreAccepted
subscribes-accepted e taken flying ups id question filled note going alike served fit = subscribe-accepted e taken flying ups id question going alike fit filled note served
