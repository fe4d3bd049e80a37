-- The client takes the NOERROR answer to its SUBSCRIBE: the wish that waits is held, or its subscription is ended where it was dropped.
--     accepts-held, accepts-ended      what is under way fits together without it
use Rattle.std.proofs.Common.{◌≡◌, ℕ, ◌+◌, ◌<◌, ◌≤◌, ◌^◌, Bool, true, false, not, ◌&&◌, ◌||◌, cond, List, [], ◌∷◌, ◌++◌, map, length, Some, sym, ap, ◌∙◌, subst, refl, true≢false, arith}
use Rattle.std.specs.Prelude.{IsTrue, find, flat_map, ◌==◌}
use Rattle.std.specs.List.{list_any, AllByRecursion, IsDistinct, cons_option}
use Rattle.std.proofs.lemmas.Bool.{and_parts, and_from, or_left, or_right, eqb-true, eq-eqb}
use Rattle.std.proofs.lemmas.List.{length-append, append-nil}
use Rattle.std.proofs.lemmas.Grind.{flat_map-append}
use Rattle.push_base.specs.Limits.{max_questions}
use Rattle.rrset.specs.Records.{same_question}
use Rattle.rrset.specs.declared.record.Question.{Question}
use Rattle.coalesce.proofs.ReadBack.{each-append}
use Rattle.coalesce.proofs.Packing.{each-front}
use Rattle.pushserver.specs.PlainHubs.{Made, Note, Subscription}
use Rattle.pushserver.specs.ToldMessages.{notices_since}
use Rattle.pushserver.proofs.hub_steps.Pairs.{all-weaken}
use Rattle.pushtelling.proofs.Quiet.{answer-itself, answer-other}
use Rattle.pushtelling.proofs.Messages.{notices_since-append, notices_since-answer}
use Rattle.pushclient.specs.Clients.{Wish, RequestState, not_asked, unanswered, refused, answered}
use Rattle.pushclient.specs.ServerMessages.{ServerMessage, accepts, refuses, grants, tells, delays}
use Rattle.pushclient.specs.FittingMessages.{id_answered}
use Rattle.pushclient.specs.SoundClients.{count_of, is_asked}
use Rattle.pushclient.specs.Steps.{is_answered, is_unanswered}
use Rattle.pushclient.proofs.SoundWishes.{Apart, apart, found_own, find_holds, not_back}
use Rattle.inflight.specs.Messages.{ClientMessage, subscribes, unsubscribes, reconfirms, requests_keepalive, request_id, request_ids, unsubscribed_ids, unsubscribes_id, Flying, made_of, answer_ids, accepts_id, answer_comes_first}
use Rattle.inflight.specs.Ends.{BothEnds, is_id, is_question, is_held_with, is_unanswered_as, is_answered_as, is_active_as, unanswered_id, answered_id, unanswered_ids, used_ids, is_requested, fits_request, subscribed_at_last}
use Rattle.inflight.specs.Flight.{IsSoundClient, Downward, Upward, FitsTogether, TookNotices, is_listed, is_so_along, is_seen, is_homeless, is_active_answer, is_let_go, is_held_active, is_accounted_for}
use Rattle.flight_laws.specs.Laws.{flies, with_held, with_ended, AcceptedOnesAreHeld, AcceptedOnesAreEnded}
use Rattle.flight_laws.proofs.Counting.{count-unanswered, count-used, held_ids}
use Rattle.flight_laws.proofs.Writing.{each-behind}
use Rattle.flight_laws.proofs.Taking.{count-cons, itself, last-subscribed, Took, Seen}
use Rattle.flight_laws.proofs.FirstFits.{one-waits, counted, id-small}
use Rattle.flight_laws.proofs.Replaced.{mid-all, mid-any, mid-none, count-old, count-new, differ-replaced}
use Rattle.flight_laws.proofs.Refusals.{all-counted, differs, fewer-behind, behind-answer, behind-request, any-weaken, and-weaken, or-weaken, isn't-held, waits-with, so-of-it, questions-differ}
use Rattle.flight_laws.proofs.Ended.{any-at, held-goes}

-- ---- small ones

pub flipped : (a b : ℕ) → (a == b) ≡ false → (b == a) ≡ false
flipped a b h = by (b == a) refl
  where
    by : (t : Bool) → (b == a) ≡ t → t ≡ false
    by true is = absurd (true≢false (sym (eq-eqb a b (sym (eqb-true b a is))) ∙ h))
    by false is = refl

each-one : (P : Wish → Type 0) → ((w : Wish) → P w) → (ws : List Wish) → AllByRecursion P ws
each-one P so [] = tt
each-one P so (w ∷ ws) = (so w, each-one P so ws)

pub both-of : {X : Type 0} (P Q : X → Type 0) (xs : List X) → AllByRecursion P xs → AllByRecursion Q xs → AllByRecursion (λ x. P x × Q x) xs
both-of P Q [] ps qs = tt
both-of P Q (x ∷ xs) ps qs = ((ps.0, qs.0), both-of P Q xs ps.1 qs.1)

never-accepted : (a h f : Bool) → (a && not h && not (true || f)) ≡ true → ⊥
never-accepted true true f h = true≢false (sym h)
never-accepted true false f h = true≢false (sym h)
never-accepted false true f h = true≢false (sym h)
never-accepted false false f h = true≢false (sym h)

pub speaking : (b : Bool) → (b || false) ≡ true → b ≡ true
speaking true h = refl
speaking false h = absurd (true≢false (sym h))

-- two that are one
turned : (a b : Question) → same_question a b ≡ true → same_question b a ≡ true
turned a b h = by (same_question b a) refl
  where
    by : (t : Bool) → same_question b a ≡ t → t ≡ true
    by true is = refl
    by false is = absurd (true≢false (sym h ∙ not_back b a is))

or-first : (x f u : Bool) → x ≡ true → (x || f || u) ≡ true
or-first true f u h = refl
or-first false f u h = absurd (true≢false (sym h))

same-ids : (a b id : ℕ) → (a == id) ≡ true → (b == id) ≡ true → (a == b) ≡ true
same-ids a b id is too = eq-eqb a b (eqb-true a id is ∙ sym (eqb-true b id too))

-- no other subscription has its ID
nowhere : (id : ℕ) (p : Subscription → Bool) (t : Subscription) (ts : List Subscription) → (t.id == id) ≡ true → AllByRecursion (λ (y : Subscription). (t.id == y.id) ≡ false) ts → list_any (λ s. s.id == id && p s) ts ≡ true → ⊥
nowhere id p t [] is all h = true≢false (sym h)
nowhere id p t (y ∷ ts) is all h = by (y.id == id) refl h (nowhere id p t ts is all.1)
  where
    by : (b : Bool) → (y.id == id) ≡ b → ((b && p y) || list_any (λ s. s.id == id && p s) ts) ≡ true → (list_any (λ s. s.id == id && p s) ts ≡ true → ⊥) → ⊥
    by true same h rest = true≢false (sym (same-ids t.id y.id id is same) ∙ all.0)
    by false same h rest = rest h

-- of subscriptions of which no two have one ID, what is so of one with this ID is so of each with it
pub only-one : (id : ℕ) (p : Subscription → Bool) (ss : List Subscription) → IsDistinct (λ s t. s.id == t.id) ss → list_any (λ s. s.id == id && p s) ss ≡ true → AllByRecursion (λ s. (s.id == id) ≡ true → p s ≡ true) ss
unfolding IsDistinct
only-one id p [] different h = tt
only-one id p (t ∷ ts) different h = by (t.id == id) refl (p t) refl different.0 h (only-one id p ts different.1)
  where
    by : (b : Bool) → (t.id == id) ≡ b → (c : Bool) → p t ≡ c → AllByRecursion (λ (y : Subscription). (t.id == y.id) ≡ false) ts → ((b && c) || list_any (λ s. s.id == id && p s) ts) ≡ true
        → (list_any (λ s. s.id == id && p s) ts ≡ true → AllByRecursion (λ s. (s.id == id) ≡ true → p s ≡ true) ts) → AllByRecursion (λ s. (s.id == id) ≡ true → p s ≡ true) (t ∷ ts)
    by true is true so others h rest = (
      (λ same. so),
      all-weaken (λ (y : Subscription). (t.id == y.id) ≡ false) (λ y. (y.id == id) ≡ true → p y ≡ true)
          (λ y other same. absurd (true≢false (sym (same-ids t.id y.id id is same) ∙ other))) ts others,
    )
    by true is false so others h rest = absurd (nowhere id p t ts is others h)
    by false is c so others h rest = ((λ same. absurd (true≢false (sym same ∙ is))), rest h)

-- ---- with the answer

module _ (e : BothEnds) (before : List Wish) (wish : Wish) (behind : List Wish) (id : ℕ) where
  abbrev waits : Wish
  waits = record wish { standing = unanswered id }

  abbrev held : Wish
  held = record wish { standing = answered id; notices = [] }

  abbrev earlier : BothEnds
  earlier = record e { wishes = before ++ waits ∷ behind }

  abbrev later : BothEnds
  later = record e { wishes = before ++ held ∷ behind; client_established = true }

  replaced : (P : Wish → Type 0) → (P waits → P held) → AllByRecursion P (before ++ waits ∷ behind) → AllByRecursion P (before ++ held ∷ behind)
  replaced P step all = mid-all before waits (held ∷ []) behind P (step (each-behind P before (waits ∷ behind) all).0, tt) all

  zero-of : (n : ℕ) → count_of n [] ≡ 0
  zero-of n = refl

  waiting-before : (n : ℕ) → count_of n (unanswered_ids earlier) ≡ count_of n (unanswered_ids later) + cond (id == n) 1 0
  waiting-before n =
      let before_all = count-unanswered n earlier in
      let after_all = count-unanswered n later in
      let old = count-old before waits (held ∷ []) behind (λ w. unanswered_id w.standing) n in
      let new = count-new before waits (held ∷ []) behind (λ w. unanswered_id w.standing) n in
      let one = count-cons n id [] in
      let zero = zero-of n in
      omega (arith, before_all, after_all, old, new, one, zero)

  used-same : (n : ℕ) → count_of n (used_ids earlier) ≡ count_of n (used_ids later)
  used-same n =
      let before_all = count-used n earlier in
      let after_all = count-used n later in
      let old = count-old before waits (held ∷ []) behind (λ w. answered_id w.standing) n in
      let new = count-new before waits (held ∷ []) behind (λ w. answered_id w.standing) n in
      let waiting = waiting-before n in
      let one = count-cons n id [] in
      let zero = zero-of n in
      omega (arith, before_all, after_all, old, new, waiting, one, zero)

  few-later : length (before ++ waits ∷ behind) ≤ max_questions → length (before ++ held ∷ behind) ≤ max_questions
  few-later few =
      let old = length-append before (waits ∷ behind) in
      let new = length-append before (held ∷ behind) in
      omega (arith, few, old, new)

  client-later : IsSoundClient earlier → IsSoundClient later
  client-later c = record {
    wishes = record {
      few = few-later c.wishes.few;
      questions = differ-replaced before waits held behind refl c.wishes.questions;
      fit = replaced (λ w. IsTrue (is_question w.question)) (λ h. h) c.wishes.fit;
    };
    ids = all-counted (used_ids later) (λ n some. counted (used_ids earlier) c.ids n (let same = used-same n in omega (arith, same, some)));
    distinct = λ n. let same = used-same n in let most = c.distinct n in omega (arith, same, most);
    last = c.last;
    asked = replaced (λ w. IsTrue (is_asked w.standing)) (λ h. refl) c.asked;
    begun = each-one (λ w. IsTrue (not (is_answered w.standing) || true)) (λ w. or_right (not (is_answered w.standing)) true refl) (before ++ held ∷ behind);
  }

  -- ---- the rest that comes down

  fits-other : (m : ServerMessage) (ids : List ℕ) → count_of id (cons_option (id_answered m) ids) ≡ 0 → IsTrue (fits_request earlier m) → IsTrue (fits_request later m)
  fits-other (accepts other) ids none h = mid-any before waits (held ∷ []) behind (λ w. is_unanswered other w.standing && e.serves w.question) (ap (λ t. t && e.serves wish.question) (differs id other ids none)) h
  fits-other (refuses other) ids none h = mid-any before waits (held ∷ []) behind (λ w. is_unanswered other w.standing && not (e.serves w.question)) (ap (λ t. t && not (e.serves wish.question)) (differs id other ids none)) h
  fits-other (grants other) ids none h = h
  fits-other (tells notices) ids none h = refl
  fits-other (delays rcode delay) ids none h = refl

  fits-rest : (flying : List Flying) → count_of id (answer_ids flying) ≡ 0 → AllByRecursion (λ f. IsTrue (fits_request earlier f.says)) flying → AllByRecursion (λ f. IsTrue (fits_request later f.says)) flying
  fits-rest [] none all = tt
  fits-rest (f ∷ flying) none all = (fits-other f.says (answer_ids flying) none all.0, fits-rest flying (behind-answer id f.says (answer_ids flying) none) all.1)

  module _ (taken : List Made) (fs : List Flying) (ups : List ClientMessage) (note : Note) (subscribed : List Subscription) where
    abbrev the_answer : Flying
    the_answer = flies (accepts id) note subscribed

    abbrev made : Made
    made = made_of e.timers the_answer

    none-left : count_of id (id ∷ answer_ids fs) ≤ count_of id (unanswered_ids earlier) → count_of id (used_ids earlier) ≤ 1 → count_of id (answer_ids fs) ≡ 0
    none-left awaited most =
        let first = count-cons id id (answer_ids fs) in
        let one = itself id in
        let used = count-used id earlier in
        omega (arith, first, one, used, awaited, most)

    awaited-rest : (n : ℕ) → count_of n (id ∷ answer_ids fs) ≤ count_of n (unanswered_ids earlier) → count_of n (answer_ids fs) ≤ count_of n (unanswered_ids later)
    awaited-rest n most =
        let first = count-cons n id (answer_ids fs) in
        let was = waiting-before n in
        omega (arith, first, was, most)

    -- ---- the other wishes

    took-others : id < 2 ^ 16 → (ws : List Wish) → count_of id (flat_map (λ w. answered_id w.standing) ws) ≡ 0 → AllByRecursion (λ i. IsTrue (is_id i)) (flat_map (λ w. answered_id w.standing) ws)
        → AllByRecursion (TookNotices taken) ws → AllByRecursion (TookNotices (taken ++ made ∷ [])) ws
    took-others small [] none ids all = tt
    took-others small (w ∷ ws) none ids all = by w.standing none ids all.0 (λ less fewer. took-others small ws less fewer all.1)
      where
        by : (s : RequestState) → count_of id (answered_id s ++ flat_map (λ (v : Wish). answered_id v.standing) ws) ≡ 0 → AllByRecursion (λ i. IsTrue (is_id i)) (answered_id s ++ flat_map (λ (v : Wish). answered_id v.standing) ws)
            → Took taken w.notices s
            → (count_of id (flat_map (λ (v : Wish). answered_id v.standing) ws) ≡ 0 → AllByRecursion (λ i. IsTrue (is_id i)) (flat_map (λ (v : Wish). answered_id v.standing) ws) → AllByRecursion (TookNotices (taken ++ made ∷ [])) ws)
            → Took (taken ++ made ∷ []) w.notices s × AllByRecursion (TookNotices (taken ++ made ∷ [])) ws
        by not_asked none ids h others = (h, others none ids)
        by (unanswered n) none ids h others = (h, others none ids)
        by (refused rcode) none ids h others = (h, others none ids)
        by (answered n) none ids h others =
            let rest : List ℕ = flat_map (λ (v : Wish). answered_id v.standing) ws in
            let other = answer-other id n small (id-small n ids.0) (flipped n id (differs id n rest none)) in
            let same : notices_since n (taken ++ made ∷ []) ≡ notices_since n taken = notices_since-append n taken made other ∙ append-nil (notices_since n taken) in
            (h ∙ sym same, others (fewer-behind id n rest none) ids.1)

    seen-others : (ws : List Wish) → count_of id (flat_map (λ w. unanswered_id w.standing) ws) ≡ 0
        → AllByRecursion (λ w. IsTrue (is_seen e.told taken (the_answer ∷ fs) w)) ws → AllByRecursion (λ w. IsTrue (is_seen e.told (taken ++ made ∷ []) fs w)) ws
    seen-others [] none all = tt
    seen-others (w ∷ ws) none all = by w.standing none all.0 (λ less. seen-others ws less all.1)
      where
        at_last : (s : RequestState) → Seen e.told w.question subscribed fs s ≡ true → Seen e.told w.question (subscribed_at_last (taken ++ made ∷ [])) fs s ≡ true
        at_last s h = subst (λ l. Seen e.told w.question l fs s ≡ true) (sym (last-subscribed taken made)) h

        by : (s : RequestState) → count_of id (unanswered_id s ++ flat_map (λ (v : Wish). unanswered_id v.standing) ws) ≡ 0 → Seen e.told w.question (subscribed_at_last taken) (the_answer ∷ fs) s ≡ true
            → (count_of id (flat_map (λ (v : Wish). unanswered_id v.standing) ws) ≡ 0 → AllByRecursion (λ w. IsTrue (is_seen e.told (taken ++ made ∷ []) fs w)) ws)
            → (Seen e.told w.question (subscribed_at_last (taken ++ made ∷ [])) fs s ≡ true) × AllByRecursion (λ w. IsTrue (is_seen e.told (taken ++ made ∷ []) fs w)) ws
        by not_asked none h others = (refl, others none)
        by (refused rcode) none h others = (refl, others none)
        by (answered n) none h others = (
          at_last (answered n) (and_parts (is_listed e.told n w.question (subscribed_at_last taken)) (is_so_along (is_listed e.told n w.question) n true subscribed fs) h).1,
          others none,
        )
        by (unanswered n) none h others =
            let rest : List ℕ = flat_map (λ (v : Wish). unanswered_id v.standing) ws in (
              at_last (unanswered n) (subst (λ t. is_so_along (is_listed e.told n w.question) n t subscribed fs ≡ true) (differs id n rest none) h),
              others (fewer-behind id n rest none),
            )

    -- ---- what comes down

    module _ (c : IsSoundClient earlier) (d : Downward earlier taken (the_answer ∷ fs)) where
      small-id : id < 2 ^ 16
      small-id =
          let first = count-cons id id [] in
          let one = itself id in
          let old = count-old before waits (held ∷ []) behind (λ w. unanswered_id w.standing) id in
          let waiting = count-unanswered id earlier in
          let used = count-used id earlier in
          id-small id (counted (used_ids earlier) c.ids id (omega (arith, first, one, old, waiting, used)))

      -- how often its ID stands among the others
      none-of : (count_of id (flat_map (λ w. unanswered_id w.standing) before) ≡ 0) × (count_of id (flat_map (λ w. unanswered_id w.standing) behind) ≡ 0)
          × (count_of id (flat_map (λ w. answered_id w.standing) before) ≡ 0) × (count_of id (flat_map (λ w. answered_id w.standing) behind) ≡ 0)
      none-of =
          let first = count-cons id id [] in
          let one = itself id in
          let old = count-old before waits (held ∷ []) behind (λ w. unanswered_id w.standing) id in
          let old_held = count-old before waits (held ∷ []) behind (λ w. answered_id w.standing) id in
          let waiting = count-unanswered id earlier in
          let used = count-used id earlier in
          let most = c.distinct id in
          let zero = zero-of id in
          (omega (arith, first, one, old, old_held, waiting, used, most, zero), omega (arith, first, one, old, old_held, waiting, used, most, zero), omega (arith, first, one, old, old_held, waiting, used, most, zero), omega (arith, first, one, old, old_held, waiting, used, most, zero))

      held-are-ids : AllByRecursion (λ i. IsTrue (is_id i)) (flat_map (λ w. answered_id w.standing) before ++ flat_map (λ w. answered_id w.standing) behind)
      held-are-ids = subst (AllByRecursion (λ i. IsTrue (is_id i))) (flat_map-append (λ (w : Wish). answered_id w.standing) before (waits ∷ behind)) (each-behind (λ i. IsTrue (is_id i)) (unanswered_ids earlier) (held_ids earlier) c.ids)

      notices-later : AllByRecursion (TookNotices (taken ++ made ∷ [])) (before ++ held ∷ behind)
      notices-later =
          let P : ℕ → Type 0 = λ i. IsTrue (is_id i) in
          let front : List ℕ = flat_map (λ (w : Wish). answered_id w.standing) before in
          let back : List ℕ = flat_map (λ (w : Wish). answered_id w.standing) behind in
          let own : [] ≡ notices_since id (taken ++ made ∷ []) = sym (notices_since-answer id taken made (answer-itself id)) in
          each-append (TookNotices (taken ++ made ∷ [])) before (held ∷ behind)
          (took-others small-id before none-of.2 (each-front P front back held-are-ids) (each-front (TookNotices taken) before (waits ∷ behind) d.notices))
          (own, took-others small-id behind none-of.3 (each-behind P front back held-are-ids) (each-behind (TookNotices taken) before (waits ∷ behind) d.notices).1)

      seen-later : AllByRecursion (λ w. IsTrue (is_seen e.told (taken ++ made ∷ []) fs w)) (before ++ held ∷ behind)
      seen-later =
          let P : Wish → Type 0 = λ w. IsTrue (is_seen e.told taken (the_answer ∷ fs) w) in
          let waited = each-behind P before (waits ∷ behind) d.seen in
          let along : is_so_along (is_listed e.told id wish.question) id true subscribed fs ≡ true = subst (λ t. is_so_along (is_listed e.told id wish.question) id t subscribed fs ≡ true) (eq-eqb id id refl) waited.0 in
          let own : is_so_along (is_listed e.told id wish.question) id true (subscribed_at_last (taken ++ made ∷ [])) fs ≡ true =
          subst (λ l. is_so_along (is_listed e.told id wish.question) id true l fs ≡ true) (sym (last-subscribed taken made)) along in
          each-append (λ w. IsTrue (is_seen e.told (taken ++ made ∷ []) fs w)) before (held ∷ behind)
          (seen-others before none-of.0 (each-front P before (waits ∷ behind) d.seen)) (own, seen-others behind none-of.1 waited.1)

      down-later : Downward later (taken ++ made ∷ []) fs
      down-later = record {
        readable = d.readable.1;
        fits = fits-rest fs (none-left (d.awaited id) (c.distinct id)) d.fits.1;
        awaited = λ n. awaited-rest n (d.awaited n);
        notices = notices-later;
        seen = seen-later;
        told = d.told;
        homeless = replaced (λ w. IsTrue (is_homeless e w)) (λ h. refl) d.homeless;
        established = speaking e.established d.speaks.0;
        speaks = d.speaks.1;
        first = or_left (not e.established || true) (answer_comes_first (map (λ (f : Flying). f.says) fs)) (or_right (not e.established) true refl);
      }

    -- ---- what goes up

    once-rest : (n : ℕ) → count_of n (unanswered_ids earlier) ≡ count_of n (request_ids ups) + count_of n (id ∷ answer_ids fs)
        → count_of n (unanswered_ids later) ≡ count_of n (request_ids ups) + count_of n (answer_ids fs)
    once-rest n once =
        let first = count-cons n id (answer_ids fs) in
        let was = waiting-before n in
        omega (arith, first, was, once)

    none-up : count_of id (unanswered_ids earlier) ≡ count_of id (request_ids ups) + count_of id (id ∷ answer_ids fs) → count_of id (used_ids earlier) ≤ 1 → count_of id (request_ids ups) ≡ 0
    none-up once most =
        let first = count-cons id id (answer_ids fs) in
        let one = itself id in
        let used = count-used id earlier in
        omega (arith, first, one, used, once, most)

    requested-other : (m : ClientMessage) (ids : List ℕ) → count_of id (cons_option (request_id m) ids) ≡ 0 → IsTrue (is_requested earlier m) → IsTrue (is_requested later m)
    requested-other (subscribes other question) ids none h = mid-any before waits (held ∷ []) behind (λ w. is_unanswered_as other question w) (ap (λ t. t && same_question question wish.question) (differs id other ids none)) h
    requested-other (unsubscribes other) ids none h = refl
    requested-other (reconfirms rr) ids none h = refl
    requested-other (requests_keepalive other) ids none h = h

    requests-rest : (up : List ClientMessage) → count_of id (request_ids up) ≡ 0 → AllByRecursion (λ m. IsTrue (is_requested earlier m)) up → AllByRecursion (λ m. IsTrue (is_requested later m)) up
    requests-rest [] none all = tt
    requests-rest (m ∷ up) none all = (requested-other m (request_ids up) none all.0, requests-rest up (behind-request id m (request_ids up) none) all.1)

    -- an answer that is active, by the wishes
    abbrev active_by : List Wish → ServerMessage → Bool
    active_by wishes (accepts other) = list_any (λ s. s.id == other && list_any (is_unanswered_as other s.question) wishes) e.subscriptions
    active_by wishes _ = true

    answers-other : (m : ServerMessage) (ids : List ℕ) → count_of id (cons_option (id_answered m) ids) ≡ 0 → active_by (before ++ waits ∷ behind) m ≡ true → active_by (before ++ held ∷ behind) m ≡ true
    answers-other (accepts other) ids none h =
        any-weaken (λ (s : Subscription). s.id == other && list_any (is_unanswered_as other s.question) (before ++ waits ∷ behind)) (λ (s : Subscription). s.id == other && list_any (is_unanswered_as other s.question) (before ++ held ∷ behind))
        (λ s i. and-weaken (s.id == other) (list_any (is_unanswered_as other s.question) (before ++ waits ∷ behind)) (list_any (is_unanswered_as other s.question) (before ++ held ∷ behind))
        (λ j. mid-any before waits (held ∷ []) behind (λ w. is_unanswered_as other s.question w) (ap (λ t. t && same_question s.question wish.question) (differs id other ids none)) j) i) e.subscriptions h
    answers-other (refuses other) ids none h = refl
    answers-other (grants other) ids none h = refl
    answers-other (tells notices) ids none h = refl
    answers-other (delays rcode delay) ids none h = refl

    answers-rest : (flying : List Flying) → count_of id (answer_ids flying) ≡ 0 → AllByRecursion (λ f. IsTrue (is_active_answer earlier f)) flying → AllByRecursion (λ f. IsTrue (is_active_answer later f)) flying
    answers-rest [] none all = tt
    answers-rest (f ∷ flying) none all = (answers-other f.says (answer_ids flying) none all.0, answers-rest flying (behind-answer id f.says (answer_ids flying) none) all.1)

    -- what was let go has another ID, as an answer with this one came down
    go-later : (n : ℕ) → IsTrue (is_let_go earlier (the_answer ∷ fs) n) → IsTrue (is_let_go later fs n)
    go-later n h = by (n == id) refl h
      where
        by : (b : Bool) → (n == id) ≡ b
            → (list_any (λ (s : Subscription). s.id == n) e.subscriptions && not (list_any (λ (w : Wish). is_held_with n w.standing) (before ++ waits ∷ behind)) && not (b || list_any (λ (f : Flying). accepts_id n f.says) fs)) ≡ true
            → IsTrue (is_let_go later fs n)
        by true is h = absurd (never-accepted (list_any (λ (s : Subscription). s.id == n) e.subscriptions) (list_any (λ (w : Wish). is_held_with n w.standing) (before ++ waits ∷ behind)) (list_any (λ (f : Flying). accepts_id n f.says) fs) h)
        by false is h = isn't-held (list_any (λ (s : Subscription). s.id == n) e.subscriptions) (list_any (λ (w : Wish). is_held_with n w.standing) (before ++ waits ∷ behind)) (list_any (λ (w : Wish). is_held_with n w.standing) (before ++ held ∷ behind))
            (not (list_any (λ (f : Flying). accepts_id n f.says) fs)) (mid-none before waits (held ∷ []) behind (λ w. is_held_with n w.standing) (ap (λ t. t || false) is)) h

    module _ (different : IsDistinct (λ s t. s.id == t.id) e.subscriptions) (found : find (λ w. is_unanswered id w.standing) (before ++ waits ∷ behind) ≡ Some waits)
        (c : IsSoundClient earlier) (u : Upward earlier (the_answer ∷ fs) ups) where
      once-waits : count_of id (flat_map (λ w. unanswered_id w.standing) (before ++ waits ∷ behind)) ≤ 1
      once-waits =
          let used = count-used id earlier in
          let waiting = count-unanswered id earlier in
          let most = c.distinct id in
          omega (arith, used, waiting, most)

      -- the subscription has the question of the wish
      its-question : (s : Subscription) → list_any (is_unanswered_as id s.question) (before ++ waits ∷ behind) ≡ true → same_question s.question wish.question ≡ true
      its-question s h = so-of-it id (λ w. same_question s.question w.question) (before ++ waits ∷ behind) waits once-waits found h

      active-held : list_any (is_active_as id wish.question) e.subscriptions ≡ true
      active-held = any-weaken (λ (s : Subscription). s.id == id && list_any (is_unanswered_as id s.question) (before ++ waits ∷ behind)) (is_active_as id wish.question)
          (λ s h. let parts = and_parts (s.id == id) (list_any (is_unanswered_as id s.question) (before ++ waits ∷ behind)) h in
          and_from (id == s.id) (same_question wish.question s.question) (eq-eqb id s.id (sym (eqb-true s.id id parts.0))) (turned s.question wish.question (its-question s parts.1))) e.subscriptions u.answers.0

      accounted-later : (s : Subscription) → ((s.id == id) ≡ true → list_any (is_unanswered_as id s.question) (before ++ waits ∷ behind) ≡ true) → IsTrue (is_accounted_for earlier (the_answer ∷ fs) ups s) → IsTrue (is_accounted_for later fs ups s)
      accounted-later s waited h = by (s.id == id) refl h
        where
          by : (b : Bool) → (s.id == id) ≡ b
              → (list_any (is_answered_as s.id s.question) (before ++ waits ∷ behind) || (b || list_any (λ (f : Flying). accepts_id s.id f.says) fs) || list_any (unsubscribes_id s.id) ups) ≡ true
              → IsTrue (is_accounted_for later fs ups s)
          by true is h = or-first (list_any (is_answered_as s.id s.question) (before ++ held ∷ behind)) (list_any (λ (f : Flying). accepts_id s.id f.says) fs) (list_any (unsubscribes_id s.id) ups)
              (any-at (λ w. is_answered_as s.id s.question w) before held behind (and_from (s.id == id) (same_question s.question wish.question) is (its-question s (waited is))))
          by false is h = or-weaken (list_any (is_answered_as s.id s.question) (before ++ waits ∷ behind)) (list_any (is_answered_as s.id s.question) (before ++ held ∷ behind))
              (list_any (λ (f : Flying). accepts_id s.id f.says) fs) (list_any (unsubscribes_id s.id) ups) (mid-any before waits (held ∷ []) behind (λ w. is_answered_as s.id s.question w) refl) h

      up-later : count_of id (answer_ids fs) ≡ 0 → Upward later fs ups
      up-later none =
          let waited = only-one id (λ s. list_any (is_unanswered_as id s.question) (before ++ waits ∷ behind)) e.subscriptions different u.answers.0 in
          let P : Subscription → Type 0 = λ s. (s.id == id) ≡ true → list_any (is_unanswered_as id s.question) (before ++ waits ∷ behind) ≡ true in
          let Q : Subscription → Type 0 = λ s. IsTrue (is_accounted_for earlier (the_answer ∷ fs) ups s) in
          record {
            once = λ n. once-rest n (u.once n);
            requests = requests-rest ups (none-up (u.once id) (c.distinct id)) u.requests;
            answers = answers-rest fs none u.answers.1;
            let_go = all-weaken (λ n. IsTrue (is_let_go earlier (the_answer ∷ fs) n)) (λ n. IsTrue (is_let_go later fs n)) (λ n h. go-later n h) (unsubscribed_ids ups) u.let_go;
            let_go_once = u.let_go_once;
            held = replaced (λ w. IsTrue (is_held_active e w)) (λ h. active-held) u.held;
            active = all-weaken (λ s. P s × Q s) (λ s. IsTrue (is_accounted_for later fs ups s)) (λ s h. accounted-later s h.0 h.1) e.subscriptions (both-of P Q e.subscriptions waited u.active);
            accepted = u.accepted;
            no_delay = u.no_delay.1;
          }

    pub accept-taken : IsDistinct (λ s t. s.id == t.id) e.subscriptions → find (λ w. is_unanswered id w.standing) (before ++ waits ∷ behind) ≡ Some waits
        → FitsTogether earlier taken (the_answer ∷ fs) ups → FitsTogether later (taken ++ made ∷ []) fs ups
    accept-taken different found fit = record {
      timers = fit.timers;
      client = client-later fit.client;
      down = down-later fit.client fit.down;
      up = λ goes_on. up-later different found fit.client (fit.up goes_on) (none-left (fit.down.awaited id) (fit.client.distinct id));
    }

-- ---- the wish that waits

module _ (e : BothEnds) (taken : List Made) (fs : List Flying) (ups : List ClientMessage) (id : ℕ) (note : Note) (subscribed : List Subscription) (wish : Wish)
    (different : IsDistinct (λ s t. s.id == t.id) e.subscriptions)
    (found : find (λ w. is_unanswered id w.standing) e.wishes ≡ Some wish) (fit : FitsTogether e taken (flies (accepts id) note subscribed ∷ fs) ups) where
  abbrev answer_made : Made
  answer_made = made_of e.timers (flies (accepts id) note subscribed)

  its-place : Apart wish.question wish e.wishes
  its-place =
      let differ = questions-differ e.wishes fit.client.wishes.questions in
      apart wish.question wish e.wishes differ (found_own (λ w. is_unanswered id w.standing) e.wishes wish differ found)

  stands : wish ≡ record wish { standing = unanswered id }
  stands = ap (λ s. record wish { standing = s }) (waits-with id wish.standing (find_holds (λ w. is_unanswered id w.standing) e.wishes wish found))

  place : e.wishes ≡ its-place.before ++ (record wish { standing = unanswered id }) ∷ its-place.behind
  place = its-place.is ∙ ap (λ u. its-place.before ++ u ∷ its-place.behind) stands

  apart-from : FitsTogether (record e { wishes = its-place.before ++ (record wish { standing = unanswered id }) ∷ its-place.behind }) taken (flies (accepts id) note subscribed ∷ fs) ups
  apart-from = subst (λ ws. FitsTogether (record e { wishes = ws }) taken (flies (accepts id) note subscribed ∷ fs) ups) place fit

  found-there : find (λ w. is_unanswered id w.standing) (its-place.before ++ (record wish { standing = unanswered id }) ∷ its-place.behind) ≡ Some (record wish { standing = unanswered id })
  found-there = subst (λ ws. find (λ w. is_unanswered id w.standing) ws ≡ Some (record wish { standing = unanswered id })) place (found ∙ ap (λ w. Some w) stands)

  taken-there : FitsTogether (record e { wishes = its-place.before ++ (record wish { standing = answered id; notices = [] }) ∷ its-place.behind; client_established = true }) (taken ++ answer_made ∷ []) fs ups
  taken-there = accept-taken e its-place.before wish its-place.behind id taken fs ups note subscribed different found-there apart-from

  held-later : FitsTogether (with_held wish id e) (taken ++ answer_made ∷ []) fs ups
  held-later = subst (λ ws. FitsTogether (record e { wishes = ws; client_established = true }) (taken ++ answer_made ∷ []) fs ups) (sym (its-place.changed (λ w. record w { standing = answered id; notices = [] }))) taken-there

  ended-later : FitsTogether (with_ended wish e) (taken ++ answer_made ∷ []) fs (ups ++ unsubscribes id ∷ [])
  ended-later = subst (λ ws. FitsTogether (record e { wishes = ws; client_established = true }) (taken ++ answer_made ∷ []) fs (ups ++ unsubscribes id ∷ [])) (sym its-place.left)
      (held-goes (record e { client_established = true }) its-place.before (record wish { notices = [] }) its-place.behind id (taken ++ answer_made ∷ []) fs ups taken-there)

pub accepts-held : AcceptedOnesAreHeld
accepts-held e taken fs ups id note subscribed different fit =
    let one = one-waits id (λ w. e.serves w.question) e.wishes fit.down.fits.0 in
    (one.0, one.1, held-later e taken fs ups id note subscribed one.0 different one.1 fit)

pub accepts-ended : AcceptedOnesAreEnded
accepts-ended e taken fs ups id note subscribed different fit =
    let one = one-waits id (λ w. e.serves w.question) e.wishes fit.down.fits.0 in
    (one.0, one.1, ended-later e taken fs ups id note subscribed one.0 different one.1 fit)
