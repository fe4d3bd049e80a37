-- The client drops a question that was refused: its wish goes.
--     refused-dropped      what is under way fits together without it
use Rattle.std.proofs.Common.{◌≡◌, ℕ, ◌≤◌, Bool, true, not, ◌&&◌, ◌||◌, List, [], ◌∷◌, ◌++◌, length, Some, sym, ap, ◌∙◌, subst, refl, arith}
use Rattle.std.specs.Prelude.{IsTrue, find, ◌==◌}
use Rattle.std.specs.List.{list_any, AllByRecursion}
use Rattle.std.proofs.lemmas.List.{length-append}
use Rattle.push_base.specs.Limits.{max_questions}
use Rattle.rrset.specs.Records.{same_question}
use Rattle.rrset.specs.declared.record.Question.{Question}
use Rattle.pushserver.specs.PlainHubs.{Made, Subscription}
use Rattle.pushserver.proofs.hub_steps.Pairs.{all-weaken}
use Rattle.pushclient.specs.Clients.{Wish, refused}
use Rattle.pushclient.specs.ServerMessages.{ServerMessage, accepts, refuses, grants, tells, delays}
use Rattle.pushclient.specs.SoundClients.{count_of, is_asked}
use Rattle.pushclient.specs.Steps.{is_answered, is_unanswered}
use Rattle.pushclient.proofs.SoundWishes.{Apart, apart, found_own}
use Rattle.inflight.specs.Messages.{ClientMessage, subscribes, unsubscribes, reconfirms, requests_keepalive, unsubscribed_ids, unsubscribes_id, Flying, accepts_id}
use Rattle.inflight.specs.Ends.{BothEnds, is_question, is_held_with, is_unanswered_as, is_answered_as, unanswered_id, answered_id, unanswered_ids, used_ids, is_requested, fits_request}
use Rattle.inflight.specs.Flight.{IsSoundClient, Downward, Upward, FitsTogether, TookNotices, is_seen, is_homeless, is_active_answer, is_let_go, is_held_active, is_accounted_for}
use Rattle.flight_laws.specs.Laws.{without_question, RefusedOnesAreDropped}
use Rattle.flight_laws.proofs.Counting.{count-unanswered, count-used}
use Rattle.flight_laws.proofs.FirstFits.{counted}
use Rattle.flight_laws.proofs.Replaced.{mid-all, mid-any, mid-none, count-old, count-new, differ-left}
use Rattle.flight_laws.proofs.Refusals.{all-counted, any-weaken, and-weaken, or-weaken, isn't-held, questions-differ}

module _ (e : BothEnds) (before : List Wish) (wish : Wish) (behind : List Wish) (rcode : ℕ) where
  abbrev refusal : Wish
  refusal = record wish { standing = refused rcode }

  abbrev earlier : BothEnds
  earlier = record e { wishes = before ++ refusal ∷ behind }

  abbrev later : BothEnds
  later = record e { wishes = before ++ behind }

  left : (P : Wish → Type 0) → AllByRecursion P (before ++ refusal ∷ behind) → AllByRecursion P (before ++ behind)
  left P all = mid-all before refusal [] behind P tt all

  zero-of : (n : ℕ) → count_of n [] ≡ 0
  zero-of n = refl

  unanswered-same : (n : ℕ) → count_of n (unanswered_ids earlier) ≡ count_of n (unanswered_ids later)
  unanswered-same n =
      let before_all = count-unanswered n earlier in
      let after_all = count-unanswered n later in
      let old = count-old before refusal [] behind (λ w. unanswered_id w.standing) n in
      let new = count-new before refusal [] behind (λ w. unanswered_id w.standing) n in
      let zero = zero-of n in
      omega (arith, before_all, after_all, old, new, zero)

  used-same : (n : ℕ) → count_of n (used_ids earlier) ≡ count_of n (used_ids later)
  used-same n =
      let before_all = count-used n earlier in
      let after_all = count-used n later in
      let old = count-old before refusal [] behind (λ w. answered_id w.standing) n in
      let new = count-new before refusal [] behind (λ w. answered_id w.standing) n in
      let waiting = unanswered-same n in
      let zero = zero-of n in
      omega (arith, before_all, after_all, old, new, waiting, zero)

  few-later : length (before ++ refusal ∷ behind) ≤ max_questions → length (before ++ behind) ≤ max_questions
  few-later few =
      let old = length-append before (refusal ∷ behind) in
      let new = length-append before behind in
      omega (arith, few, old, new)

  client-later : IsSoundClient earlier → IsSoundClient later
  client-later c = record {
    wishes = record {
      few = few-later c.wishes.few;
      questions = differ-left before refusal behind c.wishes.questions;
      fit = left (λ w. IsTrue (is_question w.question)) c.wishes.fit;
    };
    ids = all-counted (used_ids later) (λ n some. counted (used_ids earlier) c.ids n (let same = used-same n in omega (arith, same, some)));
    distinct = λ n. let same = used-same n in let most = c.distinct n in omega (arith, same, most);
    last = c.last;
    asked = left (λ w. IsTrue (is_asked w.standing)) c.asked;
    begun = left (λ w. IsTrue (not (is_answered w.standing) || e.client_established)) c.begun;
  }

  fits-later : (m : ServerMessage) → IsTrue (fits_request earlier m) → IsTrue (fits_request later m)
  fits-later (accepts other) h = mid-any before refusal [] behind (λ w. is_unanswered other w.standing && e.serves w.question) refl h
  fits-later (refuses other) h = mid-any before refusal [] behind (λ w. is_unanswered other w.standing && not (e.serves w.question)) refl h
  fits-later (grants other) h = h
  fits-later (tells notices) h = refl
  fits-later (delays code delay) h = refl

  module _ (taken : List Made) (flying : List Flying) (ups : List ClientMessage) where
    down-later : Downward earlier taken flying → Downward later taken flying
    down-later d = record {
      readable = d.readable;
      fits = all-weaken (λ (f : Flying). IsTrue (fits_request earlier f.says)) (λ f. IsTrue (fits_request later f.says)) (λ f h. fits-later f.says h) flying d.fits;
      awaited = λ n. let same = unanswered-same n in let most = d.awaited n in omega (arith, same, most);
      notices = left (TookNotices taken) d.notices;
      seen = left (λ w. IsTrue (is_seen e.told taken flying w)) d.seen;
      told = d.told;
      homeless = left (λ w. IsTrue (is_homeless e w)) d.homeless;
      established = d.established;
      speaks = d.speaks;
      first = d.first;
    }

    requested-later : (m : ClientMessage) → IsTrue (is_requested earlier m) → IsTrue (is_requested later m)
    requested-later (subscribes other question) h = mid-any before refusal [] behind (λ w. is_unanswered_as other question w) refl h
    requested-later (unsubscribes other) h = refl
    requested-later (reconfirms rr) h = refl
    requested-later (requests_keepalive other) h = h

    -- an answer that is active, by the wishes
    abbrev active_by : List Wish → ServerMessage → Bool
    active_by wishes (accepts other) = list_any (λ s. s.id == other && list_any (is_unanswered_as other s.question) wishes) e.subscriptions
    active_by wishes _ = true

    answers-later : (m : ServerMessage) → active_by (before ++ refusal ∷ behind) m ≡ true → active_by (before ++ behind) m ≡ true
    answers-later (accepts other) h =
        any-weaken (λ (s : Subscription). s.id == other && list_any (is_unanswered_as other s.question) (before ++ refusal ∷ behind)) (λ (s : Subscription). s.id == other && list_any (is_unanswered_as other s.question) (before ++ behind))
        (λ s i. and-weaken (s.id == other) (list_any (is_unanswered_as other s.question) (before ++ refusal ∷ behind)) (list_any (is_unanswered_as other s.question) (before ++ behind))
        (λ j. mid-any before refusal [] behind (λ w. is_unanswered_as other s.question w) refl j) i) e.subscriptions h
    answers-later (refuses other) h = refl
    answers-later (grants other) h = refl
    answers-later (tells notices) h = refl
    answers-later (delays code delay) h = refl

    go-later : (n : ℕ) → IsTrue (is_let_go earlier flying n) → IsTrue (is_let_go later flying n)
    go-later n h = isn't-held (list_any (λ (s : Subscription). s.id == n) e.subscriptions) (list_any (λ (w : Wish). is_held_with n w.standing) (before ++ refusal ∷ behind)) (list_any (λ (w : Wish). is_held_with n w.standing) (before ++ behind))
        (not (list_any (λ (f : Flying). accepts_id n f.says) flying)) (mid-none before refusal [] behind (λ w. is_held_with n w.standing) refl) h

    accounted-later : (s : Subscription) → IsTrue (is_accounted_for earlier flying ups s) → IsTrue (is_accounted_for later flying ups s)
    accounted-later s h = or-weaken (list_any (is_answered_as s.id s.question) (before ++ refusal ∷ behind)) (list_any (is_answered_as s.id s.question) (before ++ behind))
        (list_any (λ (f : Flying). accepts_id s.id f.says) flying) (list_any (unsubscribes_id s.id) ups) (mid-any before refusal [] behind (λ w. is_answered_as s.id s.question w) refl) h

    up-later : Upward earlier flying ups → Upward later flying ups
    up-later u = record {
      once = λ n. sym (unanswered-same n) ∙ u.once n;
      requests = all-weaken (λ m. IsTrue (is_requested earlier m)) (λ m. IsTrue (is_requested later m)) (λ m h. requested-later m h) ups u.requests;
      answers = all-weaken (λ f. IsTrue (is_active_answer earlier f)) (λ f. IsTrue (is_active_answer later f)) (λ (f : Flying) h. answers-later f.says h) flying u.answers;
      let_go = all-weaken (λ n. IsTrue (is_let_go earlier flying n)) (λ n. IsTrue (is_let_go later flying n)) (λ n h. go-later n h) (unsubscribed_ids ups) u.let_go;
      let_go_once = u.let_go_once;
      held = left (λ w. IsTrue (is_held_active e w)) u.held;
      active = all-weaken (λ s. IsTrue (is_accounted_for earlier flying ups s)) (λ s. IsTrue (is_accounted_for later flying ups s)) (λ s h. accounted-later s h) e.subscriptions u.active;
      accepted = u.accepted;
      no_delay = u.no_delay;
    }

    pub refusal-goes : FitsTogether earlier taken flying ups → FitsTogether later taken flying ups
    refusal-goes fit = record { timers = fit.timers; client = client-later fit.client; down = down-later fit.down; up = λ goes_on. up-later (fit.up goes_on) }

-- ---- the wish that was refused

module _ (e : BothEnds) (taken : List Made) (flying : List Flying) (ups : List ClientMessage) (question : Question) (wish : Wish) (rcode : ℕ)
    (found : find (λ w. same_question w.question question) e.wishes ≡ Some wish) (is : wish.standing ≡ refused rcode) (fit : FitsTogether e taken flying ups) where
  its-place : Apart wish.question wish e.wishes
  its-place =
      let differ = questions-differ e.wishes fit.client.wishes.questions in
      apart wish.question wish e.wishes differ (found_own (λ w. same_question w.question question) e.wishes wish differ found)

  stands : wish ≡ record wish { standing = refused rcode }
  stands = ap (λ s. record wish { standing = s }) is

  apart-from : FitsTogether (record e { wishes = its-place.before ++ (record wish { standing = refused rcode }) ∷ its-place.behind }) taken flying ups
  apart-from = subst (λ ws. FitsTogether (record e { wishes = ws }) taken flying ups) (its-place.is ∙ ap (λ u. its-place.before ++ u ∷ its-place.behind) stands) fit

  without-it : FitsTogether (without_question wish.question e) taken flying ups
  without-it = subst (λ ws. FitsTogether (record e { wishes = ws }) taken flying ups) (sym its-place.left) (refusal-goes e its-place.before wish its-place.behind rcode taken flying ups apart-from)

pub refused-dropped : RefusedOnesAreDropped
refused-dropped e taken flying ups question wish rcode found is fit = without-it e taken flying ups question wish rcode found is fit
