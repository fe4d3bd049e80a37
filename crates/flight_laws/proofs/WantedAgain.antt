-- The client wants a question again that it had dropped: its wish goes to the end.
--     wanted-again      what is under way fits together as before
use Rattle.std.proofs.Common.{◌≡◌, ℕ, ◌≤◌, Bool, true, false, not, ◌&&◌, ◌||◌, List, [], ◌∷◌, ◌++◌, length, sym, ap, ◌∙◌, subst, refl, true≢false, arith}
use Rattle.std.specs.Prelude.{IsTrue, flat_map, ◌==◌}
use Rattle.std.specs.List.{list_any, AllByRecursion, IsDistinct}
use Rattle.std.proofs.lemmas.List.{length-append}
use Rattle.std.proofs.lemmas.List.Folds.{list_any-append}
use Rattle.std.proofs.lemmas.Grind.{flat_map-append}
use Rattle.push_base.specs.Limits.{max_questions}
use Rattle.rrset.specs.Records.{same_question}
use Rattle.rrset.proofs.Distinct.{distinct_push}
use Rattle.pushserver.specs.PlainHubs.{Made, Subscription}
use Rattle.pushserver.proofs.hub_steps.Pairs.{all-weaken}
use Rattle.pushclient.specs.Clients.{Wish}
use Rattle.pushclient.specs.ServerMessages.{ServerMessage, accepts, refuses, grants, tells, delays}
use Rattle.pushclient.specs.SoundClients.{count_of, is_asked}
use Rattle.pushclient.specs.Steps.{is_answered, is_unanswered}
use Rattle.pushclient.proofs.SoundWishes.{apart, all_moved, all_at, not_back}
use Rattle.inflight.specs.Messages.{ClientMessage, subscribes, unsubscribes, reconfirms, requests_keepalive, unsubscribed_ids, unsubscribes_id, Flying, accepts_id}
use Rattle.inflight.specs.Ends.{BothEnds, is_question, is_held_with, is_unanswered_as, is_answered_as, unanswered_id, answered_id, unanswered_ids, used_ids, is_requested, fits_request}
use Rattle.inflight.specs.Flight.{IsSoundClient, Downward, Upward, FitsTogether, TookNotices, is_seen, is_homeless, is_active_answer, is_let_go, is_held_active, is_accounted_for}
use Rattle.flight_laws.specs.Asking.{DroppedOnesAreWantedAgain}
use Rattle.flight_laws.proofs.Counting.{count-append, count-unanswered, count-used}
use Rattle.flight_laws.proofs.FirstFits.{counted}
use Rattle.flight_laws.proofs.Replaced.{Differ, differ-left, count-old}
use Rattle.flight_laws.proofs.Asked.{answers-weaken}
use Rattle.flight_laws.proofs.Refusals.{all-counted, or-weaken, isn't-held, questions-differ}

-- no other wish has the question of one of them
pub none-other : (before : List Wish) (w : Wish) (behind : List Wish) → Differ (before ++ w ∷ behind) → list_any (λ v. same_question v.question w.question) (before ++ behind) ≡ false
unfolding IsDistinct
none-other [] w behind h = none behind h.0
  where
    none : (ws : List Wish) → AllByRecursion (λ (y : Wish). same_question w.question y.question ≡ false) ws → list_any (λ v. same_question v.question w.question) ws ≡ false
    none [] all = refl
    none (v ∷ ws) all = ap (λ b. b || list_any (λ (v : Wish). same_question v.question w.question) ws) (not_back w.question v.question all.0) ∙ none ws all.1
none-other (v ∷ before) w behind h =
    let own : same_question v.question w.question ≡ false = all_at (λ (y : Wish). same_question v.question y.question ≡ false) before w behind h.0 in
    ap (λ b. b || list_any (λ (v : Wish). same_question v.question w.question) (before ++ behind)) own ∙ none-other before w behind h.1

module _ (e : BothEnds) (before : List Wish) (wish : Wish) (behind : List Wish) where
  abbrev again : Wish
  again = record wish { wanted = true }

  abbrev earlier : BothEnds
  earlier = record e { wishes = before ++ wish ∷ behind }

  abbrev later : BothEnds
  later = record e { wishes = (before ++ behind) ++ again ∷ [] }

  moved : (P : Wish → Type 0) → (P wish → P again) → AllByRecursion P (before ++ wish ∷ behind) → AllByRecursion P ((before ++ behind) ++ again ∷ [])
  moved P step all = all_moved P before wish again behind (step (all_at P before wish behind all)) all

  any-moved : (p : Wish → Bool) → p wish ≡ p again → list_any p (before ++ wish ∷ behind) ≡ list_any p ((before ++ behind) ++ again ∷ [])
  any-moved p own =
      let old = list_any-append p before (wish ∷ behind) in
      let new = list_any-append p (before ++ behind) (again ∷ []) in
      let both = list_any-append p before behind in
      old ∙ turned (list_any p before) (p wish) (list_any p behind) (p again) own ∙ ap (λ b. b || (p again || false)) (sym both) ∙ sym new
    where
      turned : (a b c d : Bool) → b ≡ d → (a || (b || c)) ≡ ((a || c) || (d || false))
      turned true b c d e = refl
      turned false true true true e = refl
      turned false true true false e = absurd (true≢false e)
      turned false true false true e = refl
      turned false true false false e = absurd (true≢false e)
      turned false false true d e = refl
      turned false false false false e = refl
      turned false false false true e = absurd (true≢false (sym e))

  count-moved : (ids : Wish → List ℕ) (n : ℕ) → count_of n (ids wish) ≡ count_of n (ids again) → count_of n (flat_map ids (before ++ wish ∷ behind)) ≡ count_of n (flat_map ids ((before ++ behind) ++ again ∷ []))
  count-moved ids n own =
      let old = count-old before wish [] behind ids n in
      let both = ap (count_of n) (flat_map-append ids before behind) ∙ count-append n (flat_map ids before) (flat_map ids behind) in
      let new = ap (count_of n) (flat_map-append ids (before ++ behind) (again ∷ [])) ∙ count-append n (flat_map ids (before ++ behind)) (ids again ++ []) in
      let last = count-append n (ids again) [] in
      let none : count_of n [] ≡ 0 = refl in
      omega (arith, old, both, new, last, none, own)

  unanswered-same : (n : ℕ) → count_of n (unanswered_ids earlier) ≡ count_of n (unanswered_ids later)
  unanswered-same n =
      let before_all = count-unanswered n earlier in
      let after_all = count-unanswered n later in
      let same = count-moved (λ w. unanswered_id w.standing) n refl in
      omega (arith, before_all, after_all, same)

  used-same : (n : ℕ) → count_of n (used_ids earlier) ≡ count_of n (used_ids later)
  used-same n =
      let before_all = count-used n earlier in
      let after_all = count-used n later in
      let waiting = unanswered-same n in
      let holding = count-moved (λ w. answered_id w.standing) n refl in
      omega (arith, before_all, after_all, waiting, holding)

  few-later : length (before ++ wish ∷ behind) ≤ max_questions → length ((before ++ behind) ++ again ∷ []) ≤ max_questions
  few-later few =
      let old = length-append before (wish ∷ behind) in
      let both = length-append before behind in
      let new = length-append (before ++ behind) (again ∷ []) in
      omega (arith, few, old, both, new)

  client-later : IsSoundClient earlier → IsSoundClient later
  client-later c = record {
    wishes = record {
      few = few-later c.wishes.few;
      questions = distinct_push (λ (v w : Wish). same_question v.question w.question) (before ++ behind) again (differ-left before wish behind c.wishes.questions) (none-other before wish behind c.wishes.questions);
      fit = moved (λ w. IsTrue (is_question w.question)) (λ h. h) c.wishes.fit;
    };
    ids = all-counted (used_ids later) (λ n some. counted (used_ids earlier) c.ids n (let same = used-same n in omega (arith, same, some)));
    distinct = λ n. let same = used-same n in let most = c.distinct n in omega (arith, same, most);
    last = c.last;
    asked = moved (λ w. IsTrue (is_asked w.standing)) (λ h. h) c.asked;
    begun = moved (λ w. IsTrue (not (is_answered w.standing) || e.client_established)) (λ h. h) c.begun;
  }

  fits-later : (m : ServerMessage) → IsTrue (fits_request earlier m) → IsTrue (fits_request later m)
  fits-later (accepts other) h = sym (any-moved (λ w. is_unanswered other w.standing && e.serves w.question) refl) ∙ h
  fits-later (refuses other) h = sym (any-moved (λ w. is_unanswered other w.standing && not (e.serves w.question)) refl) ∙ h
  fits-later (grants other) h = h
  fits-later (tells notices) h = refl
  fits-later (delays rcode delay) h = refl

  module _ (taken : List Made) (flying : List Flying) (ups : List ClientMessage) where
    down-later : Downward earlier taken flying → Downward later taken flying
    down-later d = record {
      readable = d.readable;
      fits = all-weaken (λ (f : Flying). IsTrue (fits_request earlier f.says)) (λ f. IsTrue (fits_request later f.says)) (λ f h. fits-later f.says h) flying d.fits;
      awaited = λ n. let same = unanswered-same n in let most = d.awaited n in omega (arith, same, most);
      notices = moved (TookNotices taken) (λ h. h) d.notices;
      seen = moved (λ w. IsTrue (is_seen e.told taken flying w)) (λ h. h) d.seen;
      told = d.told;
      homeless = moved (λ w. IsTrue (is_homeless e w)) (λ h. h) d.homeless;
      established = d.established;
      speaks = d.speaks;
      first = d.first;
    }

    requested-later : (m : ClientMessage) → IsTrue (is_requested earlier m) → IsTrue (is_requested later m)
    requested-later (subscribes other question) h = sym (any-moved (is_unanswered_as other question) refl) ∙ h
    requested-later (unsubscribes other) h = refl
    requested-later (reconfirms rr) h = refl
    requested-later (requests_keepalive other) h = h

    go-later : (n : ℕ) → IsTrue (is_let_go earlier flying n) → IsTrue (is_let_go later flying n)
    go-later n h = isn't-held (list_any (λ (s : Subscription). s.id == n) e.subscriptions) (list_any (λ (w : Wish). is_held_with n w.standing) (before ++ wish ∷ behind)) (list_any (λ (w : Wish). is_held_with n w.standing) ((before ++ behind) ++ again ∷ []))
        (not (list_any (λ (f : Flying). accepts_id n f.says) flying)) (λ j. sym (any-moved (λ w. is_held_with n w.standing) refl) ∙ j) h

    accounted-later : (s : Subscription) → IsTrue (is_accounted_for earlier flying ups s) → IsTrue (is_accounted_for later flying ups s)
    accounted-later s h = or-weaken (list_any (is_answered_as s.id s.question) (before ++ wish ∷ behind)) (list_any (is_answered_as s.id s.question) ((before ++ behind) ++ again ∷ []))
        (list_any (λ (f : Flying). accepts_id s.id f.says) flying) (list_any (unsubscribes_id s.id) ups) (λ j. sym (any-moved (is_answered_as s.id s.question) refl) ∙ j) h

    up-later : Upward earlier flying ups → Upward later flying ups
    up-later u = record {
      once = λ n. sym (unanswered-same n) ∙ u.once n;
      requests = all-weaken (λ m. IsTrue (is_requested earlier m)) (λ m. IsTrue (is_requested later m)) (λ m h. requested-later m h) ups u.requests;
      answers = all-weaken (λ f. IsTrue (is_active_answer earlier f)) (λ f. IsTrue (is_active_answer later f)) (λ (f : Flying) h. answers-weaken e.subscriptions (before ++ wish ∷ behind) ((before ++ behind) ++ again ∷ []) (λ other question j. sym (any-moved (is_unanswered_as other question) refl) ∙ j) f.says h) flying u.answers;
      let_go = all-weaken (λ n. IsTrue (is_let_go earlier flying n)) (λ n. IsTrue (is_let_go later flying n)) (λ n h. go-later n h) (unsubscribed_ids ups) u.let_go;
      let_go_once = u.let_go_once;
      held = moved (λ w. IsTrue (is_held_active e w)) (λ h. h) u.held;
      active = all-weaken (λ s. IsTrue (is_accounted_for earlier flying ups s)) (λ s. IsTrue (is_accounted_for later flying ups s)) (λ s h. accounted-later s h) e.subscriptions u.active;
      accepted = u.accepted;
      no_delay = u.no_delay;
    }

    wanted-fits : FitsTogether earlier taken flying ups → FitsTogether later taken flying ups
    wanted-fits fit = record { timers = fit.timers; client = client-later fit.client; down = down-later fit.down; up = λ goes_on. up-later (fit.up goes_on) }

pub wanted-again : DroppedOnesAreWantedAgain
wanted-again e taken flying ups question wish found fit =
    let place = apart question wish e.wishes (questions-differ e.wishes fit.client.wishes.questions) found in
    subst (λ ws. FitsTogether (record e { wishes = ws ++ (record wish { wanted = true }) ∷ [] }) taken flying ups) (sym place.left)
    (wanted-fits e place.before wish place.behind taken flying ups (subst (λ ws. FitsTogether (record e { wishes = ws }) taken flying ups) place.is fit))
