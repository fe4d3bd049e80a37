-- The session takes an UNSUBSCRIBE: the subscription with its ID goes.
--     subscriptions-ended      what is under way fits together behind it
use Rattle.std.proofs.Common.{◌≡◌, ℕ, Bool, true, false, not, ◌&&◌, ◌||◌, cond, List, [], ◌∷◌, sym, ap, ◌∙◌, subst, refl, true≢false, arith}
use Rattle.std.specs.Prelude.{IsTrue, IsSome, filter, ◌==◌}
use Rattle.std.specs.List.{list_any, AllByRecursion}
use Rattle.std.proofs.lemmas.Bool.{and_parts, and_from, eqb-true, eq-eqb}
use Rattle.rrset.specs.Records.{same_question}
use Rattle.rrset.specs.declared.record.Question.{Question}
use Rattle.pushserver.specs.PlainHubs.{Made, Subscription, asked_of}
use Rattle.pushserver.proofs.hub_steps.Pairs.{all-weaken}
use Rattle.pushclient.specs.Clients.{Wish, RequestState, not_asked, unanswered, refused, answered}
use Rattle.pushclient.specs.ServerMessages.{ServerMessage, accepts, refuses, grants, tells, delays}
use Rattle.pushclient.specs.SoundClients.{count_of}
use Rattle.inflight.specs.Messages.{ClientMessage, unsubscribes, unsubscribed_ids, unsubscribes_id, Flying, accepts_id}
use Rattle.inflight.specs.Ends.{BothEnds, is_id, is_held_with, is_unanswered_as, is_answered_as, is_active_as, is_told, all_taken_up}
use Rattle.inflight.specs.Flight.{IsSoundClient, Downward, Upward, is_active_answer, is_let_go, is_held_active, is_accounted_for}
use Rattle.flight_laws.specs.Laws.{Active}
use Rattle.flight_laws.specs.Reacting.{without_subscription, SubscriptionsAreEnded}
use Rattle.flight_laws.proofs.TakenUp.{where_allowed}
use Rattle.flight_laws.proofs.Taking.{count-cons, itself}
use Rattle.flight_laws.proofs.Refusals.{differs, fewer-behind}
use Rattle.flight_laws.proofs.MoreDown.{active_in, held_in, each-not, both-of, turned-apart}
use Rattle.flight_laws.proofs.Granting.{first-taken}

-- ---- lists

-- no number of some is this one
each-differs : (id : ℕ) (ids : List ℕ) → count_of id ids ≡ 0 → AllByRecursion (λ n. (n == id) ≡ false) ids
each-differs id [] none = tt
each-differs id (n ∷ ids) none = (differs id n ids none, each-differs id ids (fewer-behind id n ids none))

not-true : (b : Bool) → not b ≡ true → b ≡ false
not-true true h = absurd (true≢false (sym h))
not-true false h = refl

module _ (id : ℕ) where
  abbrev left : List Subscription → List Subscription
  left subscriptions = filter (λ s. not (s.id == id)) subscriptions

  -- one with another ID stays
  any-left : (p : Subscription → Bool) → ((s : Subscription) → p s ≡ true → (s.id == id) ≡ false) → (ss : List Subscription) → list_any p ss ≡ true → list_any p (left ss) ≡ true
  any-left p other [] h = h
  any-left p other (s ∷ ss) h = by (s.id == id) refl (p s) refl h (any-left p other ss)
    where
      by : (b : Bool) → (s.id == id) ≡ b → (c : Bool) → p s ≡ c → (c || list_any p ss) ≡ true → (list_any p ss ≡ true → list_any p (left ss) ≡ true) → list_any p (cond (not b) (s ∷ left ss) (left ss)) ≡ true
      by true is true so h rest = absurd (true≢false (sym is ∙ other s so))
      by true is false so h rest = rest h
      by false is true so h rest = ap (λ t. t || list_any p (left ss)) so
      by false is false so h rest = ap (λ t. t || list_any p (left ss)) so ∙ rest h

  all-left : (P : Subscription → Type 0) (ss : List Subscription) → AllByRecursion (λ s. (s.id == id) ≡ false → P s) ss → AllByRecursion P (left ss)
  all-left P [] all = tt
  all-left P (s ∷ ss) all = by (s.id == id) refl (all-left P ss all.1)
    where
      by : (b : Bool) → (s.id == id) ≡ b → AllByRecursion P (left ss) → AllByRecursion P (cond (not b) (s ∷ left ss) (left ss))
      by true is rest = rest
      by false is rest = (all.0 is, rest)

  named-left : (ss : List Subscription) → filter (λ a. not (a.0 == id)) (asked_of ss) ≡ asked_of (left ss)
  named-left [] = refl
  named-left (s ∷ ss) = by (s.id == id) (named-left ss)
    where
      by : (b : Bool) → filter (λ a. not (a.0 == id)) (asked_of ss) ≡ asked_of (left ss)
          → cond (not b) ((s.id, s.question) ∷ filter (λ a. not (a.0 == id)) (asked_of ss)) (filter (λ a. not (a.0 == id)) (asked_of ss)) ≡ asked_of (cond (not b) (s ∷ left ss) (left ss))
      by true rest = rest
      by false rest = ap (λ (l : Active). (s.id, s.question) ∷ l) rest

  -- ---- without it

  module _ (e : BothEnds) (taken : List Made) (flying : List Flying) (ups : List ClientMessage) where
    abbrev later : BothEnds
    later = without_subscription id e

    later-client : IsSoundClient e → IsSoundClient later
    later-client c = record { wishes = c.wishes; ids = c.ids; distinct = c.distinct; last = c.last; asked = c.asked; begun = c.begun }

    later-down : Downward e taken flying → Downward later taken flying
    later-down d = record {
      readable = d.readable;
      fits = d.fits;
      awaited = d.awaited;
      notices = d.notices;
      seen = d.seen;
      told = all-left (λ s. IsTrue (is_told e.told s)) e.subscriptions (all-weaken (λ s. IsTrue (is_told e.told s)) (λ s. (s.id == id) ≡ false → IsTrue (is_told e.told s)) (λ s h other. h) e.subscriptions d.told);
      homeless = d.homeless;
      established = d.established;
      speaks = d.speaks;
      first = d.first;
    }

    module _ (u : Upward e flying (unsubscribes id ∷ ups)) where
      -- it is let go: the client doesn't hold it, and no answer accepts it
      abbrev IsLetGo : Type 0
      IsLetGo = (list_any (λ (w : Wish). is_held_with id w.standing) e.wishes ≡ false) × (list_any (λ (f : Flying). accepts_id id f.says) flying ≡ false)

      gone : IsLetGo
      gone =
          let parts = and_parts (list_any (λ (s : Subscription). s.id == id) e.subscriptions && not (list_any (λ (w : Wish). is_held_with id w.standing) e.wishes)) (not (list_any (λ (f : Flying). accepts_id id f.says) flying)) u.let_go.0 in
          let first = and_parts (list_any (λ (s : Subscription). s.id == id) e.subscriptions) (not (list_any (λ (w : Wish). is_held_with id w.standing) e.wishes)) parts.0 in
          (not-true (list_any (λ (w : Wish). is_held_with id w.standing) e.wishes) first.1, not-true (list_any (λ (f : Flying). accepts_id id f.says) flying) parts.1)

      -- no other UNSUBSCRIBE has its ID
      others : AllByRecursion (λ n. (n == id) ≡ false) (unsubscribed_ids ups)
      others =
          let first = count-cons id id (unsubscribed_ids ups) in
          let one = itself id in
          let most = u.let_go_once id in
          each-differs id (unsubscribed_ids ups) (omega (arith, first, one, most))

      -- the subscription of another ID
      its-other : (n : ℕ) (s : Subscription) → (n == id) ≡ false → (s.id == n) ≡ true → (s.id == id) ≡ false
      its-other n s other is = subst (λ m. (m == id) ≡ false) (sym (eqb-true s.id n is)) other

      held-still : (q : Question) (standing : RequestState) → is_held_with id standing ≡ false → held_in e.subscriptions q standing ≡ true → held_in (left e.subscriptions) q standing ≡ true
      held-still q not_asked other h = refl
      held-still q (unanswered n) other h = refl
      held-still q (refused rcode) other h = refl
      held-still q (answered n) other h = any-left (is_active_as n q)
          (λ s i. its-other n s (turned-apart id n other) (eq-eqb s.id n (sym (eqb-true n s.id (and_parts (n == s.id) (same_question q s.question) i).0)))) e.subscriptions h

      answers-still : (m : ServerMessage) → accepts_id id m ≡ false → active_in e.wishes e.subscriptions m ≡ true → active_in e.wishes (left e.subscriptions) m ≡ true
      answers-still (accepts n) other h = any-left (λ (s : Subscription). s.id == n && list_any (is_unanswered_as n s.question) e.wishes)
          (λ s i. its-other n s (turned-apart id n other) (and_parts (s.id == n) (list_any (is_unanswered_as n s.question) e.wishes) i).0) e.subscriptions h
      answers-still (refuses n) other h = refl
      answers-still (grants n) other h = refl
      answers-still (tells notices) other h = refl
      answers-still (delays rcode delay) other h = refl

      go-still : (n : ℕ) → (n == id) ≡ false → IsTrue (is_let_go e flying n) → IsTrue (is_let_go later flying n)
      go-still n other h =
          let parts = and_parts (list_any (λ (s : Subscription). s.id == n) e.subscriptions && not (list_any (λ (w : Wish). is_held_with n w.standing) e.wishes)) (not (list_any (λ (f : Flying). accepts_id n f.says) flying)) h in
          let first = and_parts (list_any (λ (s : Subscription). s.id == n) e.subscriptions) (not (list_any (λ (w : Wish). is_held_with n w.standing) e.wishes)) parts.0 in
          and_from (list_any (λ (s : Subscription). s.id == n) (left e.subscriptions) && not (list_any (λ (w : Wish). is_held_with n w.standing) e.wishes)) (not (list_any (λ (f : Flying). accepts_id n f.says) flying))
          (and_from (list_any (λ (s : Subscription). s.id == n) (left e.subscriptions)) (not (list_any (λ (w : Wish). is_held_with n w.standing) e.wishes)) (any-left (λ (s : Subscription). s.id == n) (λ s i. its-other n s other i) e.subscriptions first.0) first.1) parts.1

      accounted-still : (s : Subscription) → IsTrue (is_accounted_for e flying (unsubscribes id ∷ ups) s) → (s.id == id) ≡ false → IsTrue (is_accounted_for later flying ups s)
      accounted-still s h other = subst (λ b. (list_any (is_answered_as s.id s.question) e.wishes || list_any (λ (f : Flying). accepts_id s.id f.says) flying || (b || list_any (unsubscribes_id s.id) ups)) ≡ true) other h

      later-up : Upward later flying ups
      later-up =
          let active : Active = asked_of e.subscriptions in
          let one = first-taken e.established active (unsubscribes id) ups u.accepted in
          let same = where_allowed (e.established && is_id id) (filter (λ a. not (a.0 == id)) active) one.0 one.1 in
          let not_held : Wish → Type 0 = λ w. is_held_with id w.standing ≡ false in
          let is_held : Wish → Type 0 = λ w. IsTrue (is_held_active e w) in
          let no_answer : Flying → Type 0 = λ f. accepts_id id f.says ≡ false in
          let is_answer : Flying → Type 0 = λ f. IsTrue (is_active_answer e f) in
          let other_id : ℕ → Type 0 = λ n. (n == id) ≡ false in
          let goes : ℕ → Type 0 = λ n. IsTrue (is_let_go e flying n) in
          record {
            once = u.once;
            requests = u.requests.1;
            answers = all-weaken (λ f. no_answer f × is_answer f) (λ f. IsTrue (is_active_answer later f)) (λ (f : Flying) h. answers-still f.says h.0 h.1) flying
                (both-of no_answer is_answer flying (each-not (λ (f : Flying). accepts_id id f.says) flying gone.1) u.answers);
            let_go = all-weaken (λ n. other_id n × goes n) (λ n. IsTrue (is_let_go later flying n)) (λ n h. go-still n h.0 h.1) (unsubscribed_ids ups) (both-of other_id goes (unsubscribed_ids ups) others u.let_go.1);
            let_go_once = λ n. let first = count-cons n id (unsubscribed_ids ups) in let most = u.let_go_once n in omega (arith, first, most);
            held = all-weaken (λ w. not_held w × is_held w) (λ w. IsTrue (is_held_active later w)) (λ (w : Wish) h. held-still w.question w.standing h.0 h.1) e.wishes
                (both-of not_held is_held e.wishes (each-not (λ (w : Wish). is_held_with id w.standing) e.wishes gone.0) u.held);
            active = all-left (λ s. IsTrue (is_accounted_for later flying ups s)) e.subscriptions
                (all-weaken (λ s. IsTrue (is_accounted_for e flying (unsubscribes id ∷ ups) s)) (λ s. (s.id == id) ≡ false → IsTrue (is_accounted_for later flying ups s)) (λ s h other. accounted-still s h other) e.subscriptions u.active);
            accepted = subst (λ l. IsSome (all_taken_up e.established l ups)) (sym same.1 ∙ named-left e.subscriptions) one.2;
            no_delay = u.no_delay;
          }

pub subscriptions-ended : SubscriptionsAreEnded
subscriptions-ended e taken flying ups id fit =
    record { timers = fit.timers; client = later-client id e taken flying ups fit.client; down = later-down id e taken flying ups fit.down; up = λ goes_on. later-up id e taken flying ups (fit.up goes_on) }
