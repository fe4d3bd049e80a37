-- The client writes a message that asks for no subscription and ends none: a Keepalive, or a RECONFIRM.
--     keepalive-fits, reconfirm-fits      what is under way fits together with it
use Rattle.std.proofs.Common.{◌≡◌, ℕ, ◌+◌, ◌≤◌, Bool, true, false, not, ◌&&◌, ◌||◌, List, [], ◌∷◌, ◌++◌, length, Option, Some, None, sym, ap, ◌∙◌, subst, refl, true≢false, arith}
use Rattle.std.specs.Prelude.{IsTrue, IsSome, is_some, nat_le, option_to_list, ◌==◌}
use Rattle.std.specs.List.{list_any, AllByRecursion}
use Rattle.std.proofs.lemmas.Bool.{and_parts, and_from, or_left, eqb-true, eq-eqb, leb-true}
use Rattle.std.proofs.lemmas.List.{append-nil}
use Rattle.std.proofs.lemmas.List.Folds.{list_any-append}
use Rattle.std.proofs.lemmas.List.Elements.{filter_map-append}
use Rattle.dnsname.specs.Names.{is_name}
use Rattle.rrset.specs.declared.record.Rr.{Rr}
use Rattle.coalesce.proofs.ReadBack.{each-append}
use Rattle.coalesce.proofs.Packing.{each-front}
use Rattle.pushserver.proofs.hub_steps.Pairs.{all-weaken}
use Rattle.pushserver.specs.PlainHubs.{Made, Subscription, asked_of}
use Rattle.pushclient.specs.Clients.{reconfirm_message}
use Rattle.pushclient.proofs.SoundWishes.{all_behind}
use Rattle.inflight.specs.Messages.{ClientMessage, subscribes, unsubscribes, reconfirms, requests_keepalive, request_id, request_ids, unsubscribed_id, unsubscribed_ids, unsubscribes_id, accepts_id, Flying, answer_ids}
use Rattle.inflight.specs.Ends.{BothEnds, is_id, unanswered_ids, used_ids, is_keepalive_out, is_answered_as, is_requested, fits_request, taken_up, all_taken_up}
use Rattle.inflight.specs.Flight.{IsSoundClient, Downward, Upward, FitsTogether, is_let_go, is_accounted_for}
use Rattle.flight_laws.specs.Laws.{Active, with_keepalive}
use Rattle.flight_laws.proofs.TakenUp.{goes_on, taken_where}
use Rattle.flight_laws.proofs.Counting.{count-append, count-one, count-unanswered, count-used, waiting_ids, held_ids}
use Rattle.pushclient.specs.ServerMessages.{ServerMessage, accepts, refuses, grants, tells, delays}
use Rattle.pushclient.specs.SoundClients.{count_of}

-- what holds of each holds of those behind
pub each-behind : {X : Type 0} (P : X → Type 0) (xs ys : List X) → AllByRecursion P (xs ++ ys) → AllByRecursion P ys
each-behind P [] ys all = all
each-behind P (x ∷ xs) ys all = each-behind P xs ys all.1

-- ---- one message more goes up

-- one that ends no subscription
pub ends-none : (ups : List ClientMessage) (m : ClientMessage) → unsubscribed_ids (m ∷ []) ≡ [] → unsubscribed_ids (ups ++ m ∷ []) ≡ unsubscribed_ids ups
ends-none ups m none = filter_map-append unsubscribed_id ups (m ∷ []) ∙ ap (λ ids. unsubscribed_ids ups ++ ids) none ∙ append-nil (unsubscribed_ids ups)

-- the client holds it, or will by an answer that comes down
abbrev is_held_soon : BothEnds → List Flying → Subscription → Bool
is_held_soon e flying s = list_any (is_answered_as s.id s.question) e.wishes || list_any (λ f. accepts_id s.id f.says) flying

still : (a b c : Bool) → (a || b) ≡ true → (a || (b || c)) ≡ true
still true b c e = refl
still false true c e = refl
still false false c e = absurd (true≢false (sym e))

pub accounted-more : (e : BothEnds) (flying : List Flying) (ups more : List ClientMessage) (s : Subscription) → IsTrue (is_accounted_for e flying ups s) → IsTrue (is_accounted_for e flying (ups ++ more) s)
accounted-more e flying ups more s h =
    subst (λ t. (is_held_soon e flying s || t) ≡ true) (sym (list_any-append (unsubscribes_id s.id) ups more)) (still (is_held_soon e flying s) (list_any (unsubscribes_id s.id) ups) (list_any (unsubscribes_id s.id) more) h)

last-taken : (established : Bool) (o : Option Active) → IsSome o → IsSome (goes_on established [] o)
last-taken established None h = h
last-taken established (Some later) h = refl

behind-taken : (established : Bool) (ups : List ClientMessage) (m : ClientMessage) (o : Option Active)
    → ((later : Active) → IsSome (all_taken_up established later ups) → IsSome (all_taken_up established later (ups ++ m ∷ [])))
    → IsSome (goes_on established ups o) → IsSome (goes_on established (ups ++ m ∷ []) o)
behind-taken established ups m None more h = h
behind-taken established ups m (Some later) more h = more later h

-- one that is taken whatever is active
pub all_taken_up-more : (established : Bool) (m : ClientMessage) → ((later : Active) → IsSome (taken_up established later m)) → (active : Active) (ups : List ClientMessage) → IsSome (all_taken_up established active ups) → IsSome (all_taken_up established active (ups ++ m ∷ []))
all_taken_up-more established m takes active [] h = last-taken established (taken_up established active m) (takes active)
all_taken_up-more established m takes active (u ∷ ups) h =
    behind-taken established ups m (taken_up established active u) (λ later. all_taken_up-more established m takes later ups) h

-- ---- a Keepalive

module _ (e : BothEnds) (taken : List Made) (flying : List Flying) (ups : List ClientMessage) (id : ℕ)
    (none : e.keepalive_out ≡ None) (good : is_id id ≡ true) (free : count_of id (used_ids e) ≡ 0) where
  not_out : (other : ℕ) → is_keepalive_out other e ≡ false
  not_out other = ap (λ o. list_any (λ k. k == other) (option_to_list o)) none

  none_waits : (n : ℕ) → count_of n (option_to_list e.keepalive_out) ≡ 0
  none_waits n = ap (λ o. count_of n (option_to_list o)) none

  good-ids : AllByRecursion (λ i. IsTrue (is_id i)) (used_ids e) → AllByRecursion (λ i. IsTrue (is_id i)) (used_ids (with_keepalive id e))
  good-ids all =
      let P : ℕ → Type 0 = λ i. IsTrue (is_id i) in
      let front = each-front P (unanswered_ids e) (held_ids e) all in
      let waiting = each-front P (waiting_ids e) (option_to_list e.keepalive_out) front in
      each-append P (waiting_ids e ++ id ∷ []) (held_ids e) (all_behind P (waiting_ids e) id waiting good) (each-behind P (unanswered_ids e) (held_ids e) all)

  -- how often an ID is then in use
  unanswered-later : (n : ℕ) → count_of n (unanswered_ids (with_keepalive id e)) ≡ count_of n (unanswered_ids e) + count_of n (id ∷ [])
  unanswered-later n =
      let before = count-unanswered n e in
      let after = count-unanswered n (with_keepalive id e) in
      let nothing = none_waits n in
      omega (arith, before, after, nothing)

  used-later : (n : ℕ) → count_of n (used_ids (with_keepalive id e)) ≡ count_of n (used_ids e) + count_of n (id ∷ [])
  used-later n =
      let before = count-used n e in
      let after = count-used n (with_keepalive id e) in
      let waiting = unanswered-later n in
      omega (arith, before, after, waiting)

  once-used : (n : ℕ) (b : Bool) → (id == n) ≡ b → count_of n (used_ids e) ≤ 1 → count_of n (used_ids (with_keepalive id e)) ≤ 1
  once-used n true is most =
      let now = used-later n in
      let one = count-one n id true is in
      let unused : count_of n (used_ids e) ≡ 0 = subst (λ m. count_of m (used_ids e) ≡ 0) (eqb-true id n is) free in
      omega (arith, now, one, unused)
  once-used n false is most =
      let now = used-later n in
      let one = count-one n id false is in
      omega (arith, now, one, most)

  fits-later : (m : ServerMessage) → IsTrue (fits_request e m) → IsTrue (fits_request (with_keepalive id e) m)
  fits-later (accepts other) h = h
  fits-later (refuses other) h = h
  fits-later (grants other) h = absurd (true≢false (sym h ∙ not_out other))
  fits-later (tells notices) h = refl
  fits-later (delays rcode delay) h = refl

  requested-later : (m : ClientMessage) → IsTrue (is_requested e m) → IsTrue (is_requested (with_keepalive id e) m)
  requested-later (subscribes other question) h = h
  requested-later (unsubscribes other) h = refl
  requested-later (reconfirms rr) h = refl
  requested-later (requests_keepalive other) h = absurd (true≢false (sym h ∙ not_out other))

  keepalive-client : IsSoundClient e → IsSoundClient (with_keepalive id e)
  keepalive-client c = record {
    wishes = c.wishes;
    ids = good-ids c.ids;
    distinct = λ n. once-used n (id == n) refl (c.distinct n);
    last = leb-true id 65535 (and_parts (nat_le 1 id) (nat_le id 65535) good).1;
    asked = c.asked;
    begun = c.begun;
  }

  awaited-later : (n : ℕ) → count_of n (answer_ids flying) ≤ count_of n (unanswered_ids e) → count_of n (answer_ids flying) ≤ count_of n (unanswered_ids (with_keepalive id e))
  awaited-later n before = let now = unanswered-later n in omega (arith, now, before)

  keepalive-down : Downward e taken flying → Downward (with_keepalive id e) taken flying
  keepalive-down d = record {
    readable = d.readable;
    fits = all-weaken (λ (f : Flying). IsTrue (fits_request e f.says)) (λ f. IsTrue (fits_request (with_keepalive id e) f.says)) (λ f h. fits-later f.says h) flying d.fits;
    awaited = λ n. awaited-later n (d.awaited n);
    notices = d.notices;
    seen = d.seen;
    told = d.told;
    homeless = d.homeless;
    established = d.established;
    speaks = d.speaks;
    first = d.first;
  }

  -- the ID of the request goes up
  once-later : (n : ℕ) → count_of n (unanswered_ids e) ≡ count_of n (request_ids ups) + count_of n (answer_ids flying)
      → count_of n (unanswered_ids (with_keepalive id e)) ≡ count_of n (request_ids (ups ++ requests_keepalive id ∷ [])) + count_of n (answer_ids flying)
  once-later n before =
      let now = unanswered-later n in
      let up : count_of n (request_ids (ups ++ requests_keepalive id ∷ [])) ≡ count_of n (request_ids ups) + count_of n (id ∷ []) =
      ap (count_of n) (filter_map-append request_id ups (requests_keepalive id ∷ [])) ∙ count-append n (request_ids ups) (id ∷ []) in
      omega (arith, now, before, up)

  keepalive-up : Upward e flying ups → Upward (with_keepalive id e) flying (ups ++ requests_keepalive id ∷ [])
  keepalive-up u =
      let ended = sym (ends-none ups (requests_keepalive id) refl) in
      let requested = all-weaken (λ m. IsTrue (is_requested e m)) (λ m. IsTrue (is_requested (with_keepalive id e) m)) (λ m h. requested-later m h) ups u.requests in
      record {
        once = λ n. once-later n (u.once n);
        requests = all_behind (λ m. IsTrue (is_requested (with_keepalive id e) m)) ups (requests_keepalive id) requested (or_left (id == id) false (eq-eqb id id refl));
        answers = u.answers;
        let_go = subst (AllByRecursion (λ i. IsTrue (is_let_go e flying i))) ended u.let_go;
        let_go_once = λ n. subst (λ ids. count_of n ids ≤ 1) ended (u.let_go_once n);
        held = u.held;
        active = all-weaken (λ s. IsTrue (is_accounted_for e flying ups s)) (λ s. IsTrue (is_accounted_for e flying (ups ++ requests_keepalive id ∷ []) s)) (λ s h. accounted-more e flying ups (requests_keepalive id ∷ []) s h) e.subscriptions u.active;
        accepted = all_taken_up-more e.established (requests_keepalive id) (λ later. ap is_some (taken_where (is_id id) later good)) (asked_of e.subscriptions) ups u.accepted;
        no_delay = u.no_delay;
      }

  -- the client writes its Keepalive with a free ID
  pub keepalive-fits : FitsTogether e taken flying ups → FitsTogether (with_keepalive id e) taken flying (ups ++ requests_keepalive id ∷ [])
  keepalive-fits fit = record { timers = fit.timers; client = keepalive-client fit.client; down = keepalive-down fit.down; up = λ goes_on. keepalive-up (fit.up goes_on) }

-- ---- a RECONFIRM

module _ (e : BothEnds) (taken : List Made) (flying : List Flying) (ups : List ClientMessage) (rr : Rr)
    (established : IsTrue e.client_established) (named : IsTrue (is_name rr.owner)) (short : IsTrue (nat_le (length (reconfirm_message rr)) 65535)) where
  -- the session is established, as the client is
  session-established : (client session : Bool) → client ≡ true → (not client || session) ≡ true → session ≡ true
  session-established true session is h = h
  session-established false session is h = absurd (true≢false (sym is))

  taken-reconfirm : Downward e taken flying → (later : Active) → IsSome (taken_up e.established later (reconfirms rr))
  taken-reconfirm d later =
      let begun = session-established e.client_established e.established established d.established in
      ap is_some (taken_where (e.established && is_name rr.owner && nat_le (length (reconfirm_message rr)) 65535) later
      (and_from (e.established && is_name rr.owner) (nat_le (length (reconfirm_message rr)) 65535) (and_from e.established (is_name rr.owner) begun named) short))

  reconfirm-up : Downward e taken flying → Upward e flying ups → Upward e flying (ups ++ reconfirms rr ∷ [])
  reconfirm-up d u =
      let ended = sym (ends-none ups (reconfirms rr) refl) in
      let requested : request_ids ups ≡ request_ids (ups ++ reconfirms rr ∷ []) = sym (filter_map-append request_id ups (reconfirms rr ∷ []) ∙ append-nil (request_ids ups)) in
      record {
        once = λ n. subst (λ ids. count_of n (unanswered_ids e) ≡ count_of n ids + count_of n (answer_ids flying)) requested (u.once n);
        requests = all_behind (λ m. IsTrue (is_requested e m)) ups (reconfirms rr) u.requests refl;
        answers = u.answers;
        let_go = subst (AllByRecursion (λ i. IsTrue (is_let_go e flying i))) ended u.let_go;
        let_go_once = λ n. subst (λ ids. count_of n ids ≤ 1) ended (u.let_go_once n);
        held = u.held;
        active = all-weaken (λ s. IsTrue (is_accounted_for e flying ups s)) (λ s. IsTrue (is_accounted_for e flying (ups ++ reconfirms rr ∷ []) s)) (λ s h. accounted-more e flying ups (reconfirms rr ∷ []) s h) e.subscriptions u.active;
        accepted = all_taken_up-more e.established (reconfirms rr) (taken-reconfirm d) (asked_of e.subscriptions) ups u.accepted;
        no_delay = u.no_delay;
      }

  -- an established client reconfirms a record that fits into a message (RFC 8765, 6.5.1)
  pub reconfirm-fits : FitsTogether e taken flying ups → FitsTogether e taken flying (ups ++ reconfirms rr ∷ [])
  reconfirm-fits fit = record { timers = fit.timers; client = fit.client; down = fit.down; up = λ goes_on. reconfirm-up fit.down (fit.up goes_on) }
