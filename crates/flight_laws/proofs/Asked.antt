-- What is active after all that goes up is taken: no more than there are wishes, and each a wish waits for or holds.
--     taken-last      one message more is taken, if it is after the others
--     answers-weaken      an answer that is active is so where at least as many wishes wait
--     all-asked      what is then active was asked for, with IDs that differ
use Rattle.std.proofs.Common.{◌≡◌, ℕ, Bool, true, false, not, ◌&&◌, ◌||◌, cond, List, [], ◌∷◌, ◌++◌, length, Option, Some, None, sym, ap, ◌∙◌, subst, refl, true≢false}
use Rattle.std.specs.Prelude.{IsTrue, IsSome, filter, nat_le, ◌==◌}
use Rattle.std.specs.List.{list_any, AllByRecursion, IsDistinct}
use Rattle.std.proofs.lemmas.Bool.{or_left, or_parts, eqb-true}
use Rattle.push_base.specs.Limits.{max_questions}
use Rattle.dnsname.specs.Names.{is_name}
use Rattle.rrset.specs.Records.{same_question}
use Rattle.rrset.specs.declared.record.Question.{Question}
use Rattle.rrset.proofs.Distinct.{distinct_push}
use Rattle.rrset.proofs.Places.{all_filter}
use Rattle.pushserver.specs.PlainHubs.{Subscription, asked_of}
use Rattle.pushserver.proofs.hub_steps.Pairs.{all-weaken}
use Rattle.pushclient.specs.Clients.{Wish, reconfirm_message}
use Rattle.pushclient.specs.ServerMessages.{ServerMessage, accepts, refuses, grants, tells, delays}
use Rattle.pushclient.proofs.SoundWishes.{all_behind, all_map}
use Rattle.inflight.specs.Messages.{ClientMessage, subscribes, unsubscribes, reconfirms, requests_keepalive, unsubscribes_id, Flying, accepts_id}
use Rattle.inflight.specs.Ends.{BothEnds, is_id, is_question, is_unanswered_as, is_answered_as, is_requested, taken_up, all_taken_up}
use Rattle.inflight.specs.Flight.{Upward, is_active_answer, is_accounted_for}
use Rattle.flight_laws.specs.Laws.{Active}
use Rattle.flight_laws.proofs.Accepting.{only-one, both-of}
use Rattle.flight_laws.proofs.Refusals.{any-weaken, and-weaken}
use Rattle.flight_laws.proofs.TakenUp.{goes_on, unless_refused, where_allowed, three_false}

-- ---- one message more

last-alone : (established : Bool) (m : ClientMessage) (active : Active) → IsSome (taken_up established active m) → IsSome (all_taken_up established active (m ∷ []))
last-alone established m active h = by (taken_up established active m) h
  where
    by : (o : Option Active) → IsSome o → IsSome (goes_on established [] o)
    by None h = h
    by (Some later) h = refl

pub taken-last : (established : Bool) (m : ClientMessage) (active : Active) (ups : List ClientMessage) → ((last : Active) → all_taken_up established active ups ≡ Some last → IsSome (taken_up established last m))
    → IsSome (all_taken_up established active ups) → IsSome (all_taken_up established active (ups ++ m ∷ []))
taken-last established m active [] takes h = last-alone established m active (takes active refl)
taken-last established m active (u ∷ ups) takes h = by (taken_up established active u) (λ later. taken-last established m later ups) takes h
  where
    by : (o : Option Active)
        → ((later : Active) → ((last : Active) → all_taken_up established later ups ≡ Some last → IsSome (taken_up established last m)) → IsSome (all_taken_up established later ups) → IsSome (all_taken_up established later (ups ++ m ∷ [])))
        → ((last : Active) → goes_on established ups o ≡ Some last → IsSome (taken_up established last m)) → IsSome (goes_on established ups o) → IsSome (goes_on established (ups ++ m ∷ []) o)
    by None rest takes h = h
    by (Some later) rest takes h = rest later takes h

-- ---- answers that are active

-- by the wishes that wait
abbrev pub active_by : List Subscription → List Wish → ServerMessage → Bool
active_by subscriptions wishes (accepts id) = list_any (λ s. s.id == id && list_any (is_unanswered_as id s.question) wishes) subscriptions
active_by subscriptions wishes _ = true

-- where at least as many wait
pub answers-weaken : (subscriptions : List Subscription) (ws vs : List Wish) → ((id : ℕ) (question : Question) → list_any (is_unanswered_as id question) ws ≡ true → list_any (is_unanswered_as id question) vs ≡ true)
    → (m : ServerMessage) → active_by subscriptions ws m ≡ true → active_by subscriptions vs m ≡ true
answers-weaken subscriptions ws vs step (accepts id) h =
    any-weaken (λ (s : Subscription). s.id == id && list_any (is_unanswered_as id s.question) ws) (λ (s : Subscription). s.id == id && list_any (is_unanswered_as id s.question) vs)
    (λ s i. and-weaken (s.id == id) (list_any (is_unanswered_as id s.question) ws) (list_any (is_unanswered_as id s.question) vs) (step id s.question) i) subscriptions h
answers-weaken subscriptions ws vs step (refuses id) h = refl
answers-weaken subscriptions ws vs step (grants id) h = refl
answers-weaken subscriptions ws vs step (tells notices) h = refl
answers-weaken subscriptions ws vs step (delays rcode delay) h = refl

-- ---- what was asked for

module _ (e : BothEnds) where
  -- a wish waits for it, or holds it
  abbrev pub is_wished : ℕ × Question → Bool
  is_wished a = list_any (is_unanswered_as a.0 a.1) e.wishes || list_any (is_answered_as a.0 a.1) e.wishes

  -- or it is ended by one of some messages
  abbrev pub is_asked_or_ended : List ClientMessage → ℕ × Question → Bool
  is_asked_or_ended ups a = is_wished a || list_any (unsubscribes_id a.0) ups

  abbrev pub IsAskedFor : List ClientMessage → Active → Type 0
  IsAskedFor ups active = AllByRecursion (λ a. IsTrue (is_asked_or_ended ups a)) active × IsDistinct (λ a b. a.0 == b.0) active

  -- ---- one message

  behind-other : (a : ℕ × Question) (m : ClientMessage) (ups : List ClientMessage) → unsubscribes_id a.0 m ≡ false → IsTrue (is_asked_or_ended (m ∷ ups) a) → IsTrue (is_asked_or_ended ups a)
  behind-other a m ups other h = subst (λ b. (is_wished a || (b || list_any (unsubscribes_id a.0) ups)) ≡ true) other h

  all-behind-other : (m : ClientMessage) (ups : List ClientMessage) → ((id : ℕ) → unsubscribes_id id m ≡ false) → (active : Active) → AllByRecursion (λ a. IsTrue (is_asked_or_ended (m ∷ ups) a)) active → AllByRecursion (λ a. IsTrue (is_asked_or_ended ups a)) active
  all-behind-other m ups other active all = all-weaken (λ a. IsTrue (is_asked_or_ended (m ∷ ups) a)) (λ a. IsTrue (is_asked_or_ended ups a)) (λ a h. behind-other a m ups (other a.0) h) active all

  none-of-id : (id : ℕ) (question : Question) (active : Active) → list_any (λ a. a.0 == id || same_question a.1 question) active ≡ false → list_any (λ a. a.0 == id) active ≡ false
  none-of-id id question [] none = refl
  none-of-id id question (a ∷ active) none =
      let parts = or_parts (a.0 == id || same_question a.1 question) (list_any (λ b. b.0 == id || same_question b.1 question) active) none in
      let own = or_parts (a.0 == id) (same_question a.1 question) parts.0 in
      let rest = none-of-id id question active parts.1 in
      ap (λ b. b || list_any (λ c. c.0 == id) active) own.0 ∙ rest

  asked-behind : (established : Bool) (active : Active) (id : ℕ) (question : Question) (ups : List ClientMessage) (later : Active) → IsTrue (is_requested e (subscribes id question))
      → taken_up established active (subscribes id question) ≡ Some later → IsAskedFor (subscribes id question ∷ ups) active → IsAskedFor ups later
  asked-behind established active id question ups later requested is asked =
      let bad : Bool = not (is_id id && is_question question) in
      let same : Bool = list_any (λ a. a.0 == id || same_question a.1 question) active in
      let many : Bool = nat_le max_questions (length active) in
      let taken = unless_refused (bad || same || many) (active ++ (id, question) ∷ []) later is in
      let parts = three_false bad same many taken.0 in
      let new = or_left (is_wished (id, question)) (list_any (unsubscribes_id id) ups) (or_left (list_any (is_unanswered_as id question) e.wishes) (list_any (is_answered_as id question) e.wishes) requested) in
      let all = all-behind-other (subscribes id question) ups (λ n. refl) active asked.0 in
      subst (IsAskedFor ups) taken.1 (
        all_behind (λ a. IsTrue (is_asked_or_ended ups a)) active (id, question) all new,
        distinct_push (λ (a b : ℕ × Question). a.0 == b.0) active (id, question) asked.1 (none-of-id id question active parts.1),
      )

  stays-asked : (id : ℕ) (ups : List ClientMessage) (a : ℕ × Question) (b : Bool) → (a.0 == id) ≡ b → not b ≡ true → IsTrue (is_asked_or_ended (unsubscribes id ∷ ups) a) → IsTrue (is_asked_or_ended ups a)
  stays-asked id ups a true is stays h = absurd (true≢false (sym stays))
  stays-asked id ups a false is stays h = behind-other a (unsubscribes id) ups is h

  left-asked : (id : ℕ) (ups : List ClientMessage) (active : Active) → AllByRecursion (λ a. IsTrue (is_asked_or_ended (unsubscribes id ∷ ups) a)) active
      → AllByRecursion (λ a. IsTrue (is_asked_or_ended ups a)) (filter (λ a. not (a.0 == id)) active)
  left-asked id ups [] all = tt
  left-asked id ups (a ∷ active) all = by (a.0 == id) refl (left-asked id ups active all.1)
    where
      by : (b : Bool) → (a.0 == id) ≡ b → AllByRecursion (λ a. IsTrue (is_asked_or_ended ups a)) (filter (λ a. not (a.0 == id)) active)
          → AllByRecursion (λ a. IsTrue (is_asked_or_ended ups a)) (cond (not b) (a ∷ filter (λ a. not (a.0 == id)) active) (filter (λ a. not (a.0 == id)) active))
      by true is rest = rest
      by false is rest = (stays-asked id ups a false is refl all.0, rest)

  left-differ : (id : ℕ) (active : Active) → IsDistinct (λ a b. a.0 == b.0) active → IsDistinct (λ a b. a.0 == b.0) (filter (λ a. not (a.0 == id)) active)
  unfolding IsDistinct
  left-differ id [] h = tt
  left-differ id (a ∷ active) h = by (a.0 == id) (left-differ id active h.1)
    where
      by : (b : Bool) → IsDistinct (λ a b. a.0 == b.0) (filter (λ a. not (a.0 == id)) active) → IsDistinct (λ a b. a.0 == b.0) (cond (not b) (a ∷ filter (λ a. not (a.0 == id)) active) (filter (λ a. not (a.0 == id)) active))
      by true rest = rest
      by false rest = (all_filter (λ (y : ℕ × Question). (a.0 == y.0) ≡ false) (λ y. not (y.0 == id)) active h.0, rest)

  one-behind : (established : Bool) (active : Active) (m : ClientMessage) (ups : List ClientMessage) (later : Active) → IsTrue (is_requested e m) → taken_up established active m ≡ Some later → IsAskedFor (m ∷ ups) active → IsAskedFor ups later
  one-behind established active (subscribes id question) ups later requested is asked = asked-behind established active id question ups later requested is asked
  one-behind established active (unsubscribes id) ups later requested is asked =
      let taken = where_allowed (established && is_id id) (filter (λ (a : ℕ × Question). not (a.0 == id)) active) later is in
      subst (IsAskedFor ups) taken.1 (left-asked id ups active asked.0, left-differ id active asked.1)
  one-behind established active (reconfirms rr) ups later requested is asked =
      let taken = where_allowed (established && is_name rr.owner && nat_le (length (reconfirm_message rr)) 65535) active later is in
      subst (IsAskedFor ups) taken.1 (all-behind-other (reconfirms rr) ups (λ n. refl) active asked.0, asked.1)
  one-behind established active (requests_keepalive id) ups later requested is asked =
      let taken = where_allowed (is_id id) active later is in
      subst (IsAskedFor ups) taken.1 (all-behind-other (requests_keepalive id) ups (λ n. refl) active asked.0, asked.1)

  -- ---- all messages

  all-behind : (established : Bool) (active : Active) (ups : List ClientMessage) (last : Active) → AllByRecursion (λ m. IsTrue (is_requested e m)) ups → all_taken_up established active ups ≡ Some last → IsAskedFor ups active → IsAskedFor [] last
  all-behind established active [] last requested is asked = subst (IsAskedFor []) (own active last is) asked
    where
      own : (a b : Active) → Some a ≡ Some b → a ≡ b
      own a b e = cc
  all-behind established active (m ∷ ups) last requested is asked = by (taken_up established active m) refl is (λ later. all-behind established later ups last requested.1)
    where
      by : (o : Option Active) → taken_up established active m ≡ o → goes_on established ups o ≡ Some last
          → ((later : Active) → all_taken_up established later ups ≡ Some last → IsAskedFor ups later → IsAskedFor [] last) → IsAskedFor [] last
      by None taken is rest = absurd cc
      by (Some later) taken is rest = rest later is (one-behind established active m ups later requested.0 taken asked)

  -- ---- what is active

  -- where an answer comes down, a wish waits with the question of the subscription
  abbrev waited_for : Subscription → Bool
  waited_for s = list_any (is_unanswered_as s.id s.question) e.wishes

  never : (subscriptions : List Subscription) → AllByRecursion (λ s. false ≡ true → IsTrue (waited_for s)) subscriptions
  never [] = tt
  never (s ∷ subscriptions) = ((λ no. absurd (true≢false (sym no))), never subscriptions)

  by-answer : IsDistinct (λ s t. s.id == t.id) e.subscriptions → (m : ServerMessage) → active_by e.subscriptions e.wishes m ≡ true → AllByRecursion (λ s. accepts_id s.id m ≡ true → IsTrue (waited_for s)) e.subscriptions
  by-answer different (accepts id) h =
      all-weaken (λ (s : Subscription). (s.id == id) ≡ true → list_any (is_unanswered_as id s.question) e.wishes ≡ true) (λ s. (s.id == id) ≡ true → IsTrue (waited_for s))
      (λ s waits is. subst (λ n. list_any (is_unanswered_as n s.question) e.wishes ≡ true) (sym (eqb-true s.id id is)) (waits is)) e.subscriptions
      (only-one id (λ s. list_any (is_unanswered_as id s.question) e.wishes) e.subscriptions different h)
  by-answer different (refuses id) h = never e.subscriptions
  by-answer different (grants id) h = never e.subscriptions
  by-answer different (tells notices) h = never e.subscriptions
  by-answer different (delays rcode delay) h = never e.subscriptions

  either : (b c : Bool) {P : Type 0} → (b ≡ true → P) → (c ≡ true → P) → (b || c) ≡ true → P
  either true c first second h = first refl
  either false c first second h = second h

  by-answers : IsDistinct (λ s t. s.id == t.id) e.subscriptions → (flying : List Flying) → AllByRecursion (λ f. IsTrue (is_active_answer e f)) flying
      → AllByRecursion (λ s. list_any (λ f. accepts_id s.id f.says) flying ≡ true → IsTrue (waited_for s)) e.subscriptions
  by-answers different [] all = never e.subscriptions
  by-answers different (f ∷ flying) all =
      let P : Subscription → Type 0 = λ s. accepts_id s.id f.says ≡ true → IsTrue (waited_for s) in
      let Q : Subscription → Type 0 = λ s. list_any (λ (g : Flying). accepts_id s.id g.says) flying ≡ true → IsTrue (waited_for s) in
      all-weaken (λ s. P s × Q s) (λ (s : Subscription). list_any (λ (g : Flying). accepts_id s.id g.says) (f ∷ flying) ≡ true → IsTrue (waited_for s))
      (λ s h. either (accepts_id s.id f.says) (list_any (λ (g : Flying). accepts_id s.id g.says) flying) h.0 h.1) e.subscriptions
      (both-of P Q e.subscriptions (by-answer different f.says all.0) (by-answers different flying all.1))

  -- held, or its answer comes down, or it is let go
  three-ways : (waits held comes ends : Bool) → (comes ≡ true → waits ≡ true) → (held || comes || ends) ≡ true → ((waits || held) || ends) ≡ true
  three-ways true held comes ends soon h = refl
  three-ways false true comes ends soon h = refl
  three-ways false false true ends soon h = absurd (true≢false (sym (soon refl)))
  three-ways false false false ends soon h = h

  differ-ids : (subscriptions : List Subscription) → IsDistinct (λ s t. s.id == t.id) subscriptions → IsDistinct (λ a b. a.0 == b.0) (asked_of subscriptions)
  unfolding IsDistinct
  differ-ids [] h = tt
  differ-ids (s ∷ subscriptions) h = (
    all_map (λ (t : Subscription). (s.id == t.id) ≡ false) (λ (a : ℕ × Question). (s.id == a.0) ≡ false) (λ t. (t.id, t.question)) (λ t other. other) subscriptions h.0,
    differ-ids subscriptions h.1,
  )

  active-asked : (flying : List Flying) (ups : List ClientMessage) → IsDistinct (λ s t. s.id == t.id) e.subscriptions → Upward e flying ups → IsAskedFor ups (asked_of e.subscriptions)
  active-asked flying ups different u =
      let P : Subscription → Type 0 = λ s. list_any (λ (f : Flying). accepts_id s.id f.says) flying ≡ true → IsTrue (waited_for s) in
      let Q : Subscription → Type 0 = λ s. IsTrue (is_accounted_for e flying ups s) in (
        all_map (λ s. P s × Q s) (λ a. IsTrue (is_asked_or_ended ups a)) (λ (s : Subscription). (s.id, s.question))
            (λ s h. three-ways (waited_for s) (list_any (is_answered_as s.id s.question) e.wishes) (list_any (λ (f : Flying). accepts_id s.id f.says) flying) (list_any (unsubscribes_id s.id) ups) h.0 h.1) e.subscriptions
            (both-of P Q e.subscriptions (by-answers different flying u.answers) u.active),
        differ-ids e.subscriptions different,
      )

  -- what is active behind all that goes up
  pub all-asked : (flying : List Flying) (ups : List ClientMessage) (last : Active) → IsDistinct (λ s t. s.id == t.id) e.subscriptions → Upward e flying ups
      → all_taken_up e.established (asked_of e.subscriptions) ups ≡ Some last → IsAskedFor [] last
  all-asked flying ups last different u is = all-behind e.established (asked_of e.subscriptions) ups last u.requests is (active-asked flying ups different u)
