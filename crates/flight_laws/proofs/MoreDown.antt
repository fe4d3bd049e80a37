-- One message more comes down, made while what is active now was active: sentence by sentence.
--     seen-more      what is seen along the messages is seen along it
--     more-answer, more-silent, enough-wait      the IDs of answers
--     first-more, first-answer      what comes first
--     listed-more, let-go-more      what goes up
use Rattle.std.proofs.Common.{◌≡◌, ℕ, ◌+◌, ◌≤◌, Bool, true, false, not, ◌&&◌, ◌||◌, List, [], ◌∷◌, ◌++◌, map, sym, ap, ◌∙◌, subst, refl, true≢false, arith}
use Rattle.std.specs.Prelude.{IsTrue, flat_map, ◌==◌}
use Rattle.std.specs.List.{list_any, AllByRecursion}
use Rattle.std.proofs.lemmas.Bool.{and_parts, and_from, or_parts, eqb-true, eq-eqb}
use Rattle.std.proofs.lemmas.List.{append-nil, append_assoc}
use Rattle.std.proofs.lemmas.List.Folds.{list_any-append}
use Rattle.std.proofs.lemmas.List.Elements.{filter_map-append}
use Rattle.rrset.specs.Records.{same_question}
use Rattle.rrset.specs.declared.record.Question.{Question}
use Rattle.pushserver.specs.PlainHubs.{Made, Subscription}
use Rattle.pushclient.specs.Clients.{Wish, RequestState, not_asked, unanswered, refused, answered}
use Rattle.pushclient.specs.ServerMessages.{ServerMessage, accepts, refuses, grants, tells, delays}
use Rattle.pushclient.specs.FittingMessages.{id_answered}
use Rattle.pushclient.specs.SoundClients.{count_of}
use Rattle.pushclient.specs.Steps.{is_unanswered}
use Rattle.pushclient.proofs.SoundWishes.{question_itself, same_as}
use Rattle.inflight.specs.Messages.{Flying, answer_ids, accepts_id, is_refusal, answer_comes_first}
use Rattle.inflight.specs.Ends.{BothEnds, is_held_with, is_unanswered_as, is_active_as, unanswered_id, is_told, subscribed_at_last}
use Rattle.inflight.specs.Flight.{IsSoundClient, is_listed, is_so_along, is_seen, is_active_answer, is_let_go, is_held_active}
use Rattle.flight_laws.proofs.Along.{along-more}
use Rattle.flight_laws.proofs.Counting.{count-behind, count-one, count-unanswered, count-used, waiting_ids}
use Rattle.flight_laws.proofs.Writing.{each-behind}
use Rattle.flight_laws.proofs.Taking.{count-cons, Seen}
use Rattle.flight_laws.proofs.FirstFits.{one-waits, counts-waiting}
use Rattle.flight_laws.proofs.Replaced.{count-old}
use Rattle.flight_laws.proofs.Refusals.{any-weaken}

-- ---- lists

-- what is so of each, by its place
module _ {X : Type 0} (P : X → Type 0) (whole : List X) where
  placed : (front rest : List X) → whole ≡ front ++ rest → ((before : List X) (x : X) (behind : List X) → whole ≡ before ++ x ∷ behind → P x) → AllByRecursion P rest
  placed front [] is each = tt
  placed front (x ∷ rest) is each = (each front x rest is, placed (front ++ x ∷ []) rest (is ∙ sym (append_assoc front (x ∷ []) rest)) each)

  pub all-placed : ((before : List X) (x : X) (behind : List X) → whole ≡ before ++ x ∷ behind → P x) → AllByRecursion P whole
  all-placed each = placed [] whole refl each

at-place : {X : Type 0} (P : X → Type 0) (whole before : List X) (x : X) (behind : List X) → whole ≡ before ++ x ∷ behind → AllByRecursion P whole → P x
at-place P whole before x behind is all = (each-behind P before (x ∷ behind) (subst (AllByRecursion P) is all)).0

-- of what passes one test each passes the other
any-both : {X : Type 0} (p q : X → Bool) (xs : List X) → AllByRecursion (λ x. IsTrue (q x)) xs → list_any p xs ≡ true → list_any (λ x. p x && q x) xs ≡ true
any-both p q [] all h = h
any-both p q (x ∷ xs) all h = by (p x) (q x) all.0 h (any-both p q xs all.1)
  where
    by : (b c : Bool) → c ≡ true → (b || list_any p xs) ≡ true → (list_any p xs ≡ true → list_any (λ x. p x && q x) xs ≡ true) → ((b && c) || list_any (λ x. p x && q x) xs) ≡ true
    by true true is h rest = refl
    by true false is h rest = absurd (true≢false (sym is))
    by false c is h rest = rest h

pub any-front : {X : Type 0} (p : X → Bool) (xs ys : List X) → list_any p xs ≡ true → list_any p (xs ++ ys) ≡ true
any-front p xs ys h = list_any-append p xs ys ∙ ap (λ b. b || list_any p ys) h

pub any-last : {X : Type 0} (p : X → Bool) (xs : List X) (y : X) → p y ≡ true → list_any p (xs ++ y ∷ []) ≡ true
any-last p xs y h = list_any-append p xs (y ∷ []) ∙ by (list_any p xs) (p y) h
  where
    by : (a b : Bool) → b ≡ true → (a || (b || false)) ≡ true
    by true b h = refl
    by false true h = refl
    by false false h = absurd (true≢false (sym h))

-- one that doesn't pass changes nothing
pub any-silent : {X : Type 0} (p : X → Bool) (xs : List X) (y : X) → p y ≡ false → list_any p (xs ++ y ∷ []) ≡ list_any p xs
any-silent p xs y h = list_any-append p xs (y ∷ []) ∙ by (list_any p xs) (p y) h
  where
    by : (a b : Bool) → b ≡ false → (a || (b || false)) ≡ a
    by true b h = refl
    by false false h = refl
    by false true h = absurd (true≢false h)

-- where none passes
pub each-not : {X : Type 0} (p : X → Bool) (xs : List X) → list_any p xs ≡ false → AllByRecursion (λ x. p x ≡ false) xs
each-not p [] h = tt
each-not p (x ∷ xs) h = let parts = or_parts (p x) (list_any p xs) h in (parts.0, each-not p xs parts.1)

-- two things that are so of each
pub both-of : {X : Type 0} (P Q : X → Type 0) (xs : List X) → AllByRecursion P xs → AllByRecursion Q xs → AllByRecursion (λ x. P x × Q x) xs
both-of P Q [] ps qs = tt
both-of P Q (x ∷ xs) ps qs = ((ps.0, qs.0), both-of P Q xs ps.1 qs.1)

pub turned-apart : (n id : ℕ) → (n == id) ≡ false → (id == n) ≡ false
turned-apart n id h = by (id == n) refl
  where
    by : (b : Bool) → (id == n) ≡ b → b ≡ false
    by true is = absurd (true≢false (sym (eq-eqb n id (sym (eqb-true id n is))) ∙ h))
    by false is = refl

-- ---- the wishes

-- one that waits with an ID with which no other does: what is so of one that waits with it is so of it
so-of-placed : (id : ℕ) (r : Wish → Bool) (before : List Wish) (w : Wish) (behind : List Wish) → w.standing ≡ unanswered id → count_of id (flat_map (λ v. unanswered_id v.standing) (before ++ w ∷ behind)) ≤ 1
    → list_any (λ v. is_unanswered id v.standing && r v) (before ++ w ∷ behind) ≡ true → r w ≡ true
so-of-placed id r before w behind waits most h =
    by (list_any (λ v. is_unanswered id v.standing && r v) before) refl (is_unanswered id w.standing) (r w) refl (list_any (λ v. is_unanswered id v.standing && r v) behind) refl
    (sym (list_any-append (λ (v : Wish). is_unanswered id v.standing && r v) before (w ∷ behind)) ∙ h)
  where
    own : count_of id (unanswered_id w.standing) ≡ 1
    own = ap (λ s. count_of id (unanswered_id s)) waits ∙ count-one id id true (eq-eqb id id refl)

    by : (a : Bool) → list_any (λ v. is_unanswered id v.standing && r v) before ≡ a → (u c : Bool) → r w ≡ c → (d : Bool) → list_any (λ v. is_unanswered id v.standing && r v) behind ≡ d
        → (a || ((u && c) || d)) ≡ true → r w ≡ true
    by true is u c so d other h =
        let one = one-waits id r before is in
        let some = counts-waiting id before one.0 one.1 in
        let all = count-old before w [] behind (λ v. unanswered_id v.standing) id in
        let mine = own in
        absurd (omega (arith, some, all, mine, most))
    by false is u true so d other h = so
    by false is u false so true other h =
        let one = one-waits id r behind other in
        let some = counts-waiting id behind one.0 one.1 in
        let all = count-old before w [] behind (λ v. unanswered_id v.standing) id in
        let mine = own in
        absurd (omega (arith, some, all, mine, most))
    by false is true false so false other h = absurd (true≢false (sym h))
    by false is false false so false other h = absurd (true≢false (sym h))

-- by what it says: a subscription whose answer comes down is active
abbrev pub active_in : List Wish → List Subscription → ServerMessage → Bool
active_in wishes subscriptions (accepts id) = list_any (λ s. s.id == id && list_any (is_unanswered_as id s.question) wishes) subscriptions
active_in wishes subscriptions _ = true

-- by how a wish stands: what the client holds is active
abbrev pub held_in : List Subscription → Question → RequestState → Bool
held_in subscriptions question (answered id) = list_any (is_active_as id question) subscriptions
held_in subscriptions question _ = true

module _ (e : BothEnds) where
  -- no two wishes wait with one ID
  once-waits : IsSoundClient e → (id : ℕ) → count_of id (waiting_ids e) ≤ 1
  once-waits c id =
      let used = count-used id e in
      let waiting = count-unanswered id e in
      let most = c.distinct id in
      omega (arith, used, waiting, most)

  answered-active : (id : ℕ) (flying : List Flying) → AllByRecursion (λ f. IsTrue (is_active_answer e f)) flying → list_any (λ f. accepts_id id f.says) flying ≡ true
      → list_any (λ s. s.id == id && list_any (is_unanswered_as id s.question) e.wishes) e.subscriptions ≡ true
  answered-active id [] all h = absurd (true≢false (sym h))
  answered-active id (f ∷ flying) all h = by f.says all.0 h (answered-active id flying all.1)
    where
      by_id : (other : ℕ) (b : Bool) → (id == other) ≡ b → active_in e.wishes e.subscriptions (accepts other) ≡ true → (b || list_any (λ (g : Flying). accepts_id id g.says) flying) ≡ true
          → (list_any (λ (g : Flying). accepts_id id g.says) flying ≡ true → active_in e.wishes e.subscriptions (accepts id) ≡ true) → active_in e.wishes e.subscriptions (accepts id) ≡ true
      by_id other true is here h rest = subst (λ n. active_in e.wishes e.subscriptions (accepts n) ≡ true) (sym (eqb-true id other is)) here
      by_id other false is here h rest = rest h

      by : (m : ServerMessage) → active_in e.wishes e.subscriptions m ≡ true → (accepts_id id m || list_any (λ (g : Flying). accepts_id id g.says) flying) ≡ true
          → (list_any (λ (g : Flying). accepts_id id g.says) flying ≡ true → active_in e.wishes e.subscriptions (accepts id) ≡ true) → active_in e.wishes e.subscriptions (accepts id) ≡ true
      by (accepts other) here h rest = by_id other (id == other) refl here h rest
      by (refuses other) here h rest = rest h
      by (grants other) here h rest = rest h
      by (tells notices) here h rest = rest h
      by (delays rcode delay) here h rest = rest h

  -- the wish that waits for it has its question
  its-question : IsSoundClient e → (id : ℕ) (before : List Wish) (w : Wish) (behind : List Wish) → e.wishes ≡ before ++ w ∷ behind → w.standing ≡ unanswered id
      → list_any (λ s. s.id == id && list_any (is_unanswered_as id s.question) e.wishes) e.subscriptions ≡ true → list_any (is_active_as id w.question) e.subscriptions ≡ true
  its-question c id before w behind is waits h = any-weaken (λ (s : Subscription). s.id == id && list_any (is_unanswered_as id s.question) e.wishes) (is_active_as id w.question) each e.subscriptions h
    where
      each : (s : Subscription) → (s.id == id && list_any (is_unanswered_as id s.question) e.wishes) ≡ true → is_active_as id w.question s ≡ true
      each s i =
          let parts = and_parts (s.id == id) (list_any (is_unanswered_as id s.question) e.wishes) i in
          let most : count_of id (flat_map (λ v. unanswered_id v.standing) (before ++ w ∷ behind)) ≤ 1 = subst (λ ws. count_of id (flat_map (λ (v : Wish). unanswered_id v.standing) ws) ≤ 1) is (once-waits c id) in
          let there : list_any (is_unanswered_as id s.question) (before ++ w ∷ behind) ≡ true = subst (λ ws. list_any (is_unanswered_as id s.question) ws ≡ true) is parts.1 in
          let same : same_question s.question w.question ≡ true = so-of-placed id (λ v. same_question s.question v.question) before w behind waits most there in
          and_from (id == s.id) (same_question w.question s.question) (eq-eqb id s.id (sym (eqb-true s.id id parts.0))) (same_as s.question w.question w.question same ∙ question_itself w.question)

-- ---- what is seen

module _ (told : List (ℕ × ℕ)) (taken : List Made) (flying : List Flying) (f : Flying) where
  seen-one : (question : Question) (standing : RequestState) → ((id : ℕ) → standing ≡ answered id → is_listed told id question f.subscribed ≡ true)
      → ((id : ℕ) → standing ≡ unanswered id → list_any (λ g. accepts_id id g.says) (flying ++ f ∷ []) ≡ true → is_listed told id question f.subscribed ≡ true)
      → Seen told question (subscribed_at_last taken) flying standing ≡ true → Seen told question (subscribed_at_last taken) (flying ++ f ∷ []) standing ≡ true
  seen-one question not_asked holds waits h = refl
  seen-one question (refused rcode) holds waits h = refl
  seen-one question (answered id) holds waits h = along-more (is_listed told id question) id f true (subscribed_at_last taken) flying
      ∙ and_from (is_so_along (is_listed told id question) id true (subscribed_at_last taken) flying) (is_listed told id question f.subscribed) h (holds id refl)
  seen-one question (unanswered id) holds waits h = along-more (is_listed told id question) id f false (subscribed_at_last taken) flying
      ∙ and_from (is_so_along (is_listed told id question) id false (subscribed_at_last taken) flying) (not (list_any (λ (g : Flying). accepts_id id g.says) (flying ++ f ∷ [])) || is_listed told id question f.subscribed) h
      (by (list_any (λ (g : Flying). accepts_id id g.says) (flying ++ f ∷ [])) (waits id refl))
    where
      by : (b : Bool) → (b ≡ true → is_listed told id question f.subscribed ≡ true) → (not b || is_listed told id question f.subscribed) ≡ true
      by true so = so refl
      by false so = refl

-- what is active was told, what the client holds is active, and so is what an answer accepts
pub seen-more : (e : BothEnds) (taken : List Made) (flying : List Flying) (f : Flying) → IsSoundClient e → f.subscribed ≡ e.subscriptions
    → AllByRecursion (λ s. IsTrue (is_told e.told s)) e.subscriptions → AllByRecursion (λ w. IsTrue (is_held_active e w)) e.wishes → AllByRecursion (λ g. IsTrue (is_active_answer e g)) (flying ++ f ∷ [])
    → AllByRecursion (λ w. IsTrue (is_seen e.told taken flying w)) e.wishes → AllByRecursion (λ w. IsTrue (is_seen e.told taken (flying ++ f ∷ []) w)) e.wishes
seen-more e taken flying f c made told held answers seen = all-placed (λ w. IsTrue (is_seen e.told taken (flying ++ f ∷ []) w)) e.wishes each
  where
    -- what is active is listed
    listed : (id : ℕ) (question : Question) → list_any (is_active_as id question) e.subscriptions ≡ true → is_listed e.told id question f.subscribed ≡ true
    listed id question h = subst (λ l. is_listed e.told id question l ≡ true) (sym made) (any-both (is_active_as id question) (is_told e.told) e.subscriptions told h)

    each : (before : List Wish) (w : Wish) (behind : List Wish) → e.wishes ≡ before ++ w ∷ behind → IsTrue (is_seen e.told taken (flying ++ f ∷ []) w)
    each before w behind is = seen-one e.told taken flying f w.question w.standing
        (λ id stands. listed id w.question (subst (λ s. held_in e.subscriptions w.question s ≡ true) stands (at-place (λ w. IsTrue (is_held_active e w)) e.wishes before w behind is held)))
        (λ id stands accepted. listed id w.question (its-question e c id before w behind is stands (answered-active e id (flying ++ f ∷ []) answers accepted)))
        (at-place (λ w. IsTrue (is_seen e.told taken flying w)) e.wishes before w behind is seen)

-- ---- the IDs of answers

-- the answer to a request that went up
pub more-answer : (n id : ℕ) (waiting requests : List ℕ) (flying : List Flying) (f : Flying) → answer_ids (f ∷ []) ≡ id ∷ [] → count_of n waiting ≡ count_of n (id ∷ requests) + count_of n (answer_ids flying)
    → count_of n waiting ≡ count_of n requests + count_of n (answer_ids (flying ++ f ∷ []))
more-answer n id waiting requests flying f own once =
    let first = count-cons n id requests in
    let one = count-cons n id [] in
    let none : count_of n [] ≡ 0 = refl in
    let all = ap (count_of n) (filter_map-append (λ (g : Flying). id_answered g.says) flying (f ∷ []) ∙ ap (λ ids. answer_ids flying ++ ids) own) ∙ count-behind n id (answer_ids flying) in
    omega (arith, first, one, none, all, once)

-- what is no answer
pub more-silent : (flying : List Flying) (f : Flying) → answer_ids (f ∷ []) ≡ [] → answer_ids (flying ++ f ∷ []) ≡ answer_ids flying
more-silent flying f none = filter_map-append (λ (g : Flying). id_answered g.says) flying (f ∷ []) ∙ ap (λ ids. answer_ids flying ++ ids) none ∙ append-nil (answer_ids flying)

pub enough-wait : (waiting requests answers : ℕ) → waiting ≡ requests + answers → answers ≤ waiting
enough-wait waiting requests answers once = omega (arith, once)

-- ---- what comes first

first-one : (m : ServerMessage) (ms others : List ServerMessage) → (answer_comes_first ms ≡ true → answer_comes_first others ≡ true) → answer_comes_first (m ∷ ms) ≡ true → answer_comes_first (m ∷ others) ≡ true
first-one (accepts id) ms others more h = refl
first-one (grants id) ms others more h = refl
first-one (refuses id) ms others more h = more h
first-one (tells notices) ms others more h = h
first-one (delays rcode delay) ms others more h = h

pub first-more : (flying : List Flying) (f : Flying) → answer_comes_first (map (λ g. g.says) flying) ≡ true → answer_comes_first (map (λ g. g.says) (flying ++ f ∷ [])) ≡ true
first-more [] f h = absurd (true≢false (sym h))
first-more (g ∷ flying) f h = first-one g.says (map (λ (g : Flying). g.says) flying) (map (λ (g : Flying). g.says) (flying ++ f ∷ [])) (first-more flying f) h

refusal-first : (m : ServerMessage) (ms : List ServerMessage) → is_refusal m ≡ true → answer_comes_first ms ≡ true → answer_comes_first (m ∷ ms) ≡ true
refusal-first (accepts id) ms is h = refl
refusal-first (grants id) ms is h = refl
refusal-first (refuses id) ms is h = h
refusal-first (tells notices) ms is h = absurd (true≢false (sym is))
refusal-first (delays rcode delay) ms is h = absurd (true≢false (sym is))

-- an answer that establishes comes first behind refusals alone
behind-refusals : (flying : List Flying) (f : Flying) → answer_comes_first (f.says ∷ []) ≡ true → AllByRecursion (λ g. IsTrue (false || is_refusal g.says)) flying → answer_comes_first (map (λ g. g.says) (flying ++ f ∷ [])) ≡ true
behind-refusals [] f h all = h
behind-refusals (g ∷ flying) f h all = refusal-first g.says (map (λ (g : Flying). g.says) (flying ++ f ∷ [])) all.0 (behind-refusals flying f h all.1)

-- an answer that establishes the session
pub first-answer : (established client : Bool) (flying : List Flying) (f : Flying) → answer_comes_first (f.says ∷ []) ≡ true → AllByRecursion (λ g. IsTrue (established || is_refusal g.says)) flying
    → (not established || client || answer_comes_first (map (λ g. g.says) flying)) ≡ true → (client || answer_comes_first (map (λ g. g.says) (flying ++ f ∷ []))) ≡ true
first-answer established true flying f h all first = refl
first-answer true false flying f h all first = first-more flying f first
first-answer false false flying f h all first = behind-refusals flying f h all

-- a message more behind those of a session that stays as it was
pub first-still : (established client : Bool) (flying : List Flying) (f : Flying) → (not established || client || answer_comes_first (map (λ g. g.says) flying)) ≡ true
    → (not established || client || answer_comes_first (map (λ g. g.says) (flying ++ f ∷ []))) ≡ true
first-still false client flying f first = refl
first-still true true flying f first = refl
first-still true false flying f first = first-more flying f first

-- ---- what goes up

-- a subscription that is let go is no other's answer
pub let-go-more : (e : BothEnds) (flying : List Flying) (f : Flying) (id : ℕ) → accepts_id id f.says ≡ false → IsTrue (is_let_go e flying id) → IsTrue (is_let_go e (flying ++ f ∷ []) id)
let-go-more e flying f id other h =
    subst (λ b. (list_any (λ (s : Subscription). s.id == id) e.subscriptions && not (list_any (λ (w : Wish). is_held_with id w.standing) e.wishes) && not b) ≡ true) (sym (any-silent (λ (g : Flying). accepts_id id g.says) flying f other)) h
