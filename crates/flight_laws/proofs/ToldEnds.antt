-- The ends of first answers as they were told: what is seen depends on the end that was told last alone.
--     told-again, told-other, told-own      the end told last, where ends are told again, and where one more is
--     seen-retold      what is seen with other ends told
--     ends-told      ends that are told again
use Rattle.std.proofs.Common.{◌≡◌, ℕ, Bool, true, false, not, ◌&&◌, ◌||◌, cond, List, [], ◌∷◌, Option, Some, None, option_map, ◌⊎◌, inl, inr, sym, ap, ◌∙◌, subst, refl, true≢false}
use Rattle.std.specs.Prelude.{IsTrue, find, ◌==◌}
use Rattle.std.specs.List.{list_any, AllByRecursion}
use Rattle.std.proofs.lemmas.Bool.{eqb-true}
use Rattle.rrset.specs.Records.{same_question}
use Rattle.rrset.specs.declared.record.Question.{Question}
use Rattle.pushserver.specs.PlainHubs.{Subscription, Made}
use Rattle.pushserver.proofs.hub_steps.Pairs.{all-weaken}
use Rattle.pushclient.specs.Clients.{Wish, RequestState, not_asked, unanswered, refused, answered}
use Rattle.inflight.specs.Messages.{ClientMessage, Flying, accepts_id}
use Rattle.inflight.specs.Ends.{BothEnds, is_active_as, is_told, told_end, subscribed_at_last, remembers}
use Rattle.inflight.specs.Flight.{FitsTogether, IsSoundClient, Downward, Upward, is_listed, is_so_along, is_seen}
use Rattle.flight_laws.specs.Reacting.{EndsAreTold}
use Rattle.flight_laws.proofs.Mapped.{any_same}
use Rattle.flight_laws.proofs.Taking.{Seen}

-- ---- the end that was told last

pub told-other : (x : ℕ × ℕ) (told : List (ℕ × ℕ)) (id : ℕ) → (x.0 == id) ≡ false → told_end (x ∷ told) id ≡ told_end told id
told-other x told id is = ap (λ b. option_map (λ (e : ℕ × ℕ). e.1) (cond b (Some x) (find (λ e. e.0 == id) told))) is

pub told-own : (x : ℕ × ℕ) (told : List (ℕ × ℕ)) (id : ℕ) → (x.0 == id) ≡ true → told_end (x ∷ told) id ≡ Some x.1
told-own x told id is = ap (λ b. option_map (λ (e : ℕ × ℕ). e.1) (cond b (Some x) (find (λ e. e.0 == id) told))) is

-- a subscription's end, by the end that was told
abbrev pub is_end : ℕ → Option ℕ → Bool
is_end filled None = false
is_end filled (Some n) = n == filled

pub its-end : (filled : ℕ) (o : Option ℕ) → is_end filled o ≡ true → o ≡ Some filled
its-end filled None h = absurd (true≢false (sym h))
its-end filled (Some n) h = ap (λ m. Some m) (eqb-true n filled h)

-- ends that are told again
pub told-again : (told : List (ℕ × ℕ)) (subscriptions : List Subscription) → AllByRecursion (λ s. IsTrue (is_told told s)) subscriptions → (id : ℕ) → told_end (remembers subscriptions told) id ≡ told_end told id
told-again told [] all id = refl
told-again told (s ∷ ss) all id = by (s.id == id) refl (told-again told ss all.1 id)
  where
    by : (b : Bool) → (s.id == id) ≡ b → told_end (remembers ss told) id ≡ told_end told id → told_end (remembers (s ∷ ss) told) id ≡ told_end told id
    by true is rest = told-own (s.id, s.filled) (remembers ss told) id is ∙ sym (subst (λ n. told_end told n ≡ Some s.filled) (eqb-true s.id id is) (its-end s.filled (told_end told s.id) all.0))
    by false is rest = told-other (s.id, s.filled) (remembers ss told) id is ∙ rest

-- ---- what is seen

module _ (told later : List (ℕ × ℕ)) where
  told-same : (s : Subscription) → told_end told s.id ≡ told_end later s.id → is_told told s ≡ is_told later s
  told-same s same = ap (is_end s.filled) same

  listed-same : (id : ℕ) (question : Question) → told_end told id ≡ told_end later id → (subscribed : List Subscription) → is_listed told id question subscribed ≡ is_listed later id question subscribed
  listed-same id question same subscribed = any_same (λ (s : Subscription). is_active_as id question s && is_told told s) (λ (s : Subscription). is_active_as id question s && is_told later s) each subscribed
    where
      by : (s : Subscription) (b : Bool) → (id == s.id) ≡ b → ((b && same_question question s.question) && is_told told s) ≡ ((b && same_question question s.question) && is_told later s)
      by s false is = refl
      by s true is = ap (λ t. same_question question s.question && t) (told-same s (subst (λ n. told_end told n ≡ told_end later n) (eqb-true id s.id is) same))

      each : (s : Subscription) → (is_active_as id question s && is_told told s) ≡ (is_active_as id question s && is_told later s)
      each s = by s (id == s.id) refl

along-same : (so also : List Subscription → Bool) → ((l : List Subscription) → so l ≡ also l) → (id : ℕ) (holds : Bool) (subscribed : List Subscription) (flying : List Flying) → is_so_along so id holds subscribed flying ≡ is_so_along also id holds subscribed flying
along-same so also same id holds subscribed [] = ap (λ b. not holds || b) (same subscribed)
along-same so also same id holds subscribed (f ∷ fs) = ap (λ b. (not holds || b) && is_so_along so id (holds || accepts_id id f.says) f.subscribed fs) (same subscribed)
    ∙ ap (λ b. (not holds || also subscribed) && b) (along-same so also same id (holds || accepts_id id f.says) f.subscribed fs)

-- what is seen of an ID that no message accepts
pub never-along : (so : List Subscription → Bool) (id : ℕ) (subscribed : List Subscription) (flying : List Flying) → list_any (λ f. accepts_id id f.says) flying ≡ false → is_so_along so id false subscribed flying ≡ true
never-along so id subscribed [] none = refl
never-along so id subscribed (f ∷ fs) none = by (accepts_id id f.says) none (never-along so id f.subscribed fs)
  where
    by : (b : Bool) → (b || list_any (λ (g : Flying). accepts_id id g.says) fs) ≡ false → (list_any (λ (g : Flying). accepts_id id g.says) fs ≡ false → is_so_along so id false f.subscribed fs ≡ true) → is_so_along so id b f.subscribed fs ≡ true
    by true none rest = absurd (true≢false none)
    by false none rest = rest none

-- the end that was told of the ID with which a wish is held, or waits, is the same
abbrev pub AtItsId : (ℕ → Type 0) → (ℕ → Type 0) → RequestState → Type 0
AtItsId waiting held not_asked = Unit {0}
AtItsId waiting held (unanswered id) = waiting id
AtItsId waiting held (refused rcode) = Unit {0}
AtItsId waiting held (answered id) = held id

module _ (told later : List (ℕ × ℕ)) (taken : List Made) (flying : List Flying) where
  -- the end told of its ID is the same, or no message accepts the ID with which it waits
  abbrev pub IsRetold : RequestState → Type 0
  IsRetold standing = AtItsId (λ id. (told_end told id ≡ told_end later id) ⊎ (list_any (λ (f : Flying). accepts_id id f.says) flying ≡ false)) (λ id. told_end told id ≡ told_end later id) standing

  pub seen-retold : (question : Question) (standing : RequestState) → IsRetold standing → Seen told question (subscribed_at_last taken) flying standing ≡ true → Seen later question (subscribed_at_last taken) flying standing ≡ true
  seen-retold question not_asked so h = refl
  seen-retold question (refused rcode) so h = refl
  seen-retold question (answered id) so h = sym (along-same (is_listed told id question) (is_listed later id question) (listed-same told later id question so) id true (subscribed_at_last taken) flying) ∙ h
  seen-retold question (unanswered id) (inl so) h = sym (along-same (is_listed told id question) (is_listed later id question) (listed-same told later id question so) id false (subscribed_at_last taken) flying) ∙ h
  seen-retold question (unanswered id) (inr none) h = never-along (is_listed later id question) id (subscribed_at_last taken) flying none

-- ---- ends that are told again

module _ (e : BothEnds) (told : List (ℕ × ℕ)) (same : (id : ℕ) → told_end e.told id ≡ told_end told id) (taken : List Made) (flying : List Flying) (ups : List ClientMessage) where
  abbrev later : BothEnds
  later = record e { told = told }

  each-retold : (standing : RequestState) → IsRetold e.told told taken flying standing
  each-retold not_asked = tt
  each-retold (unanswered id) = inl (same id)
  each-retold (refused rcode) = tt
  each-retold (answered id) = same id

  later-client : IsSoundClient e → IsSoundClient later
  later-client c = record { wishes = c.wishes; ids = c.ids; distinct = c.distinct; last = c.last; asked = c.asked; begun = c.begun }

  later-down : Downward e taken flying → Downward later taken flying
  later-down d = record {
    readable = d.readable;
    fits = d.fits;
    awaited = d.awaited;
    notices = d.notices;
    seen = all-weaken (λ w. IsTrue (is_seen e.told taken flying w)) (λ w. IsTrue (is_seen told taken flying w)) (λ (w : Wish) h. seen-retold e.told told taken flying w.question w.standing (each-retold w.standing) h) e.wishes d.seen;
    told = all-weaken (λ s. IsTrue (is_told e.told s)) (λ s. IsTrue (is_told told s)) (λ (s : Subscription) h. sym (told-same e.told told s (same s.id)) ∙ h) e.subscriptions d.told;
    homeless = d.homeless;
    established = d.established;
    speaks = d.speaks;
    first = d.first;
  }

  later-up : Upward e flying ups → Upward later flying ups
  later-up u = record {
    once = u.once;
    requests = u.requests;
    answers = u.answers;
    let_go = u.let_go;
    let_go_once = u.let_go_once;
    held = u.held;
    active = u.active;
    accepted = u.accepted;
    no_delay = u.no_delay;
  }

  -- the ends that were told last are the same
  pub retold : FitsTogether e taken flying ups → FitsTogether later taken flying ups
  retold fit = record { timers = fit.timers; client = later-client fit.client; down = later-down fit.down; up = λ goes_on. later-up (fit.up goes_on) }

pub ends-told : EndsAreTold
ends-told e taken flying ups fit = retold e (remembers e.subscriptions e.told) (λ id. sym (told-again e.told e.subscriptions fit.down.told id)) taken flying ups fit
