-- Wishes of which each keeps its question and how it stands, whatever else changes.
--     unanswered-mapped      the IDs of its unanswered requests
--     mapped-client, mapped-fits, mapped-seen, mapped-homeless, mapped-up      what holds of both ends then
use Rattle.std.proofs.Common.{◌≡◌, ℕ, ◌≤◌, Bool, true, false, not, ◌&&◌, ◌||◌, List, [], ◌∷◌, ◌++◌, map, sym, ap, ◌∙◌, subst, refl}
use Rattle.std.specs.Prelude.{IsTrue, flat_map, option_to_list, ◌==◌}
use Rattle.std.specs.List.{list_any, AllByRecursion, IsDistinct}
use Rattle.std.proofs.lemmas.List.{length-map}
use Rattle.push_base.specs.Limits.{max_questions}
use Rattle.rrset.specs.Records.{same_question}
use Rattle.rrset.specs.declared.record.Question.{Question}
use Rattle.coalesce.proofs.KindsOf.{any-map}
use Rattle.pushserver.proofs.hub_steps.Pairs.{all-weaken}
use Rattle.pushserver.specs.PlainHubs.{Made, Subscription}
use Rattle.pushclient.specs.Clients.{Wish, RequestState}
use Rattle.pushclient.proofs.SoundWishes.{all_map}
use Rattle.inflight.specs.Messages.{ClientMessage, subscribes, unsubscribes, reconfirms, requests_keepalive, unsubscribed_ids, unsubscribes_id, Flying, accepts_id}
use Rattle.inflight.specs.Ends.{BothEnds, is_id, is_question, is_held_with, is_unanswered_as, is_answered_as, unanswered_id, answered_id, unanswered_ids, used_ids, is_requested, fits_request}
use Rattle.inflight.specs.Flight.{IsSoundClient, Upward, is_seen, is_homeless, is_active_answer, is_let_go, is_held_active, is_accounted_for}
use Rattle.pushclient.specs.ServerMessages.{ServerMessage, accepts, refuses, grants, tells, delays}
use Rattle.pushclient.specs.SoundClients.{count_of, is_asked}
use Rattle.pushclient.specs.Steps.{is_answered, is_unanswered}

-- a wish of which nothing else is known
abbrev bare : Question → RequestState → Wish
bare question standing = record { question = question; wanted = true; standing = standing; notices = [] }

pub any_same : {X : Type 0} (p q : X → Bool) → ((x : X) → p x ≡ q x) → (xs : List X) → list_any p xs ≡ list_any q xs
any_same p q same [] = refl
any_same p q same (x ∷ xs) = ap (λ b. b || list_any p xs) (same x) ∙ ap (λ b. q x || b) (any_same p q same xs)

module _ (g : Wish → Wish) (question : (w : Wish) → (g w).question ≡ w.question) (standing : (w : Wish) → (g w).standing ≡ w.standing) where
  alike : (w : Wish) → bare w.question w.standing ≡ bare (g w).question (g w).standing
  alike w = ap (λ q. bare q w.standing) (sym (question w)) ∙ ap (λ s. bare (g w).question s) (sym (standing w))

  all-mapped : (P : Wish → Type 0) (ws : List Wish) → AllByRecursion (λ w. P (bare w.question w.standing)) ws → AllByRecursion (λ w. P (bare w.question w.standing)) (map g ws)
  all-mapped P ws all = all_map (λ w. P (bare w.question w.standing)) (λ w. P (bare w.question w.standing)) g (λ w h. subst P (alike w) h) ws all

  any-mapped : (p : Wish → Bool) (ws : List Wish) → list_any (λ w. p (bare w.question w.standing)) (map g ws) ≡ list_any (λ w. p (bare w.question w.standing)) ws
  any-mapped p ws = any-map (λ (w : Wish). p (bare w.question w.standing)) g ws
      ∙ any_same (λ (w : Wish). p (bare (g w).question (g w).standing)) (λ (w : Wish). p (bare w.question w.standing)) (λ w. sym (ap p (alike w))) ws

  ids-mapped : (ids : RequestState → List ℕ) (ws : List Wish) → flat_map (λ w. ids w.standing) (map g ws) ≡ flat_map (λ w. ids w.standing) ws
  ids-mapped ids [] = refl
  ids-mapped ids (w ∷ ws) = ap (λ s. ids s ++ flat_map (λ (v : Wish). ids v.standing) (map g ws)) (standing w) ∙ ap (λ l. ids w.standing ++ l) (ids-mapped ids ws)

  distinct-mapped : (ws : List Wish) → IsDistinct (λ v w. same_question v.question w.question) ws → IsDistinct (λ v w. same_question v.question w.question) (map g ws)
  unfolding IsDistinct
  distinct-mapped [] different = tt
  distinct-mapped (w ∷ ws) different = (
    all_map (λ y. same_question w.question y.question ≡ false) (λ y. same_question (g w).question y.question ≡ false) g
        (λ y h. ap (λ q. same_question q (g y).question) (question w) ∙ ap (λ q. same_question w.question q) (question y) ∙ h) ws different.0,
    distinct-mapped ws different.1,
  )

  module _ (e : BothEnds) where
    abbrev later : BothEnds
    later = record e { wishes = map g e.wishes }

    pub unanswered-mapped : unanswered_ids later ≡ unanswered_ids e
    unanswered-mapped = ap (λ ids. ids ++ option_to_list e.keepalive_out) (ids-mapped unanswered_id e.wishes)

    used-mapped : used_ids later ≡ used_ids e
    used-mapped = ap (λ ids. ids ++ flat_map (λ (w : Wish). answered_id w.standing) (map g e.wishes)) unanswered-mapped ∙ ap (λ ids. unanswered_ids e ++ ids) (ids-mapped answered_id e.wishes)

    pub mapped-client : IsSoundClient e → IsSoundClient later
    mapped-client c = record {
      wishes = record {
        few = subst (λ n. n ≤ max_questions) (sym (length-map e.wishes g)) c.wishes.few;
        questions = distinct-mapped e.wishes c.wishes.questions;
        fit = all-mapped (λ w. IsTrue (is_question w.question)) e.wishes c.wishes.fit;
      };
      ids = subst (AllByRecursion (λ id. IsTrue (is_id id))) (sym used-mapped) c.ids;
      distinct = λ id. subst (λ ids. count_of id ids ≤ 1) (sym used-mapped) (c.distinct id);
      last = c.last;
      asked = all-mapped (λ w. IsTrue (is_asked w.standing)) e.wishes c.asked;
      begun = all-mapped (λ w. IsTrue (not (is_answered w.standing) || e.client_established)) e.wishes c.begun;
    }

    -- ---- what comes down

    fits-same : (m : ServerMessage) → fits_request e m ≡ fits_request later m
    fits-same (accepts id) = sym (any-mapped (λ w. is_unanswered id w.standing && e.serves w.question) e.wishes)
    fits-same (refuses id) = sym (any-mapped (λ w. is_unanswered id w.standing && not (e.serves w.question)) e.wishes)
    fits-same (grants id) = refl
    fits-same (tells notices) = refl
    fits-same (delays rcode delay) = refl

    pub mapped-fits : (flying : List Flying) → AllByRecursion (λ f. IsTrue (fits_request e f.says)) flying → AllByRecursion (λ f. IsTrue (fits_request later f.says)) flying
    mapped-fits flying all = all-weaken (λ (f : Flying). IsTrue (fits_request e f.says)) (λ f. IsTrue (fits_request later f.says)) (λ f h. sym (fits-same f.says) ∙ h) flying all

    pub mapped-seen : (taken : List Made) (flying : List Flying) → AllByRecursion (λ w. IsTrue (is_seen e.told taken flying w)) e.wishes → AllByRecursion (λ w. IsTrue (is_seen e.told taken flying w)) (map g e.wishes)
    mapped-seen taken flying all = all-mapped (λ w. IsTrue (is_seen e.told taken flying w)) e.wishes all

    pub mapped-homeless : AllByRecursion (λ w. IsTrue (is_homeless e w)) e.wishes → AllByRecursion (λ w. IsTrue (is_homeless e w)) (map g e.wishes)
    mapped-homeless all = all-mapped (λ w. IsTrue (is_homeless e w)) e.wishes all

    -- ---- what goes up

    requested-same : (m : ClientMessage) → is_requested e m ≡ is_requested later m
    requested-same (subscribes id asked) = sym (any-mapped (λ w. is_unanswered_as id asked w) e.wishes)
    requested-same (unsubscribes id) = refl
    requested-same (reconfirms rr) = refl
    requested-same (requests_keepalive id) = refl

    active-same : (m : ServerMessage) → elim m as (λ _. Bool) [ accepts id ↦ list_any (λ s. s.id == id && list_any (is_unanswered_as id s.question) e.wishes) e.subscriptions | _ ↦ true ]
        ≡ elim m as (λ _. Bool) [ accepts id ↦ list_any (λ s. s.id == id && list_any (is_unanswered_as id s.question) (map g e.wishes)) e.subscriptions | _ ↦ true ]
    active-same (accepts id) = any_same (λ (s : Subscription). s.id == id && list_any (is_unanswered_as id s.question) e.wishes) (λ (s : Subscription). s.id == id && list_any (is_unanswered_as id s.question) (map g e.wishes))
        (λ s. ap (λ b. s.id == id && b) (sym (any-mapped (λ w. is_unanswered_as id s.question w) e.wishes))) e.subscriptions
    active-same (refuses id) = refl
    active-same (grants id) = refl
    active-same (tells notices) = refl
    active-same (delays rcode delay) = refl

    let-go-same : (flying : List Flying) (id : ℕ) → is_let_go e flying id ≡ is_let_go later flying id
    let-go-same flying id = ap (λ b. list_any (λ (s : Subscription). s.id == id) e.subscriptions && not b && not (list_any (λ (f : Flying). accepts_id id f.says) flying)) (sym (any-mapped (λ w. is_held_with id w.standing) e.wishes))

    accounted-same : (flying : List Flying) (ups : List ClientMessage) (s : Subscription) → is_accounted_for e flying ups s ≡ is_accounted_for later flying ups s
    accounted-same flying ups s = ap (λ b. b || list_any (λ (f : Flying). accepts_id s.id f.says) flying || list_any (unsubscribes_id s.id) ups) (sym (any-mapped (λ w. is_answered_as s.id s.question w) e.wishes))

    pub mapped-up : (flying : List Flying) (ups : List ClientMessage) → Upward e flying ups → Upward later flying ups
    mapped-up flying ups u = record {
      once = λ n. ap (count_of n) unanswered-mapped ∙ u.once n;
      requests = all-weaken (λ m. IsTrue (is_requested e m)) (λ m. IsTrue (is_requested later m)) (λ m h. sym (requested-same m) ∙ h) ups u.requests;
      answers = all-weaken (λ f. IsTrue (is_active_answer e f)) (λ f. IsTrue (is_active_answer later f)) (λ (f : Flying) h. sym (active-same f.says) ∙ h) flying u.answers;
      let_go = all-weaken (λ id. IsTrue (is_let_go e flying id)) (λ id. IsTrue (is_let_go later flying id)) (λ id h. sym (let-go-same flying id) ∙ h) (unsubscribed_ids ups) u.let_go;
      let_go_once = u.let_go_once;
      held = all-mapped (λ w. IsTrue (is_held_active e w)) e.wishes u.held;
      active = all-weaken (λ s. IsTrue (is_accounted_for e flying ups s)) (λ s. IsTrue (is_accounted_for later flying ups s)) (λ s h. sym (accounted-same flying ups s) ∙ h) e.subscriptions u.active;
      accepted = u.accepted;
      no_delay = u.no_delay;
    }
