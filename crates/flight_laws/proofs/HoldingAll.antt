-- After all that comes down the client holds what counts as sent.
--     only-waits      one wish waits with an ID
--     holds_all_sent
use Rattle.std.proofs.Common.{◌≡◌, ℕ, ◌+◌, ◌≤◌, Bool, true, false, cond, ◌&&◌, ◌||◌, List, [], ◌∷◌, Some, None, sym, ◌∙◌, ap, subst, refl, true≢false, arith}
use Rattle.std.specs.Prelude.{IsTrue, flat_map, ◌==◌}
use Rattle.std.specs.List.{list_any, AllByRecursion}
use Rattle.rrset.proofs.Sets.{both_true}
use Rattle.rrset.specs.RecordSet.{matching}
use Rattle.rrset.specs.Records.{same_question}
use Rattle.dsotlv.specs.Notices.{applied_all}
use Rattle.pushserver.specs.PlainHubs.{Hub, Session, Subscription, sent}
use Rattle.pushserver.specs.ToldMessages.{set_after, notices_since}
use Rattle.livesessions.proofs.SessionLists.{same-number, number-itself}
use Rattle.pushserver.proofs.hub_steps.Pairs.{all-weaken}
use Rattle.pushserver.proofs.session_steps.Lists.{each-both}
use Rattle.pushclient.specs.Clients.{Wish, RequestState, not_asked, unanswered, refused, answered}
use Rattle.pushclient.specs.ServerMessages.{ServerMessage, accepts, refuses, grants, tells, delays}
use Rattle.pushclient.specs.SoundClients.{count_of}
use Rattle.pushclient.specs.Steps.{is_unanswered}
use Rattle.inflight.specs.Messages.{Flying, accepts_id}
use Rattle.inflight.specs.Ends.{BothEnds, unanswered_id, is_active_as, is_unanswered_as}
use Rattle.inflight.specs.Flight.{is_active_answer, is_held_active}
use Rattle.inflight.specs.Holding.{will_hold, HoldsThen}
use Rattle.flight_laws.specs.Holding.{HoldsAllSent}
use Rattle.flight_laws.proofs.Alike.{sent-alike, applied-alike}
use Rattle.flight_laws.proofs.Counting.{count-append, count-one, waiting_ids, count-unanswered, count-used}
use Rattle.flight_laws.proofs.FirstFits.{one-waits, counts-waiting}
use Rattle.flight_laws.proofs.Holding.{picked}

-- ---- one wish waits with an ID

abbrev waiting_in : List Wish → List ℕ
waiting_in ws = flat_map (λ w. unanswered_id w.standing) ws

head-one : (id other : ℕ) → (id == other) ≡ true → count_of id (unanswered_id (unanswered other)) ≡ 1
head-one id other is = count-one id other true (subst (λ n. (n == id) ≡ true) (same-number id other is) (number-itself id))

-- where none is counted, none waits
none-waits : (id : ℕ) (ws : List Wish) → count_of id (waiting_in ws) ≡ 0 → AllByRecursion (λ w. w.standing ≡ unanswered id → ⊥) ws
none-waits id [] none = tt
none-waits id (w ∷ ws) none =
    let both = count-append id (unanswered_id w.standing) (waiting_in ws) in
    (λ is. by is both, none-waits id ws (omega (arith, both, none)))
  where
    by : w.standing ≡ unanswered id → count_of id (waiting_in (w ∷ ws)) ≡ count_of id (unanswered_id w.standing) + count_of id (waiting_in ws) → ⊥
    by is both =
        let one = ap (λ s. count_of id (unanswered_id s)) is ∙ head-one id id (number-itself id) in
        omega (arith, both, none, one)

-- what is so of one that waits with an ID is so of each
only-waits : (id : ℕ) (p : Wish → Bool) (ws : List Wish) → count_of id (waiting_in ws) ≤ 1 → list_any (λ w. is_unanswered id w.standing && p w) ws ≡ true → AllByRecursion (λ w. w.standing ≡ unanswered id → p w ≡ true) ws
only-waits id p [] few any = tt
only-waits id p (w ∷ ws) few any = by (p w) refl (is_unanswered id w.standing) refl any (λ rest. only-waits id p ws (omega (arith, few, both)) rest)
  where
    both : count_of id (waiting_in (w ∷ ws)) ≡ count_of id (unanswered_id w.standing) + count_of id (waiting_in ws)
    both = count-append id (unanswered_id w.standing) (waiting_in ws)

    -- it can't be this one, too
    never : list_any (λ v. is_unanswered id v.standing && p v) ws ≡ true → w.standing ≡ unanswered id → ⊥
    never rest is =
        let first = one-waits id p ws rest in
        let some = counts-waiting id ws first.0 first.1 in
        let one = ap (λ s. count_of id (unanswered_id s)) is ∙ head-one id id (number-itself id) in
        omega (arith, few, both, one, some)

    others : (t : Bool) → is_unanswered id w.standing ≡ t → p w ≡ true → (t || list_any (λ v. is_unanswered id v.standing && p v) ws) ≡ true
        → (list_any (λ v. is_unanswered id v.standing && p v) ws ≡ true → AllByRecursion (λ v. v.standing ≡ unanswered id → p v ≡ true) ws) → AllByRecursion (λ v. v.standing ≡ unanswered id → p v ≡ true) ws
    others false waits so any rest = rest any
    others true waits so any rest =
        all-weaken (λ (v : Wish). v.standing ≡ unanswered id → ⊥) (λ (v : Wish). v.standing ≡ unanswered id → p v ≡ true) (λ v never is. absurd (never is)) ws (none-waits id ws (alone w.standing refl waits))
      where
        alone : (s : RequestState) → w.standing ≡ s → is_unanswered id s ≡ true → count_of id (waiting_in ws) ≡ 0
        alone (unanswered other) is own =
            let one = ap (λ s. count_of id (unanswered_id s)) is ∙ head-one id other own in
            omega (arith, few, both, one)
        alone not_asked is own = absurd (true≢false (sym own))
        alone (refused rcode) is own = absurd (true≢false (sym own))
        alone (answered other) is own = absurd (true≢false (sym own))

    by : (t : Bool) → p w ≡ t → (is_waiting : Bool) → is_unanswered id w.standing ≡ is_waiting → ((is_waiting && t) || list_any (λ v. is_unanswered id v.standing && p v) ws) ≡ true
        → (list_any (λ v. is_unanswered id v.standing && p v) ws ≡ true → AllByRecursion (λ v. v.standing ≡ unanswered id → p v ≡ true) ws) → AllByRecursion (λ v. v.standing ≡ unanswered id → p v ≡ true) (w ∷ ws)
    by true so true waits any rest = (λ is. so, others true waits so refl rest)
    by true so false waits any rest = (λ is. so, others false waits so any rest)
    by false so true waits any rest = (λ is. absurd (never any is), rest any)
    by false so false waits any rest = (λ is. absurd (never any is), rest any)

-- ---- all that is sent

all-swap : {I X : Type 0} (P : I → X → Type 0) (xs : List X) → ((i : I) → AllByRecursion (P i) xs) → AllByRecursion (λ x. (i : I) → P i x) xs
all-swap P [] each = tt
all-swap P (x ∷ xs) each = ((λ i. (each i).0), all-swap P xs (λ i. (each i).1))

module _ (hub : Hub) (session : Session) (e : BothEnds) where
  abbrev LeadsToSent : Subscription → Type 0
  LeadsToSent s = set_after session.made s ≡ matching s.question (sent hub session s.question.name)

  abbrev HoldsSent : ℕ → Wish → Type 0
  HoldsSent id w = applied_all (notices_since id session.made) w.question [] ≡ matching w.question (sent hub session w.question.name)

  -- of an active subscription
  of_active : (w : Wish) (id : ℕ) (s : Subscription) → s.id ≡ id → same_question s.question w.question ≡ true → LeadsToSent s → HoldsSent id w
  of_active w id s id_is same leads =
      sym (applied-alike s.question w.question same (notices_since id session.made) [])
      ∙ ap (λ i. applied_all (notices_since i session.made) s.question []) (sym id_is)
      ∙ leads
      ∙ sent-alike s.question w.question same hub session

  module _ (leads : AllByRecursion LeadsToSent e.subscriptions) where
    of_held : (w : Wish) (id : ℕ) → list_any (is_active_as id w.question) e.subscriptions ≡ true → HoldsSent id w
    of_held w id any =
        let one = picked (is_active_as id w.question) LeadsToSent e.subscriptions any leads in
        let s = one.0 in
        let both = both_true (id == s.id) (same_question w.question s.question) one.1 in
        applied-alike w.question s.question both.1 (notices_since id session.made) [] ∙ ap (λ i. applied_all (notices_since i session.made) s.question []) (same-number id s.id both.0)
        ∙ one.2
        ∙ sym (sent-alike w.question s.question both.1 hub session)

    of_waiting : (id : ℕ) → count_of id (waiting_ids e) ≤ 1 → (flying : List Flying) → AllByRecursion (λ f. IsTrue (is_active_answer e f)) flying → list_any (λ f. accepts_id id f.says) flying ≡ true
        → AllByRecursion (λ w. w.standing ≡ unanswered id → HoldsSent id w) e.wishes
    of_waiting id few flying answers any =
        let one = picked (λ (f : Flying). accepts_id id f.says) (λ f. IsTrue (is_active_answer e f)) flying any answers in
        by one.0 one.0.says refl one.1 one.2
      where
        from_active : list_any (λ s. s.id == id && list_any (is_unanswered_as id s.question) e.wishes) e.subscriptions ≡ true → AllByRecursion (λ w. w.standing ≡ unanswered id → HoldsSent id w) e.wishes
        from_active is =
            let one = picked (λ (s : Subscription). s.id == id && list_any (is_unanswered_as id s.question) e.wishes) LeadsToSent e.subscriptions is leads in
            let s = one.0 in
            let both = both_true (s.id == id) (list_any (is_unanswered_as id s.question) e.wishes) one.1 in
            all-weaken (λ (w : Wish). w.standing ≡ unanswered id → same_question s.question w.question ≡ true) (λ (w : Wish). w.standing ≡ unanswered id → HoldsSent id w)
            (λ w same waits. of_active w id s (same-number s.id id both.0) (same waits) one.2) e.wishes
            (only-waits id (λ w. same_question s.question w.question) e.wishes few both.1)

        its_answer : (other : ℕ) → (id == other) ≡ true → list_any (λ s. s.id == other && list_any (is_unanswered_as other s.question) e.wishes) e.subscriptions ≡ true
            → AllByRecursion (λ w. w.standing ≡ unanswered id → HoldsSent id w) e.wishes
        its_answer other own is = from_active (subst (λ n. list_any (λ s. s.id == n && list_any (is_unanswered_as n s.question) e.wishes) e.subscriptions ≡ true) (sym (same-number id other own)) is)

        by : (f : Flying) (says : ServerMessage) → f.says ≡ says → accepts_id id says ≡ true → is_active_answer e (record f { says = says }) ≡ true → AllByRecursion (λ w. w.standing ≡ unanswered id → HoldsSent id w) e.wishes
        by f (accepts other) is own active = its_answer other own active
        by f (refuses other) is own active = absurd (true≢false (sym own))
        by f (grants other) is own active = absurd (true≢false (sym own))
        by f (tells notices) is own active = absurd (true≢false (sym own))
        by f (delays rcode delay) is own active = absurd (true≢false (sym own))

pub holds_all_sent : HoldsAllSent
holds_all_sent hub session e taken flying u goes =
    each-both (λ (w : Wish). IsTrue (is_held_active e w)) (λ (w : Wish). (id : ℕ) → list_any (λ f. accepts_id id f.says) flying ≡ true → w.standing ≡ unanswered id → HoldsSent hub session e id w)
    (λ w. (id : ℕ) → will_hold flying w ≡ Some id → HoldsThen e.told session.made id w.question (matching w.question (sent hub session w.question.name)))
    (λ w active waiting id will n told low. by w w.standing refl id active waiting will) e.wishes (u.fit.up goes).held each_waiting
  where
    leads : AllByRecursion (LeadsToSent hub session e) e.subscriptions
    leads = subst (AllByRecursion (LeadsToSent hub session e)) u.subscriptions u.history.all

    few : (id : ℕ) → count_of id (waiting_ids e) ≤ 1
    few id = let all = u.fit.client.distinct id in let used = count-used id e in let waiting = count-unanswered id e in omega (arith, all, used, waiting)

    of_id : (id : ℕ) → (b : Bool) → list_any (λ f. accepts_id id f.says) flying ≡ b → AllByRecursion (λ w. list_any (λ f. accepts_id id f.says) flying ≡ true → w.standing ≡ unanswered id → HoldsSent hub session e id w) e.wishes
    of_id id true any = all-weaken (λ (w : Wish). w.standing ≡ unanswered id → HoldsSent hub session e id w) (λ (w : Wish). list_any (λ f. accepts_id id f.says) flying ≡ true → w.standing ≡ unanswered id → HoldsSent hub session e id w)
        (λ w holds again. holds) e.wishes (of_waiting hub session e leads id (few id) flying (u.fit.up goes).answers any)
    of_id id false none = every e.wishes
      where
        every : (ws : List Wish) → AllByRecursion (λ w. list_any (λ f. accepts_id id f.says) flying ≡ true → w.standing ≡ unanswered id → HoldsSent hub session e id w) ws
        every [] = tt
        every (w ∷ ws) = (λ any is. absurd (true≢false (sym any ∙ none)), every ws)

    each_waiting : AllByRecursion (λ (w : Wish). (id : ℕ) → list_any (λ f. accepts_id id f.says) flying ≡ true → w.standing ≡ unanswered id → HoldsSent hub session e id w) e.wishes
    each_waiting = all-swap (λ id w. list_any (λ f. accepts_id id f.says) flying ≡ true → w.standing ≡ unanswered id → HoldsSent hub session e id w) e.wishes (λ id. of_id id (list_any (λ f. accepts_id id f.says) flying) refl)

    by : (w : Wish) (s : RequestState) → w.standing ≡ s → (id : ℕ) → is_held_active e (record w { standing = s }) ≡ true
        → ((id : ℕ) → list_any (λ f. accepts_id id f.says) flying ≡ true → w.standing ≡ unanswered id → HoldsSent hub session e id w) → will_hold flying (record w { standing = s }) ≡ Some id → HoldsSent hub session e id w
    by w (answered other) is id active waiting will =
        let same : other ≡ id = cc in
        subst (λ i. HoldsSent hub session e i w) same (of_held hub session e leads w other active)
    by w (unanswered other) is id active waiting will = by_answer (list_any (λ f. accepts_id other f.says) flying) refl will
      where
        by_answer : (b : Bool) → list_any (λ f. accepts_id other f.says) flying ≡ b → cond b (Some other) None ≡ Some id → HoldsSent hub session e id w
        by_answer false any will = absurd cc
        by_answer true any will =
            let same : other ≡ id = cc in
            subst (λ i. HoldsSent hub session e i w) same (waiting other any is)
    by w not_asked is id active waiting will = absurd cc
    by w (refused rcode) is id active waiting will = absurd cc
