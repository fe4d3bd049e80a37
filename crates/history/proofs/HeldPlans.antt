-- Plans of entries: what is told, what is held, and the state that it leads to.
use Rattle.std.proofs.Common.{◌≡◌, ℕ, zero, suc, Bool, true, false, cond, List, [], ◌∷◌, Option, Some, None, Result, Ok, Err, refl, sym, ap, subst, ◌∙◌}
use Rattle.std.specs.Prelude.{is_ok, slice_get, option_map, IfOk}
use Rattle.push_base.specs.Cases.{changed_at}
use Rattle.dnswire.specs.declared.message.Update.{Update}
use Rattle.rrset.specs.RecordSet.{changes}
use Rattle.rrset.specs.declared.record.Changed.{Changed}
use Rattle.linkcache.specs.Links.{LinkState}
use Rattle.linkcache.specs.Plans.{LinkPlan}
use Rattle.linkcache.specs.Rows.{LinkRows}
use Rattle.history.specs.Entries.{a_link, concern, is_taken, rows_after}
use Rattle.history.specs.Kept.{HomesKept, at_moment, held_for, told_plan}
use Rattle.history.specs.Plans.{Plan, refuse, idle, accept, planned, planned_by}
use Rattle.history.specs.AtHome.{AreAtHome}
use Rattle.history.specs.LinkSteps.{StepsTo, told_of}
use Rattle.history.specs.HeldPlans.{Checks, led_to, link_changed}
use Rattle.history.specs.States.{State, updated, accepts, accepts_by, after, after_by, link_after, records, link_meets}
use Rattle.history.specs.declared.entry.Entry.{Entry}
use Rattle.history.specs.declared.entry.Entry.TheVariants as entries
use Rattle.history.specs.declared.plan.Planned.{Planned}
use Rattle.history.specs.declared.plan.Planned.TheVariants as told
use Rattle.history.specs.declared.planning.HeldPlan.{HeldPlan}
use Rattle.history.specs.declared.planning.HeldPlan.TheVariants as plans
use Rattle.history.specs.declared.updating.Checked.TheVariants as results
use Rattle.history.proofs.Elements.{ok-as}
use Rattle.history.proofs.LinkChanges.{link_changes-at}

-- ---- an update

abbrev pub by_result : State → Result State ℕ → Plan
by_result state (Err code) = refuse code
by_result state (Ok later) = accept (changes (records state) (records later))

planned-by : (state : State) (update : Update) → planned state (entries.Update update) ≡ by_result state (updated state update)
planned-by state update = by (updated state update)
  where
    by : (r : Result State ℕ) → elim r as (λ _. Plan) [ Err code ↦ refuse code | Ok later ↦ accept (changes (records state) (records later)) ] ≡ by_result state r
    by (Err code) = refl
    by (Ok later) = refl

accepts-refused : (state : State) (update : Update) (code : ℕ) → planned state (entries.Update update) ≡ refuse code → accepts state (entries.Update update) ≡ false
accepts-refused state update code e = by (updated state update) (sym (planned-by state update) ∙ e)
  where
    by : (r : Result State ℕ) → by_result state r ≡ refuse code → is_ok r ≡ false
    by (Err c) e = refl
    by (Ok later) e = cc

accepts-accepted : (state : State) (update : Update) (changed : List Changed) → planned state (entries.Update update) ≡ accept changed → accepts state (entries.Update update) ≡ true
accepts-accepted state update changed e = by (updated state update) (sym (planned-by state update) ∙ e)
  where
    by : (r : Result State ℕ) → by_result state r ≡ accept changed → is_ok r ≡ true
    by (Err c) e = cc
    by (Ok later) e = refl

pub held-idle : (state : State) (entry : Entry) → accepts state entry ≡ false → None ≡ held_for state entry
held-idle state entry e = sym (ap (λ b. cond b (Some (after state entry)) None) e)

pub held-made : (state : State) (entry : Entry) (later : State) → accepts state entry ≡ true → later ≡ after state entry → Some later ≡ held_for state entry
held-made state entry later e is = ap Some is ∙ sym (ap (λ b. cond b (Some (after state entry)) None) e)

pub told-refused : (state : State) (update : Update) (code : ℕ) → Checks state update (results.Refuse code) → told.Refuse code ≡ told_plan (planned state (entries.Update update))
told-refused state update code e = sym (ap told_plan e)

pub held-refused : (state : State) (update : Update) (code : ℕ) → Checks state update (results.Refuse code) → None ≡ held_for state (entries.Update update)
held-refused state update code e = held-idle state (entries.Update update) (accepts-refused state update code e)

pub told-accepted : (state : State) (update : Update) (i : ℕ) (changed : List Changed) → Checks state update (results.Accept i changed) → told.Accept changed ≡ told_plan (planned state (entries.Update update))
told-accepted state update i changed checks = sym (ap told_plan checks.0)

pub held-accepted : (state : State) (update : Update) (i : ℕ) (changed : List Changed) → Checks state update (results.Accept i changed) → Some (led_to state (plans.Zone i changed)) ≡ held_for state (entries.Update update)
held-accepted state update i changed checks = held-made state (entries.Update update) (led_to state (plans.Zone i changed)) (accepts-accepted state update changed checks.0) (sym checks.1)

-- ---- an entry that concerns one link

-- two changes of an element that come to the same
pub changed-same : {X : Type 0} (f g : X → X) (xs : List X) (i : ℕ) (x : X) → slice_get xs i ≡ Some x → f x ≡ g x → changed_at i f xs ≡ changed_at i g xs
changed-same f g [] i x at same = refl
changed-same {X} f g (y ∷ xs) zero x at same = ap (λ z. z ∷ xs) (subst (λ (z : X). f z ≡ g z) (back y x at) same)
  where
    back : (a b : X) → Some a ≡ Some b → b ≡ a
    back a b e = cc
changed-same f g (y ∷ xs) (suc i) x at same = ap (λ l. y ∷ l) (changed-same f g xs i x at same)

module _ (state : State) (entry : Entry) (i : ℕ) (one : concern entry ≡ a_link i) where
  accepted : accepts state entry ≡ link_meets (is_taken entry) state i
  accepted = ap (accepts_by entry state) one

  plan-is : planned state entry ≡ cond (accepts state entry) (accept (changes (records state) (records (after state entry)))) idle
  plan-is = ap (planned_by entry state) one ∙ ap (λ homes. cond (accepts_by entry state homes) (accept (changes (records state) (records (after_by entry state homes)))) idle) (sym one)

  untaken : (o : Option LinkState) → slice_get state.links i ≡ o → StepsTo entry state.now o None → accepts state entry ≡ false
  untaken o at steps = accepted ∙ ap (λ p. elim p as (λ _. Bool) [ None ↦ false | Some l ↦ is_taken entry l ]) at ∙ by o steps
    where
      by : (o : Option LinkState) → StepsTo entry state.now o None → elim o as (λ _. Bool) [ None ↦ false | Some l ↦ is_taken entry l ] ≡ false
      by None steps = refl
      by (Some l) steps = steps

  taken_up : (l : LinkState) → slice_get state.links i ≡ Some l → is_taken entry l ≡ true → accepts state entry ≡ true
  taken_up l at e = accepted ∙ ap (λ p. elim p as (λ _. Bool) [ None ↦ false | Some l ↦ is_taken entry l ]) at ∙ e

  made-at : (l : LinkState) (rows : LinkRows) → slice_get state.links i ≡ Some l → rows ≡ rows_after entry state.now l → after state entry ≡ record state { links = changed_at i (λ k. record k { rows = rows }) state.links }
  made-at l rows at same =
      ap (after_by entry state) one ∙ (λ j. record state { links = changed-same (link_after entry state.now) (λ k. record k { rows = rows }) state.links i l at (λ n. record l { rows = sym same n }) j })

  pub told-step : (plan : Option LinkPlan) → AreAtHome state → StepsTo entry state.now (slice_get state.links i) plan → told_of plan ≡ told_plan (planned state entry)
  told-step plan home steps = by (slice_get state.links i) refl plan steps
    where
      idle_plan : accepts state entry ≡ false → told.Idle ≡ told_plan (planned state entry)
      idle_plan e = sym (ap told_plan (plan-is ∙ ap (λ b. cond b (accept (changes (records state) (records (after state entry)))) idle) e))

      by : (o : Option LinkState) → slice_get state.links i ≡ o → (plan : Option LinkPlan) → StepsTo entry state.now o plan → told_of plan ≡ told_plan (planned state entry)
      by None at None steps = idle_plan (untaken None at refl)
      by None at (Some plan) steps = cc
      by (Some l) at None steps = idle_plan (untaken (Some l) at steps)
      by (Some l) at (Some plan) steps =
          let later = rows_after entry state.now l in
          let shown : plan.changed ≡ changes (records state) (records (after state entry)) =
          steps.1.shown ∙ sym (link_changes-at state i l later home at steps.1.sound) ∙ ap (λ s. changes (records state) (records s)) (sym (made-at l later at refl)) in
          ap (λ c. told.Accept c) shown ∙ sym (ap told_plan (plan-is ∙ ap (λ b. cond b (accept (changes (records state) (records (after state entry)))) idle) (taken_up l at steps.0)))

  pub held-step : (plan : Option LinkPlan) → StepsTo entry state.now (slice_get state.links i) plan → option_map (led_to state) (option_map (λ p. plans.Link i p) plan) ≡ held_for state entry
  held-step plan steps = by (slice_get state.links i) refl plan steps
    where
      by : (o : Option LinkState) → slice_get state.links i ≡ o → (plan : Option LinkPlan) → StepsTo entry state.now o plan → option_map (led_to state) (option_map (λ p. plans.Link i p) plan) ≡ held_for state entry
      by None at None steps = held-idle state entry (untaken None at refl)
      by None at (Some plan) steps = cc
      by (Some l) at None steps = held-idle state entry (untaken (Some l) at steps)
      by (Some l) at (Some plan) steps =
          let later = rows_after entry state.now l in
          held-made state entry (led_to state (plans.Link i plan)) (taken_up l at steps.0)
          ((λ j. record state { links = changed-same (link_changed plan) (λ k. record k { rows = later }) state.links i l at (λ n. record l { rows = steps.1.reached n }) j }) ∙ sym (made-at l later at refl))

-- ---- what is told and held of it

module _ {E : Type 0} (homes : HomesKept) (t i : ℕ) (entry : Entry) (one : concern entry ≡ a_link i) (plan : Option LinkPlan) (r : Result (Planned × Option HeldPlan) E) where
  abbrev state : State
  state = at_moment homes t

  pub told-one : AreAtHome state → StepsTo entry t (slice_get state.links i) plan → IfOk r (λ both. both.0 ≡ told_of plan) → IfOk r (λ both. both.0 ≡ told_plan (planned state entry))
  told-one home steps told = ok-as (λ both. both.0 ≡ told_of plan) (λ both. both.0 ≡ told_plan (planned state entry)) (λ both e. e ∙ told-step state entry i one plan home steps) r told

  pub held-one : StepsTo entry t (slice_get state.links i) plan → IfOk r (λ both. both.1 ≡ option_map (λ p. plans.Link i p) plan) → IfOk r (λ both. option_map (led_to state) both.1 ≡ held_for state entry)
  held-one steps held =
      ok-as (λ both. both.1 ≡ option_map (λ p. plans.Link i p) plan) (λ both. option_map (led_to state) both.1 ≡ held_for state entry) (λ both e. ap (option_map (led_to state)) e ∙ held-step state entry i one plan steps) r held
