-- Homes that are the state after all entries of a past.
use Rattle.std.proofs.Common.{◌≡◌, ℕ, ◌+◌, ◌-◌, ◌≤◌, Bool, true, false, cond, List, [], ◌∷◌, ◌++◌, map, fold, Option, Some, None, Result, Ok, Err, refl, sym, ap, subst, ◌∙◌, arith}
use Rattle.std.specs.Prelude.{count_by, is_some, option_map, IfOk, IfSome}
use Rattle.std.specs.List.{AllByRecursion}
use Rattle.std.proofs.lemmas.List.Sums.{fold-append}
use Rattle.push_base.specs.Limits.{max_moment}
use Rattle.dnsname.specs.Names.{same_name}
use Rattle.rrset.specs.Records.{rr_of, matches}
use Rattle.rrset.specs.RecordSet.{RecordSet, at_name, matching}
use Rattle.rrset.specs.declared.record.Rr.{Rr}
use Rattle.rrset.specs.declared.record.Key.{Key}
use Rattle.rrset.specs.declared.record.Question.{Question}
use Rattle.rrset.specs.declared.record.Shown.{Shown}
use Rattle.history.specs.Kept.{HomesKept, Past, PointsKept, Appends, IsHeld, at_moment, held_for, state_of, state_now, records_now}
use Rattle.zoneupdate.proofs.Filters.{filter_within, and-left}
use Rattle.history.specs.Plans.{IsStart}
use Rattle.history.specs.AtHome.{AreAtHome, homes_in}
use Rattle.history.specs.Entries.{Concern, a_zone, a_link, all_links, concern, Group, as_change, as_hearing, as_moment, group}
use Rattle.history.specs.HeldPlans.{AreKept, IsInTime, IsStateOf, IsPresent, IsReady, IsTimely, led_by, led_to}
use Rattle.history.specs.Totals.{and_one, and_one_of, in_changes, in_hearings, in_moments, is_change, is_hearing, is_moment, totals}
use Rattle.history.specs.States.{State, accepts, accepts_by, after, after_by, link_at_moment, records, records_at, state_at}
use Rattle.history.specs.declared.entry.Entry.{Entry}
use Rattle.history.specs.declared.entry.Totals.{Totals}
use Rattle.history.specs.declared.planning.HeldPlan.{HeldPlan}
use Rattle.history.specs.declared.planning.HeldPlan.TheVariants as plans
use Rattle.history.proofs.KeptHomes.{stand-apart}
use Rattle.history.proofs.Starts.{start-home}
use Rattle.history.proofs.Pasts.{state-appended}
use Rattle.history.proofs.StatesAtHome.{home-after}
use Rattle.history.proofs.TellingNames.{IsNamed, names-links}

-- a past without entries
abbrev pub first_past : State → Past
first_past start = record { start = start; number = 0; history = []; counts = totals [] }

pub present-new : (homes : HomesKept) (past : Past) → AreAtHome (state_of homes) → past ≡ first_past (state_of homes) → IsPresent past homes 0 None
present-new homes past home is = subst (λ p. IsPresent p homes 0 None) (sym is) (record { present = record { same = refl; home = home }; now = omega arith; ready = tt })

-- the homes that are kept are at home
pub home_of-state : (homes : HomesKept) (moment : ℕ) (state : State) → IsStateOf homes moment state → AreAtHome (at_moment homes moment)
home_of-state homes moment state is = subst AreAtHome (sym is.same) is.home

pub all-present : {V E : Type 0} (items : V → RecordSet) (past now : Past) (homes : HomesKept) (moment : ℕ) (r : Result V E) → IsStateOf homes moment (state_now past) → past ≡ now
    → IfOk r (λ all. (t : ℕ) → items all ≡ records (at_moment homes t)) → IfOk r (λ all. items all ≡ records_now now)
all-present items past now homes moment (Ok all) is same there = there moment ∙ ap records (is.same ∙ ap state_now same)
all-present items past now homes moment (Err e) is same there = tt

-- ---- the records at a point

abbrev pub rrs_of : RecordSet → List Rr
rrs_of rows = map (λ e. rr_of e.0 e.1) rows

pub matching-at_name : (question : Question) (rows : RecordSet) → matching question (at_name question.name rows) ≡ matching question rows
matching-at_name question rows = filter_within (λ (e : Key × Shown). same_name question.name e.0.owner) (λ e. matches question e.0) (λ e h. and-left _ _ (and-left _ _ h)) rows

pub matching-point : {E : Type 0} (past now : Past) (point t : ℕ) (question : Question) (homes : HomesKept) (r : Result (List Rr) E) → past ≡ now → IsStateOf homes t (state_at past.start past.history (point - past.number))
    → IfOk r (λ rrs. (t : ℕ) → AreAtHome (at_moment homes t) → rrs ≡ rrs_of (matching question (records (at_moment homes t))))
    → IfOk r (λ rrs. rrs ≡ rrs_of (matching question (records_at now.start now.history (point - now.number))))
matching-point past now point t question homes (Err e) same is all = tt
matching-point past now point t question homes (Ok rrs) same is all =
    all t (home_of-state homes t (state_at past.start past.history (point - past.number)) is)
    ∙ ap (λ (s : State). rrs_of (matching question (records s))) is.same
    ∙ ap (λ (p : Past). rrs_of (matching question (records_at p.start p.history (point - p.number)))) same

-- ---- a plan is held

pub same_moment : (a b : HomesKept) (t : ℕ) → state_of a ≡ state_of b → at_moment a t ≡ at_moment b t
same_moment a b t same = ap (λ (s : State). record s { now = t }) same

-- ---- how entries count

fold-last : {A B : Type 0} (f : B → A → B) (xs : List A) (x : A) (start : B) → fold f start (xs ++ x ∷ []) ≡ f (fold f start xs) x
fold-last f xs x start = fold-append f start xs (x ∷ [])

count-last : (p : Entry → Bool) (history : List Entry) (entry : Entry) → count_by p (history ++ entry ∷ []) ≡ count_by p history + cond (p entry) 1 0
count-last p history entry = fold-last (λ a e. a + cond (p e) 1 0) history entry 0

more_nothing : (n : ℕ) → n + 0 ≡ n
more_nothing n = omega arith

pub totals-last : (history : List Entry) (entry : Entry) → totals (history ++ entry ∷ []) ≡ and_one entry (totals history)
totals-last history entry = (λ i. record { changes = count-last is_change history entry i; heard = count-last is_hearing history entry i; moments = count-last is_moment history entry i }) ∙ by (group entry)
  where
    c : ℕ
    c = count_by is_change history

    h : ℕ
    h = count_by is_hearing history

    m : ℕ
    m = count_by is_moment history

    by : (counted_in : Group) → ◌≡◌ {A = Totals} (record { changes = c + cond (in_changes counted_in) 1 0; heard = h + cond (in_hearings counted_in) 1 0; moments = m + cond (in_moments counted_in) 1 0 }) (and_one_of counted_in (totals history))
    by as_change = λ i. record { changes = c + 1; heard = more_nothing h i; moments = more_nothing m i }
    by as_hearing = λ i. record { changes = more_nothing c i; heard = h + 1; moments = more_nothing m i }
    by as_moment = λ i. record { changes = more_nothing c i; heard = more_nothing h i; moments = m + 1 }

-- ---- an entry is appended

-- the plan that is held leads to the state after the entry, and its moment is timely
record Leading (homes : HomesKept) (moment : ℕ) (held : Option HeldPlan) (entry : Entry) : Type 0 where
  led : led_by (at_moment homes moment) held ≡ after (at_moment homes moment) entry
  now : (led_by (at_moment homes moment) held).now ≤ max_moment
  accepted : accepts (at_moment homes moment) entry ≡ true

led-now : (homes : HomesKept) (moment : ℕ) (plan : HeldPlan) → moment ≤ max_moment → IsReady homes plan → (led_to (at_moment homes moment) plan).now ≤ max_moment
led-now homes moment (plans.Zone i changed) h ready = h
led-now homes moment (plans.Link i plan) h ready = h
led-now homes moment (plans.Moment later each) h ready = ready.0

leading : (homes : HomesKept) (moment : ℕ) (held : Option HeldPlan) (entry : Entry) → moment ≤ max_moment → IfSome held (IsReady homes) → option_map (led_to (at_moment homes moment)) held ≡ held_for (at_moment homes moment) entry
    → is_some (option_map (led_to (at_moment homes moment)) held) ≡ true → Leading homes moment held entry
leading homes moment None entry h ready is some = cc
leading homes moment (Some plan) entry h ready is some =
    let both = by (accepts (at_moment homes moment) entry) refl is in
    record { led = both.1; now = led-now homes moment plan h ready; accepted = both.0 }
  where
    same : (a b : State) → Some a ≡ Some b → a ≡ b
    same a b e = cc

    by : (b : Bool) → accepts (at_moment homes moment) entry ≡ b → Some (led_to (at_moment homes moment) plan) ≡ cond b (Some (after (at_moment homes moment) entry)) None
        → (accepts (at_moment homes moment) entry ≡ true) × (led_to (at_moment homes moment) plan ≡ after (at_moment homes moment) entry)
    by true e is = (e, same (led_to (at_moment homes moment) plan) (after (at_moment homes moment) entry) is)
    by false e is = cc

timely-by : (entry : Entry) (state : State) (homes : Concern) → accepts_by entry state homes ≡ true → (after_by entry state homes).now ≤ max_moment → IsInTime homes
timely-by entry state (a_zone update) e h = tt
timely-by entry state (a_link link) e h = tt
timely-by entry state (all_links t) e h = subst (λ n. n ≤ max_moment) (ap (λ b. (cond b (record state { now = t; links = map (link_at_moment t) state.links }) state).now) e) h

timely-entry : (homes : HomesKept) (moment : ℕ) (held : Option HeldPlan) (entry : Entry) → Leading homes moment held entry → IsTimely entry
timely-entry homes moment held entry is = timely-by entry (at_moment homes moment) (concern entry) is.accepted (subst (λ (s : State). s.now ≤ max_moment) is.led is.now)

-- what is known where the plan that is held is that of an entry
pub record IsLed (past : Past) (homes : HomesKept) (moment : ℕ) (held : Option HeldPlan) (entry : Entry) : Type 0 where
  pub led : led_by (at_moment homes moment) held ≡ after (state_now past) entry
  pub now : (led_by (at_moment homes moment) held).now ≤ max_moment
  pub timely : IsTimely entry

pub held-led : (past : Past) (homes : HomesKept) (moment : ℕ) (held : Option HeldPlan) (entry : Entry) (points : PointsKept) → ◌≡◌ {A = PointsKept} (record { past = past; held = option_map (led_to (at_moment homes moment)) held }) points
    → IsPresent past homes moment held → IsHeld points entry → IsLed past homes moment held entry
held-led past homes moment held entry points view is held_for_entry =
    let (held_is, some) = subst (λ p. IsHeld p entry) (sym view) held_for_entry in
    let lead = leading homes moment held entry is.now is.ready (held_is ∙ ap (λ s. held_for s entry) (sym is.present.same)) some in
    record { led = lead.led ∙ ap (λ s. after s entry) is.present.same; now = lead.now; timely = timely-entry homes moment held entry lead }

pub appended-present : (past new : Past) (keep : ℕ) (homes later : HomesKept) (moment now : ℕ) (held given left : Option HeldPlan) (entry : Entry) → IsLed past homes moment held entry → IsPresent past homes moment held → Appends keep past entry new
    → given ≡ held → left ≡ None → at_moment later now ≡ led_by (at_moment homes moment) given → IsPresent new later now left
appended-present past new keep homes later moment now held given left entry lead is appends given_is left_is made =
    let made_is = made ∙ ap (led_by (at_moment homes moment)) given_is in
    let state = state-appended keep past entry new appends in
    subst (IsPresent new later now) (sym left_is) (record {
      present = record { same = made_is ∙ lead.led ∙ sym state; home = subst AreAtHome (sym state) (home-after (state_now past) is.present.home entry) };
      now = subst (λ (s : State). s.now ≤ max_moment) (sym made_is) lead.now;
      ready = tt;
    })

-- ---- a start

pub start-kept : (homes : HomesKept) → AreKept homes → IsStart (state_of homes) → AllByRecursion IsNamed (homes_in (state_of homes)) → AreAtHome (state_of homes)
start-kept homes kept start named = start-home (state_of homes) start (stand-apart homes 0 kept) (names-links (state_of homes) named)
