-- An entry that isn't accepted leaves the state; one that is leads where its plan does.
use Rattle.std.proofs.Common.{◌≡◌, ℕ, zero, suc, Bool, true, false, cond, List, [], ◌∷◌, map, Option, Some, None, Result, Ok, Err, refl, sym, ap, ◌∙◌}
use Rattle.std.specs.Prelude.{is_ok, slice_get, option_map}
use Rattle.push_base.specs.Cases.{changed_at}
use Rattle.linkcache.specs.Links.{LinkState}
use Rattle.history.specs.Entries.{Concern, a_zone, a_link, all_links, concern, is_taken}
use Rattle.history.specs.Kept.{HomesKept, at_moment, held_for, state_of}
use Rattle.history.specs.AtHome.{AreAtHome}
use Rattle.history.specs.HeldPlans.{IsStateOf, led_by, led_to}
use Rattle.history.specs.States.{State, accepts, accepts_by, after, after_by, link_after, link_at_moment, updated}
use Rattle.history.specs.declared.entry.Entry.{Entry}
use Rattle.history.specs.declared.planning.HeldPlan.{HeldPlan}
use Rattle.history.proofs.Elements.{same_some}
use Rattle.history.proofs.OneLink.{same-after}
use Rattle.history.proofs.Present.{same_moment}
use Rattle.history.proofs.StatesAtHome.{home-after}

-- ---- an entry that isn't accepted

same-updated : (state : State) (r : Result State ℕ) → is_ok r ≡ false → elim r as (λ _. State) [ Err code ↦ state | Ok later ↦ later ] ≡ state
same-updated state (Err code) e = refl
same-updated state (Ok later) e = cc

-- a change that leaves the element at the place
same-element : {X : Type 0} (f : X → X) (xs : List X) (i : ℕ) → ((x : X) → slice_get xs i ≡ Some x → f x ≡ x) → changed_at i f xs ≡ xs
same-element f [] i same = refl
same-element f (x ∷ xs) zero same = ap (λ y. y ∷ xs) (same x refl)
same-element f (x ∷ xs) (suc i) same = ap (λ l. x ∷ l) (same-element f xs i same)

-- a test that the link at a place doesn't meet
unmet : (test : LinkState → Bool) (links : List LinkState) (i : ℕ) → elim (slice_get links i) as (λ _. Bool) [ None ↦ false | Some l ↦ test l ] ≡ false → (l : LinkState) → slice_get links i ≡ Some l → test l ≡ false
unmet test links i e l at = sym (ap (λ o. elim o as (λ _. Bool) [ None ↦ false | Some l ↦ test l ]) at) ∙ e

idle-by : (entry : Entry) (state : State) (homes : Concern) → accepts_by entry state homes ≡ false → after_by entry state homes ≡ state
idle-by entry state (a_zone update) e = same-updated state (updated state update) e
idle-by entry state (a_link link) e =
    λ i. record state { links = same-element (link_after entry state.now) state.links link (λ l at. λ j. record l { rows = same-after entry state.now l (unmet (is_taken entry) state.links link e l at) j }) i }
idle-by entry state (all_links t) e = ap (λ b. cond b (record state { now = t; links = map (link_at_moment t) state.links }) state) e

after-idle : (state : State) (entry : Entry) → accepts state entry ≡ false → after state entry ≡ state
after-idle state entry e = idle-by entry state (concern entry) e

-- ---- what is held, made

pub led-after : (state : State) (entry : Entry) (held : Option HeldPlan) → option_map (led_to state) held ≡ held_for state entry → led_by state held ≡ after state entry
led-after state entry held is = by (accepts state entry) refl held is
  where
    by : (b : Bool) → accepts state entry ≡ b → (held : Option HeldPlan) → option_map (led_to state) held ≡ cond b (Some (after state entry)) None → led_by state held ≡ after state entry
    by true e None is = cc
    by true e (Some plan) is = same_some (led_to state plan) (after state entry) is
    by false e None is = sym (after-idle state entry e)
    by false e (Some plan) is = cc

pub entered : (homes now later : HomesKept) (t at : ℕ) (entry : Entry) (held : Option HeldPlan) → AreAtHome (at_moment homes t) → state_of now ≡ state_of homes → option_map (led_to (at_moment homes t)) held ≡ held_for (at_moment homes t) entry
    → at_moment later at ≡ led_by (at_moment now t) held → IsStateOf later at (after (at_moment homes t) entry)
entered homes now later t at entry held home same is made = record {
  same = made ∙ ap (λ s. led_by s held) (same_moment now homes t same) ∙ led-after (at_moment homes t) entry held is;
  home = home-after (at_moment homes t) home entry;
}
