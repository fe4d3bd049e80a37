-- What the answer to a plan says of its entry, whatever homes that concerns.
--     accepted-told      an entry whose keys are told is accepted
--     changes-told, held-told      they are the keys that it changes, and its plan is held
use Rattle.std.proofs.Common.{◌≡◌, ℕ, Bool, true, false, cond, List, Some, None, Result, Ok, Err, refl, ap}
use Rattle.std.specs.Prelude.{is_ok, is_some}
use Rattle.rrset.specs.RecordSet.{changes}
use Rattle.rrset.specs.declared.record.Changed.{Changed}
use Rattle.history.specs.Entries.{Concern, a_zone, a_link, all_links, concern}
use Rattle.history.specs.Kept.{held_for, told_plan}
use Rattle.history.specs.Plans.{Plan, refuse, idle, accept, planned, planned_by}
use Rattle.history.specs.States.{State, accepts, accepts_by, after, after_by, records, updated}
use Rattle.history.specs.declared.entry.Entry.{Entry}
use Rattle.history.specs.declared.plan.Planned.TheVariants as told

module _ (state : State) (entry : Entry) (changed : List Changed) where
  abbrev Tells : Plan → Type 0
  Tells plan = told.Accept changed ≡ told_plan plan

  same_keys : (new : List Changed) → told.Accept changed ≡ told.Accept new → changed ≡ new
  same_keys new e = cc

  abbrev of_result : Result State ℕ → Plan
  of_result r = elim r as (λ _. Plan) [ Err code ↦ refuse code | Ok later ↦ accept (changes (records state) (records later)) ]

  is_accepted : (r : Result State ℕ) → Tells (of_result r) → is_ok r ≡ true
  is_accepted (Err code) e = cc
  is_accepted (Ok later) e = refl

  is_made : (b : Bool) (new : List Changed) → Tells (cond b (accept new) idle) → b ≡ true
  is_made true new e = refl
  is_made false new e = cc

  accepted-by : (homes : Concern) → Tells (planned_by entry state homes) → accepts_by entry state homes ≡ true
  accepted-by (a_zone update) e = is_accepted (updated state update) e
  accepted-by (a_link link) e = is_made (accepts_by entry state (a_link link)) _ e
  accepted-by (all_links t) e = is_made (accepts_by entry state (all_links t)) _ e

  pub accepted-told : Tells (planned state entry) → accepts state entry ≡ true
  accepted-told e = accepted-by (concern entry) e

  keys_of : (r : Result State ℕ) → Tells (of_result r) → changed ≡ changes (records state) (records (elim r as (λ _. State) [ Err code ↦ state | Ok later ↦ later ]))
  keys_of (Err code) e = cc
  keys_of (Ok later) e = same_keys (changes (records state) (records later)) e

  keys_made : (b : Bool) (new : List Changed) → Tells (cond b (accept new) idle) → changed ≡ new
  keys_made true new e = same_keys new e
  keys_made false new e = cc

  changes-by : (homes : Concern) → Tells (planned_by entry state homes) → changed ≡ changes (records state) (records (after_by entry state homes))
  changes-by (a_zone update) e = keys_of (updated state update) e
  changes-by (a_link link) e = keys_made (accepts_by entry state (a_link link)) _ e
  changes-by (all_links t) e = keys_made (accepts_by entry state (all_links t)) _ e

  pub changes-told : Tells (planned state entry) → changed ≡ changes (records state) (records (after state entry))
  changes-told e = changes-by (concern entry) e

  -- and so its plan is held
  pub held-told : Tells (planned state entry) → is_some (held_for state entry) ≡ true
  held-told e = ap (λ b. is_some (cond b (Some (after state entry)) None)) (accepted-told e)
