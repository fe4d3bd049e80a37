-- What becomes of a start where the oldest entries behind it are forgotten.
--     CanLead start later      a plan of the start's is ready
--     IsAhead start entries ahead      homes ahead of a start are what it becomes by some of the entries behind it
--     LeadsTo start moment state later      the start at a moment becomes this state
use Rattle.std.specs.Prelude.{◌≡◌, ◌≤◌, ℕ, List, length, IfSome}
use Rattle.history.specs.Kept.{HomesKept, at_moment}
use Rattle.history.specs.HeldPlans.{IsReady, led_by}
use Rattle.history.specs.States.{State, state_at}
use Rattle.history.specs.declared.ahead.Ahead.{Ahead}
use Rattle.history.specs.declared.entry.Entry.{Entry}
use Rattle.history.specs.declared.past.Later.{Later}
use Rattle.history.specs.declared.past.Later.TheVariants as laters

-- a plan was made of the start, and there is room for it
abbrev pub CanLead : HomesKept → Later → Type 0
CanLead start (laters.Planned held) = IfSome held (IsReady start)
CanLead start _ = Unit {0}

-- homes ahead of a start are what it becomes by so many of the entries behind it
pub record IsAhead (start : State) (entries : List Entry) (ahead : Ahead) : Type 0 where
  pub within : ahead.count ≤ length entries
  pub is : at_moment ahead.homes ahead.moment ≡ state_at start entries ahead.count

-- the start at a moment becomes this state
abbrev pub LeadsTo : HomesKept → ℕ → State → Later → Type 0
LeadsTo start moment state laters.Same = at_moment start moment ≡ state
LeadsTo start moment state (laters.Planned held) = IfSome held (IsReady start) × (led_by (at_moment start moment) held ≡ state)
LeadsTo start moment state (laters.Homes homes t) = at_moment homes t ≡ state
