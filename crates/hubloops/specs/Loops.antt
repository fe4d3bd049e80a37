-- What the four loops have in common.
--     Observed      what a gate and an object of the outside tell
--     Starves      memory for a buffer ran out
--     Ran      calls of one kind were made
--     CountsMore      a count that is told went on by so many
--     UsesTurns, LeavesRest      the turns that a loop used, and what it may leave
--     LastWas, IsEndOf      what is so of the last call
--     EndsAt      the loop went on behind each call but the last, which ended it
use Rattle.std.specs.Prelude.{◌≡◌, ◌⊎◌, ℕ, ◌≤◌, ⊤, List, [], ◌∷◌, ◌++◌, None, Some}
use Rattle.std.specs.declared.option.Option.{Option}
use Rattle.std.specs.List.{AllByRecursion}
use Rattle.hubloops.specs.declared.loop_end.LoopEnd.{LoopEnd}
use Rattle.hubloops.specs.declared.loop_end.LoopEnd.TheVariants as ends
use Rattle.hubloops.specs.Calls.{HubCall}
use Rattle.hubloops.specs.Gates.{GateState, LeadsTo, RoseBy}

-- what a gate tells, and of an object of the outside what it gave or took, and the number of its calls
pub record Observed (A : Type 0) : Type 0 where
  pub gate : Option GateState
  pub told : Option (List A)
  pub calls : Option ℕ

abbrev pub observed : {A : Type 0} → Option GateState → Option (List A) → Option ℕ → Observed A
observed gate told calls = record { gate = gate; told = told; calls = calls }

-- memory for a buffer ran out before all
abbrev pub Starves : {A : Type 0} → A → A → LoopEnd → Type 0
Starves before after end = (end ≡ ends.NoMemory) × (after ≡ before)

-- calls of one kind lead from one state of a gate to another
pub record Ran (IsOfKind : HubCall → Type 0) (calls : List HubCall) (before after : Option GateState) : Type 0 where
  pub kinds : AllByRecursion IsOfKind calls
  pub leads : LeadsTo calls before after

abbrev pub CountsMore : ℕ → Option ℕ → Option ℕ → Type 0
CountsMore n None now = ⊤
CountsMore n (Some before) None = ⊥
CountsMore n (Some before) (Some now) = RoseBy n before now

-- all turns were used where a loop ended so, and else no more than these
abbrev pub UsesTurns : LoopEnd → ℕ → ℕ → Type 0
UsesTurns ends.Turns used turns = used ≡ turns
UsesTurns _ used turns = used ≤ turns

-- a rest is left only where the turns were used, or the sink failed
abbrev pub LeavesRest : {A : Type 0} → LoopEnd → List A → Type 0
LeavesRest ends.Turns rest = ⊤
LeavesRest ends.WriteFault rest = ⊤
LeavesRest _ rest = rest ≡ []

-- the last call is one that passes
abbrev pub LastWas : (HubCall → Type 0) → List HubCall → Type 0
LastWas Passes calls = (front : List HubCall) × (call : HubCall) × (calls ≡ front ++ call ∷ []) × Passes call

-- the last call is one that ends a loop, and each before it is one behind which the loop goes on
abbrev pub EndsAt : (goes_on ends : HubCall → Type 0) → List HubCall → Type 0
EndsAt GoesOn Ends calls = (front : List HubCall) × (call : HubCall) × (calls ≡ front ++ call ∷ []) × AllByRecursion GoesOn front × Ends call

-- what is left is the end of what the last call gave
abbrev pub IsEndOf : {A : Type 0} → (HubCall → List A) → List A → HubCall → Type 0
IsEndOf {A} parts rest call = (front : List A) × (parts call ≡ front ++ rest)
