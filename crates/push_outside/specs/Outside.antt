-- What an outside tells.
--     Telling      the words that were handed to its calls, and what the objects that it took back tell
--     Used      what a source gave and had left
--     Adds, AddsTold, AddsUse, AddsSome      one more is told: of any list; of objects that were taken back; of sources; so many are
--     IsFresh, IsUnused, RaisedBy      of an object that was just made; of a count of faults, once one was taken back
use Rattle.std.specs.Prelude.{◌≡◌, ℕ, ◌<◌, ◌≤◌, ⊤, Some, None, List, [], ◌∷◌, ◌++◌, length}
use Rattle.std.specs.declared.option.Option.{Option}
use Rattle.push_base.specs.Causes.{Rose}
use Rattle.push_base.specs.Line.{Read}
use Rattle.push_base.specs.declared.role.Role.{Role}

-- of a source that was taken back, the octets that it gave and those that it had left
pub record Used : Type 0 where
  pub gave : List ℕ
  pub left : List ℕ

-- all that an outside tells, each list where it is told: the words that were handed to `open`, `doors`, `dial` and
-- `datagrams`; and of the objects that were taken back, one after the other, the sources, the answers of the lines, the
-- octets that the wires took, how many sessions the doors accepted, what the datagrams of links gave, the moments of the
-- clocks, and the jobs that the starters were handed
pub record Telling : Type 0 where
  pub opened : Option (List (List ℕ))
  pub listened : Option (List (List ℕ))
  pub dialled : Option (List (List ℕ))
  pub heard : Option (List (List ℕ))
  pub used : Option (List Used)
  pub lines : Option (List (List Read))
  pub wires : Option (List (List ℕ))
  pub accepted : Option (List ℕ)
  pub links : Option (List (List (List ℕ)))
  pub moments : Option (List (List ℕ))
  pub started : Option (List (List (Role × ℕ)))

-- one more at the end of a list that is told
abbrev pub Adds : {A : Type 0} → Option (List A) → Option (List A) → A → Type 0
Adds None now x = now ≡ None
Adds (Some xs) None x = ⊥
Adds (Some xs) (Some ys) x = ys ≡ xs ++ x ∷ []

-- an object was taken back: where those that were taken back are still told, what this one tells is added
abbrev pub AddsTold : {A : Type 0} → Option (List A) → Option (List A) → Option A → Type 0
AddsTold None now told = now ≡ None
AddsTold (Some xs) None told = ⊤
AddsTold (Some xs) (Some now) (Some x) = now ≡ xs ++ x ∷ []
AddsTold (Some xs) (Some now) None = ⊥

-- so many objects were taken back, where those that were taken back are still told
abbrev pub AddsSome : {A : Type 0} → Option (List A) → Option (List A) → ℕ → Type 0
AddsSome None now count = now ≡ None
AddsSome (Some xs) None count = ⊤
AddsSome {A} (Some xs) (Some now) count = (more : List A) × (now ≡ xs ++ more) × (length more ≡ count)

-- what a source tells: what it gave and has left
abbrev pub use_told : Option (List ℕ) → Option (List ℕ) → Option Used
use_told None left = None
use_told (Some gave) None = None
use_told (Some gave) (Some left) = Some (record { gave = gave; left = left })

-- a source was taken back, and is added with what it gave and has left
abbrev pub AddsUse : Option (List Used) → Option (List Used) → Option (List ℕ) → Option (List ℕ) → Type 0
AddsUse before now gave left = AddsTold before now (use_told gave left)

-- an object that was just made has told nothing
abbrev pub IsFresh : {A : Type 0} → Option (List A) → Type 0
IsFresh None = ⊤
IsFresh (Some told) = told ≡ []

-- Doors that were just made have accepted none; and where the outside tells how many the doors accepted that it took back, these
-- tell it.
abbrev pub IsUnused : Option (List ℕ) → Option ℕ → Type 0
IsUnused (Some known) count = count ≡ Some 0
IsUnused None (Some count) = count ≡ 0
IsUnused None None = ⊤

-- a count rises exactly with a fault of the object that was taken back
pub record RaisedBy (faults before now : ℕ) : Type 0 where
  pub later : before ≤ now
  pub same : faults ≡ 0 → now ≡ before
  pub rose : 0 < faults → Rose before now
