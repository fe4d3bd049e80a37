-- The objects of one kind of an outside in memory.
--     StockState, handed      those that will be handed out, and the words for which some were
--     ShelfState, with_room, after_taking_back, told_back      those that were taken back
--     HandsOut      what a call that makes an object answers and leaves
use Rattle.std.specs.Prelude.{◌≡◌, ◌+◌, ◌-◌, ◌==◌, ℕ, Bool, true, Some, None, Ok, Err, List, [], ◌∷◌, ◌++◌, drop, if◌then◌else◌}
use Rattle.std.specs.declared.option.Option.{Option}
use Rattle.std.specs.declared.result.Result.{Result}
use Rattle.push_outside.specs.declared.outside.OpenFault.{OpenFault}
use Rattle.push_outside.specs.declared.outside.OpenFault.TheVariants.{Failed, NoMemory}

-- the objects that will be handed out, and the words that were handed over
pub record StockState (T : Type 0) : Type 0 where
  pub items : List T
  pub words : List (List ℕ)

-- after these words were handed over
abbrev pub handed : {T : Type 0} → List ℕ → StockState T → StockState T
handed words stock = record { items = drop 1 stock.items; words = stock.words ++ words ∷ [] }

-- the objects that were taken back, how many more can be, and whether one was lost since there was no room for it
pub record ShelfState (T : Type 0) : Type 0 where
  pub items : List T
  pub room : ℕ
  pub lost : Bool

-- with room for one more
abbrev pub with_room : {T : Type 0} → ShelfState T → ShelfState T
with_room shelf = record shelf { room = shelf.room + 1 }

-- after an object was taken back
abbrev pub after_taking_back : {T : Type 0} → T → ShelfState T → ShelfState T
after_taking_back object shelf =
    if shelf.room == 0 then record shelf { lost = true } else record shelf { items = shelf.items ++ object ∷ []; room = shelf.room - 1 }

-- one more in front, where both are told
abbrev pub put_told : {A : Type 0} → Option A → Option (List A) → Option (List A)
put_told None rest = None
put_told (Some x) None = None
put_told (Some x) (Some xs) = Some (x ∷ xs)

-- what the objects tell, where each of them tells it
abbrev pub all_told : {T A : Type 0} → (T → Option A) → List T → Option (List A)
all_told tells [] = Some []
all_told tells (x ∷ xs) = put_told (tells x) (all_told tells xs)

-- what those that were taken back tell, unless one was lost
abbrev pub told_back : {T A : Type 0} → (T → Option A) → ShelfState T → Option (List A)
told_back tells shelf = if shelf.lost then None else all_told tells shelf.items

-- the first object is handed out, and the call fails exactly where there is none. In both cases the words are kept, and
-- there is room for one object more; for want of memory nothing changes
abbrev pub HandsOut : {T B : Type 0} → List ℕ → StockState T → StockState T → ShelfState B → ShelfState B → Result T OpenFault → Type 0
HandsOut words stock stock_now shelf shelf_now (Ok object) = (stock.items ≡ object ∷ stock_now.items)
    × (stock_now ≡ handed words stock) × (shelf_now ≡ with_room shelf)
HandsOut words stock stock_now shelf shelf_now (Err Failed) = (stock.items ≡ [])
    × (stock_now ≡ handed words stock) × (shelf_now ≡ with_room shelf)
HandsOut words stock stock_now shelf shelf_now (Err NoMemory) = (stock_now ≡ stock) × (shelf_now ≡ shelf)
