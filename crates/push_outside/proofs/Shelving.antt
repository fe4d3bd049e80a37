-- What the objects that were taken back tell after one more, and that an object which is handed out is a new one.
use Rattle.std.proofs.Common.{◌≡◌, ℕ, Bool, true, false, Option, Some, None, Ok, Err, List, [], ◌∷◌, ◌++◌, All, IfOk, refl, sym, ap, subst, if◌then◌else◌, ◌==◌, ◌-◌}
use Rattle.std.specs.declared.result.Result.{Result}
use Rattle.std.proofs.lemmas.List.Elements.{All-head}
use Rattle.push_outside.specs.declared.outside.OpenFault.{OpenFault}
use Rattle.push_outside.specs.declared.outside.OpenFault.TheVariants.{Failed, NoMemory}
use Rattle.push_outside.specs.Outside.{AddsTold}
use Rattle.push_outside.specs.Shelves.{ShelfState, StockState, HandsOut, after_taking_back, all_told, put_told, told_back}

-- one told in front changes nothing of what is added behind
behind_told : {A : Type 0} (first : Option A) (before now : Option (List A)) (told : Option A) → AddsTold before now told → AddsTold (put_told first before) (put_told first now) told
behind_told None before now told h = refl
behind_told (Some a) None now told h = ap (put_told (Some a)) h
behind_told (Some a) (Some xs) None told h = tt
behind_told (Some a) (Some xs) (Some ys) (Some x) h = ap (λ l. a ∷ l) h
behind_told (Some a) (Some xs) (Some ys) None h = absurd h

alone_told : {A : Type 0} (told : Option A) → AddsTold (Some []) (put_told told (Some [])) told
alone_told None = tt
alone_told (Some x) = refl

last_told : {T A : Type 0} (tells : T → Option A) (xs : List T) (x : T) → AddsTold (all_told tells xs) (all_told tells (xs ++ x ∷ [])) (tells x)
last_told tells [] x = alone_told (tells x)
last_told tells (y ∷ ys) x = behind_told (tells y) (all_told tells ys) (all_told tells (ys ++ x ∷ [])) (tells x) (last_told tells ys x)

-- nothing is told any more
untold : {A : Type 0} (before : Option (List A)) (told : Option A) → AddsTold before None told
untold None told = refl
untold (Some xs) told = tt

by_lost : {T A : Type 0} (tells : T → Option A) (xs : List T) (x : T) (lost : Bool)
    → AddsTold (if lost then None else all_told tells xs) (if lost then None else all_told tells (xs ++ x ∷ [])) (tells x)
by_lost tells xs x true = refl
by_lost tells xs x false = last_told tells xs x

by_room : {T A : Type 0} (tells : T → Option A) (x : T) (s : ShelfState T) (full : Bool)
    → AddsTold (told_back tells s) (told_back tells (if full then record s { lost = true } else record s { items = s.items ++ x ∷ []; room = s.room - 1 })) (tells x)
by_room tells x s true = untold (told_back tells s) (tells x)
by_room tells x s false = by_lost tells s.items x s.lost

-- an object that was taken back is told behind the others
pub adds_told : {T A : Type 0} (tells : T → Option A) (x : T) (inside before now : ShelfState T) → inside ≡ before → now ≡ after_taking_back x inside
    → AddsTold (told_back tells before) (told_back tells now) (tells x)
adds_told tells x inside before now same is =
    subst (λ b. AddsTold (told_back tells b) (told_back tells now) (tells x)) same
    (subst (λ n. AddsTold (told_back tells inside) (told_back tells n) (tells x)) (sym is) (by_room tells x inside (inside.room == 0)))

-- the object that is handed out is as all that were there
pub is_new : {T B : Type 0} (P Q : T → Type 0) → ((x : T) → P x → Q x) → (words : List ℕ) (stock now : StockState T) (shelf shelf_now : ShelfState B) (made : Result T OpenFault)
    → All P stock.items → HandsOut words stock now shelf shelf_now made → IfOk made Q
is_new P Q says words stock now shelf shelf_now (Ok object) all h = says object (All-head P object now.items (subst (All P) h.0 all))
is_new P Q says words stock now shelf shelf_now (Err Failed) all h = tt
is_new P Q says words stock now shelf shelf_now (Err NoMemory) all h = tt
