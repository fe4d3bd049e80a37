-- What the fields of a supply stand for.
--     supplied, StandsWithin      what was given and is left; where it stands
use Rattle.std.specs.Prelude.{◌≡◌, ℕ, ◌<◌, ◌≤◌, List, [], ◌∷◌, ◌++◌, length, take, drop, All}
use Rattle.std.specs.List.{concat}
use Rattle.push_base.specs.Supply.{Supplied, first_item}
use Rattle.push_base.specs.declared.supply.Supply.TheInside.{Inside}

-- the items without so many octets of the first
abbrev pub without : ℕ → List (List ℕ) → List (List ℕ)
without n [] = []
without n (item ∷ items) = drop n item ∷ items

abbrev pub supplied : Inside → Supplied
supplied s = record {
  given = concat (take s.item s.items.items) ++ take s.place (first_item (drop s.item s.items.items));
  items = without s.place (drop s.item s.items.items);
}

-- it stands inside an item, or before one, or at the end, and no item is empty
pub record StandsWithin (s : Inside) : Type 0 where
  pub item : s.item ≤ length s.items.items
  pub place : s.item < length s.items.items → s.place < length (first_item (drop s.item s.items.items))
  pub at_end : s.item ≡ length s.items.items → s.place ≡ 0
  pub filled : All (λ item. 0 < length item) s.items.items
