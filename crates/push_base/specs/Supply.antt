-- A list of items that is given piece by piece.
--     Supplied      what was given, and the items that are left
--     after_giving      after so many octets of the first item
use Rattle.std.specs.Prelude.{ℕ, List, [], ◌∷◌, ◌++◌, length, take, drop, nat_le, if◌then◌else◌}

-- what was given, and the items that are left, the first of them maybe in part
pub record Supplied : Type 0 where
  pub given : List ℕ
  pub items : List (List ℕ)

-- the first item, or nothing
abbrev pub first_item : List (List ℕ) → List ℕ
first_item [] = []
first_item (item ∷ items) = item

-- the items that are left when n octets of the first were given
abbrev pub items_after : ℕ → List (List ℕ) → List (List ℕ)
items_after n [] = []
items_after n (item ∷ items) = if nat_le (length item) n then items else drop n item ∷ items

-- after n octets of the first item were given
abbrev pub after_giving : ℕ → Supplied → Supplied
after_giving n s = record { given = s.given ++ take n (first_item s.items); items = items_after n s.items }
