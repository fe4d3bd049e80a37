-- What the fields of a supply of a line stand for.
--     supplied, StandsWithin      the items that are over and those that are left; where it stands
use Rattle.std.specs.Prelude.{ℕ, ◌≤◌, List, [], ◌∷◌, length, take, drop, Bool}
use Rattle.push_base.specs.Items.{first_octets}
use Rattle.push_base.specs.LineSupply.{LineSupplied, Stands}
use Rattle.push_base.specs.declared.mem_item.MemItem.{MemItem}
use Rattle.push_base.specs.declared.mem_item.MemItem.TheVariants.{Bytes, Quiet}
use Rattle.push_base.specs.declared.line_supply.LineSupply.TheInside.{Inside}

-- the items without so many octets of the first
abbrev pub without : ℕ → List MemItem → List MemItem
without n [] = []
without n (Bytes octets ∷ items) = Bytes (drop n octets) ∷ items
without n (Quiet ∷ items) = Quiet ∷ items

-- these items are over, and of these others so many octets of the first were given
abbrev pub standing : List MemItem → List MemItem → ℕ → Bool → Bool → LineSupplied
standing over items place ended lost =
    record { over = over; part = take place (first_octets items); left = without place items; ended = ended; lost = lost }

abbrev pub supplied : Inside → LineSupplied
supplied s = standing (take s.item s.items.items) (drop s.item s.items.items) s.place s.ended s.lost

-- it stands inside an item, or before one, or at the end
pub record StandsWithin (s : Inside) : Type 0 where
  pub item : s.item ≤ length s.items.items
  pub place : s.place ≤ length (first_octets (drop s.item s.items.items))
  pub stands : Stands (supplied s)
