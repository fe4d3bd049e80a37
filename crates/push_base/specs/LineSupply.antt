-- The items of a line, which are given piece by piece.
--     LineSupplied      the items that are over, and those that are left
--     given_octets, left_octets, reads_told      what is told of them
--     after_giving, after_quiet, after_end, after_receiving      after what a call gave
--     Stands      what is so of them at any time
use Rattle.std.specs.Prelude.{◌≡◌, ℕ, Bool, true, false, ◌||◌, None, Some, List, [], ◌∷◌, ◌++◌, map, length, take, drop, min, nat_le, All, if◌then◌else◌}
use Rattle.std.specs.declared.option.Option.{Option}
use Rattle.std.specs.List.{concat}
use Rattle.push_base.specs.Line.{Read, bytes, quiet, end_of_line}
use Rattle.push_base.specs.Items.{octets_in, HasOctets}
use Rattle.push_base.specs.declared.mem_item.MemItem.{MemItem}
use Rattle.push_base.specs.declared.mem_item.MemItem.TheVariants.{Bytes, Quiet}

-- the items that are over; what was given of the next; the items that are left, without that; whether the end was told;
-- whether what each call gave is no longer told, as an item was given by several calls or the end was told again
pub record LineSupplied : Type 0 where
  pub over : List MemItem
  pub part : List ℕ
  pub left : List MemItem
  pub ended : Bool
  pub lost : Bool

abbrev pub given_octets : LineSupplied → List ℕ
given_octets s = concat (map octets_in s.over) ++ s.part

abbrev pub left_octets : LineSupplied → List ℕ
left_octets s = concat (map octets_in s.left)

abbrev pub read_in : MemItem → Read
read_in (Bytes octets) = bytes octets
read_in Quiet = quiet

abbrev pub end_told : Bool → List Read
end_told true = end_of_line ∷ []
end_told false = []

abbrev pub reads_told : LineSupplied → Option (List Read)
reads_told s = if s.lost then None else Some (map read_in s.over ++ end_told s.ended)

-- after n octets of the first of these items were given
abbrev pub giving : ℕ → List MemItem → LineSupplied → LineSupplied
giving n [] s = s
giving n (Quiet ∷ items) s = s
giving n (Bytes octets ∷ items) s =
    if nat_le (length octets) n
    then record s { over = s.over ++ Bytes (s.part ++ octets) ∷ []; part = []; left = items }
    else record s { part = s.part ++ take n octets; left = Bytes (drop n octets) ∷ items; lost = true }

abbrev pub after_giving : ℕ → LineSupplied → LineSupplied
after_giving n s = giving n s.left s

-- after it was told that none come for a while, where that is the first of these items
abbrev pub skipping : List MemItem → LineSupplied → LineSupplied
skipping [] s = s
skipping (Bytes octets ∷ items) s = s
skipping (Quiet ∷ items) s = record s { over = s.over ++ Quiet ∷ []; left = items }

abbrev pub after_quiet : LineSupplied → LineSupplied
after_quiet s = skipping s.left s

-- after the end was told
abbrev pub after_end : LineSupplied → LineSupplied
after_end s = record s { ended = true; lost = s.lost || s.ended }

-- after a call with so much room, by the first of these items
abbrev pub receiving : ℕ → List MemItem → LineSupplied → LineSupplied
receiving room [] s = after_end s
receiving room (Bytes octets ∷ items) s = giving (min (length octets) room) (Bytes octets ∷ items) s
receiving room (Quiet ∷ items) s = skipping (Quiet ∷ items) s

abbrev pub after_receiving : ℕ → LineSupplied → LineSupplied
after_receiving room s = receiving room s.left s

-- octets that are left are at least one; while it is told what each call gave, no item was given in part; nothing is left
-- where the end was told
pub record Stands (s : LineSupplied) : Type 0 where
  pub filled : All HasOctets s.left
  pub whole : s.lost ≡ false → s.part ≡ []
  pub at_end : s.ended ≡ true → s.left ≡ []
