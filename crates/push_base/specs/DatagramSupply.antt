-- The items of datagrams, which are given one by one.
--     DatagramSupplied      the items that are over, and those that are left
--     datagrams_in, given_told      what is told of them
--     after_receiving      after what a call gave
use Rattle.std.specs.Prelude.{ℕ, Bool, ◌||◌, nat_lt, None, Some, List, [], ◌∷◌, ◌++◌, length, if◌then◌else◌}
use Rattle.std.specs.declared.option.Option.{Option}
use Rattle.push_base.specs.declared.mem_item.MemItem.{MemItem}
use Rattle.push_base.specs.declared.mem_item.MemItem.TheVariants.{Bytes, Quiet}

-- the items that are over, and those that are left; whether what was given is no longer told, as of a datagram not all
-- octets were given
pub record DatagramSupplied : Type 0 where
  pub over : List MemItem
  pub left : List MemItem
  pub lost : Bool

-- the datagrams among these items
abbrev pub datagrams_in : List MemItem → List (List ℕ)
datagrams_in [] = []
datagrams_in (Bytes octets ∷ items) = octets ∷ datagrams_in items
datagrams_in (Quiet ∷ items) = datagrams_in items

abbrev pub given_told : DatagramSupplied → Option (List (List ℕ))
given_told s = if s.lost then None else Some (datagrams_in s.over)

-- after a call with so much room, by the first of these items
abbrev pub receiving : ℕ → List MemItem → DatagramSupplied → DatagramSupplied
receiving room [] s = s
receiving room (Bytes octets ∷ items) s = record { over = s.over ++ Bytes octets ∷ []; left = items; lost = s.lost || nat_lt room (length octets) }
receiving room (Quiet ∷ items) s = record { over = s.over ++ Quiet ∷ []; left = items; lost = s.lost }

abbrev pub after_receiving : ℕ → DatagramSupplied → DatagramSupplied
after_receiving room s = receiving room s.left s
