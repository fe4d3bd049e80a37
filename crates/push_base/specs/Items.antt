-- The items of a line, or of datagrams, in memory.
--     octets_in, HasOctets      of one item
--     first_octets, is_quiet, got_for      of the first of those that are left
--     rest_of      what a call leaves of the buffer
use Rattle.std.specs.Prelude.{ℕ, ◌<◌, ⊤, Bool, true, false, List, [], ◌∷◌, length, drop, min}
use Rattle.push_base.specs.declared.got.Got.{Got}
use Rattle.push_base.specs.declared.got.Got.TheVariants as got
use Rattle.push_base.specs.declared.mem_item.MemItem.{MemItem}
use Rattle.push_base.specs.declared.mem_item.MemItem.TheVariants.{Bytes, Quiet}

abbrev pub octets_in : MemItem → List ℕ
octets_in (Bytes octets) = octets
octets_in Quiet = []

-- octets that are to be given are at least one
abbrev pub HasOctets : MemItem → Type 0
HasOctets (Bytes octets) = 0 < length octets
HasOctets Quiet = ⊤

-- the octets of the first item
abbrev pub first_octets : List MemItem → List ℕ
first_octets [] = []
first_octets (item ∷ items) = octets_in item

abbrev pub is_quiet : List MemItem → Bool
is_quiet [] = false
is_quiet (Bytes octets ∷ items) = false
is_quiet (Quiet ∷ items) = true

-- what a call with so much room gives: as many octets of the first item as fit
abbrev pub got_for : ℕ → List MemItem → Got
got_for room [] = got.End
got_for room (Bytes octets ∷ items) = got.Bytes (min (length octets) room)
got_for room (Quiet ∷ items) = got.Quiet

-- what a call leaves of the buffer as it was
abbrev pub rest_of : Got → List ℕ → List ℕ
rest_of (got.Bytes n) buf = drop n buf
rest_of got.Quiet buf = buf
rest_of got.End buf = buf
