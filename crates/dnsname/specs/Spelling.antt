-- Names at a place of a message, and the faults there. A place is a count of octets from the start.
--     SpellsNameAt      which name stands at a place, pointers followed, and the place after it
--     SpellsNameIn      the same, where the name's first piece stands in other octets, as the first ones of the message
--     FaultAt, FaultIn      the first fault of a name that begins at a place
--     SpellsPlainNameAt, PlainFaultAt      the same without pointers
use Rattle.std.specs.Prelude.{◌≡◌, ℕ, ◌+◌, ◌/◌, ◌%◌, ◌^◌, ◌<◌, ◌≤◌, ◌⊎◌, List, [], ◌∷◌, ◌++◌, length, drop}
use Rattle.std.specs.List.{AllByRecursion}
use Rattle.dnsname.specs.declared.name.NameFault.{NameFault}
use Rattle.dnsname.specs.declared.name.NameFault.TheVariants.{Short, LongLabel, Pointer, TooLong, NoMemory}
use Rattle.dnsname.specs.Names.{Labels, max_label, max_name, IsLabel, IsName, label_octets, labels_octets, octets}

-- these octets stand at the place
abbrev pub StandsAt : List ℕ → ℕ → List ℕ → Type 0
StandsAt message place bytes = (rest : List ℕ) × (drop place message ≡ bytes ++ rest)

-- the length of a label, with the top bits 00, with which a name of size octets before it stays within a name
pub record IsLength (size n : ℕ) : Type 0 where
  pub some : 1 ≤ n
  pub few : n ≤ max_label
  pub fits : size + n + 2 ≤ max_name

-- The fault that is met at a place itself, before which size octets of the name stand.
abbrev pub IsFault : List ℕ → ℕ → ℕ → NameFault → Type 0
-- there is no octet, or not the whole of a label
IsFault message place size (Short p) =
    (p ≡ length message) × ((length message ≤ place)
    ⊎ ((n : ℕ) × StandsAt message place (n ∷ []) × IsLength size n × (length message < place + 1 + n)))
-- a length octet with the top bits 01 or 10 (RFC 1035, 4.1.4)
IsFault message place size (LongLabel p) =
    (p ≡ place) × (n : ℕ) × StandsAt message place (n ∷ []) × (64 ≤ n) × (n < 192)
-- a label with which the name would pass 255 octets (RFC 1035, 2.3.4)
IsFault message place size (TooLong p) =
    (p ≡ place) × (n : ℕ) × StandsAt message place (n ∷ []) × (1 ≤ n) × (n ≤ max_label) × (max_name < size + n + 2)
IsFault message place size (Pointer p) = ⊥
IsFault message place size NoMemory = ⊥

-- ---- names without pointers

-- the name's spelling stands at the place, and ends before the place after
pub record SpellsPlainNameAt (bytes : List ℕ) (at : ℕ) (name : Labels) (after : ℕ) : Type 0 where
  pub is_name : IsName name
  pub spelled : StandsAt bytes at (octets name)
  pub ends : after ≡ at + length (octets name)

-- A fault at a place itself, where names have no pointers: an octet with the top bits 11 begins one.
abbrev pub IsPlainFault : List ℕ → ℕ → ℕ → NameFault → Type 0
IsPlainFault bytes place size (Pointer p) =
    (p ≡ place) × (n : ℕ) × StandsAt bytes place (n ∷ []) × (192 ≤ n)
IsPlainFault bytes place size fault = IsFault bytes place size fault

-- labels stand at the place, and then a fault is met
pub record PlainFaultAt (bytes : List ℕ) (at : ℕ) (fault : NameFault) : Type 0 where
  pub labels : Labels
  pub are_labels : AllByRecursion IsLabel labels
  pub spelled : StandsAt bytes at (labels_octets labels)
  pub fits : length (labels_octets labels) < max_name
  pub met : IsPlainFault bytes (at + length (labels_octets labels)) (length (labels_octets labels)) fault

-- ---- names with pointers

-- the two octets that point to a place (RFC 1035, 4.1.4)
abbrev pub pointer_octets : ℕ → List ℕ
pointer_octets target = (192 + target / 256) ∷ (target % 256) ∷ []

-- The labels from a place on, in the piece of name that began at begin, and the place after them. The first
-- piece stands in these octets, and each pointer leads into the whole message (RFC 1035, 4.1.4).
pub data NameFrom (message : List ℕ) : List ℕ → ℕ → ℕ → Labels → ℕ → Type 0 where
  -- the length 0 ends the name
  root : {piece : List ℕ} {begin place : ℕ} → StandsAt piece place (0 ∷ []) → NameFrom message piece begin place [] (place + 1)
  -- a label, and then the rest of the piece
  label : {piece : List ℕ} {begin place after : ℕ} {label : List ℕ} {labels : Labels}
      → IsLabel label → StandsAt piece place (label_octets label)
      → NameFrom message piece begin (place + 1 + length label) labels after
      → NameFrom message piece begin place (label ∷ labels) after
  -- a pointer to the rest, which stands before the piece (this project's own; RFC 1035, 4.1.4 says prior)
  pointer : {piece : List ℕ} {begin place target after : ℕ} {labels : Labels}
      → StandsAt piece place (pointer_octets target) → target < 2 ^ 14 → target < begin
      → NameFrom message message target target labels after
      → NameFrom message piece begin place labels (place + 2)

-- a name stands at the place, its first piece in these octets, and ends before the place after
pub record SpellsNameIn (piece message : List ℕ) (at : ℕ) (name : Labels) (after : ℕ) : Type 0 where
  pub is_name : IsName name
  pub stands : NameFrom message piece at at name after

-- a name stands at the place of a message, and ends before the place after
abbrev pub SpellsNameAt : List ℕ → ℕ → Labels → ℕ → Type 0
SpellsNameAt message at name after = SpellsNameIn message message at name after

-- A fault at a place itself, where names may have pointers.
abbrev pub IsPartFault : List ℕ → ℕ → ℕ → ℕ → NameFault → Type 0
-- also where a pointer lacks its second octet
IsPartFault piece begin place size (Short p) =
    IsFault piece place size (Short p)
    ⊎ ((p ≡ length piece) × (length piece ≡ place + 1) × (n : ℕ) × StandsAt piece place (n ∷ []) × (192 ≤ n))
-- a pointer that does not point before the piece that it stands in
IsPartFault piece begin place size (Pointer p) =
    (p ≡ place) × (target : ℕ) × StandsAt piece place (pointer_octets target) × (target < 2 ^ 14) × (begin ≤ target)
IsPartFault piece begin place size fault = IsFault piece place size fault

-- The first fault from a place on, in the piece of name that began at begin, where size octets of the name
-- were read before.
pub data FaultFrom (message : List ℕ) : List ℕ → ℕ → ℕ → ℕ → NameFault → Type 0 where
  here : {piece : List ℕ} {begin place size : ℕ} {fault : NameFault}
      → IsPartFault piece begin place size fault → FaultFrom message piece begin place size fault
  label : {piece : List ℕ} {begin place size : ℕ} {fault : NameFault} {label : List ℕ}
      → IsLabel label → StandsAt piece place (label_octets label) → size + length label + 2 ≤ max_name
      → FaultFrom message piece begin (place + 1 + length label) (size + 1 + length label) fault
      → FaultFrom message piece begin place size fault
  pointer : {piece : List ℕ} {begin place size target : ℕ} {fault : NameFault}
      → StandsAt piece place (pointer_octets target) → target < 2 ^ 14 → target < begin
      → FaultFrom message message target target size fault
      → FaultFrom message piece begin place size fault

-- the first fault of a name that begins at the place, its first piece in these octets
abbrev pub FaultIn : List ℕ → List ℕ → ℕ → NameFault → Type 0
FaultIn piece message at fault = FaultFrom message piece at at 0 fault

-- the first fault of a name that begins at the place of a message
abbrev pub FaultAt : List ℕ → ℕ → NameFault → Type 0
FaultAt message at fault = FaultIn message message at fault
