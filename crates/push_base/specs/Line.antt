-- What the calls of a line give.
--     octets_of      the octets that a call gave
--     GivesWithin      at least one octet, and no more than there is room for
--     LineGives, LineTakes      beside the octets given so far; of those that are left
--     Read, reads_of      what a call gave, as a line tells it
use Rattle.std.specs.Prelude.{◌≡◌, ℕ, ◌<◌, ◌≤◌, ⊤, List, [], ◌∷◌, length, take, Result, Ok, Err, IfOk}
use Rattle.std.specs.declared.option.Option.{Option}
use Rattle.std.specs.Io.KnownBytes.{append_known, prepend_known, IsAtEnd}
use Rattle.push_base.specs.declared.got.Got.{Got}
use Rattle.push_base.specs.declared.got.Got.TheVariants.{Bytes, Quiet, End}

-- the octets that a call gave
abbrev pub octets_of : Got → List ℕ → List ℕ
octets_of (Bytes n) buf = take n buf
octets_of Quiet buf = []
octets_of End buf = []

-- at least one octet, and no more than there is room for
abbrev pub IsWithin : List ℕ → Got → Type 0
IsWithin buf (Bytes n) = (0 < n) × (n ≤ length buf)
IsWithin buf Quiet = ⊤
IsWithin buf End = ⊤

abbrev pub GivesWithin : {E : Type 0} → Result Got E → List ℕ → Type 0
GivesWithin result buf = IfOk result (IsWithin buf)

-- a call adds the octets that it gives to those given so far; a fault adds none
abbrev pub LineGives : {E : Type 0} → Option (List ℕ) → Option (List ℕ) → Result Got E → List ℕ → Type 0
LineGives given now (Ok got) buf = now ≡ append_known given (octets_of got buf)
LineGives given now (Err e) buf = now ≡ given

-- no octets are left where a call answers that there are no more
abbrev pub EndsAtEnd : Option (List ℕ) → Got → Type 0
EndsAtEnd now (Bytes n) = ⊤
EndsAtEnd now Quiet = ⊤
EndsAtEnd now End = IsAtEnd now

-- a call takes the octets that it gives from those that are left; a fault takes none
abbrev pub LineTakes : {E : Type 0} → Option (List ℕ) → Option (List ℕ) → Result Got E → List ℕ → Type 0
LineTakes left now (Ok got) buf = (left ≡ prepend_known (octets_of got buf) now) × EndsAtEnd now got
LineTakes left now (Err e) buf = now ≡ left

-- what one call gave: octets, none for a while, or none any more
pub data Read : Type 0 where
  bytes : List ℕ → Read
  quiet : Read
  end_of_line : Read

abbrev pub read_of : Got → List ℕ → Read
read_of (Bytes n) buf = bytes (take n buf)
read_of Quiet buf = quiet
read_of End buf = end_of_line

-- a fault gave nothing
abbrev pub reads_of : {E : Type 0} → Result Got E → List ℕ → List Read
reads_of (Ok got) buf = read_of got buf ∷ []
reads_of (Err e) buf = []
