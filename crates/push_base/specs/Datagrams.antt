-- What the calls of datagrams give and send.
--     FitsWithin      no more octets than there is room for
--     DatagramGives, DatagramTakes      beside the datagrams given so far; of those that are left
--     DatagramSent      beside the datagrams sent so far
use Rattle.std.specs.Prelude.{◌≡◌, ℕ, ◌≤◌, ⊤, Some, None, List, [], ◌∷◌, length, take, Result, Ok, Err, IfOk}
use Rattle.std.specs.declared.option.Option.{Option}
use Rattle.push_base.specs.Told.{TellsMore}
use Rattle.push_base.specs.declared.got.Got.{Got}
use Rattle.push_base.specs.declared.got.Got.TheVariants.{Bytes, Quiet, End}

-- no more octets than there is room for
abbrev pub Fits : List ℕ → Got → Type 0
Fits buf (Bytes n) = n ≤ length buf
Fits buf Quiet = ⊤
Fits buf End = ⊤

abbrev pub FitsWithin : {E : Type 0} → Result Got E → List ℕ → Type 0
FitsWithin result buf = IfOk result (Fits buf)

-- a call adds the datagram that it gives to those given so far; a fault adds none
abbrev pub DatagramGives : {E : Type 0} → Option (List (List ℕ)) → Option (List (List ℕ)) → Result Got E → List ℕ → Type 0
DatagramGives given now (Ok (Bytes n)) buf = TellsMore given now (take n buf ∷ [])
DatagramGives given now (Ok Quiet) buf = now ≡ given
DatagramGives given now (Ok End) buf = now ≡ given
DatagramGives given now (Err e) buf = now ≡ given

-- the first datagram was taken from those that are left, and began with these octets
abbrev pub TakesFirst : Option (List (List ℕ)) → Option (List (List ℕ)) → List ℕ → Type 0
TakesFirst None now octets = now ≡ None
TakesFirst (Some []) now octets = ⊥
TakesFirst (Some (first ∷ others)) now octets = (now ≡ Some others) × (octets ≡ take (length octets) first)

-- no datagrams are left
abbrev pub AreOver : Option (List (List ℕ)) → Type 0
AreOver None = ⊤
AreOver (Some datagrams) = datagrams ≡ []

-- a call takes the datagram that it gives from the front of those that are left, and answers `End` only where none are
-- left; a fault takes none
abbrev pub DatagramTakes : {E : Type 0} → Option (List (List ℕ)) → Option (List (List ℕ)) → Result Got E → List ℕ → Type 0
DatagramTakes left now (Ok (Bytes n)) buf = TakesFirst left now (take n buf)
DatagramTakes left now (Ok Quiet) buf = now ≡ left
DatagramTakes left now (Ok End) buf = (now ≡ left) × AreOver now
DatagramTakes left now (Err e) buf = now ≡ left

-- a call adds the datagram that it sends to those sent so far; a fault adds none
abbrev pub DatagramSent : {T E : Type 0} → Option (List (List ℕ)) → Option (List (List ℕ)) → Result T E → List ℕ → Type 0
DatagramSent sent now (Ok done) octets = TellsMore sent now (octets ∷ [])
DatagramSent sent now (Err e) octets = now ≡ sent
