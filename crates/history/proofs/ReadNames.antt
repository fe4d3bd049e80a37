-- A name that is read takes an octet or more of what it is read from, and has at most 255.
use Rattle.std.proofs.Common.{◌≡◌, ℕ, ◌<◌, ◌≤◌, List, [], ◌∷◌, length, take, Ok, Err, refl, arith}
use Rattle.std.specs.Prelude.{All, IfOk}
use Rattle.std.proofs.lemmas.List.Elements.{All-take}
use Rattle.dnsname.specs.Names.{Labels, octets}
use Rattle.dnsname.specs.Reading.{Read, name_in}
use Rattle.dnsname.specs.Spelling.{NameFrom, pointer_octets}
use Rattle.dnsname.specs.Spelling as spelling
use Rattle.dnsname.proofs.FoundNames.{name_in-found}
use Rattle.dnsname.proofs.Standing.{StandsAt-length}

abbrev pub AreOctets : List ℕ → Type 0
AreOctets text = All (λ o. o < 256) text

-- a name takes an octet or more
name_takes : (message piece : List ℕ) (begin place after : ℕ) (name : Labels) → NameFrom message piece begin place name after → place < after
name_takes message piece begin place after name (spelling.NameFrom.root h) = omega arith
name_takes message piece begin place after name (spelling.NameFrom.label {labels = labels} is h rest) = omega (arith, name_takes message piece begin _ after labels rest)
name_takes message piece begin place after name (spelling.NameFrom.pointer h small back rest) = omega arith

-- and ends within the octets that it stands in
name_within : (message piece : List ℕ) (begin place after : ℕ) (name : Labels) → NameFrom message piece begin place name after → after ≤ length piece
name_within message piece begin place after name (spelling.NameFrom.root h) = omega (arith, StandsAt-length piece place (0 ∷ []) h)
name_within message piece begin place after name (spelling.NameFrom.label {labels = labels} is h rest) = name_within message piece begin _ after labels rest
name_within message piece begin place after name (spelling.NameFrom.pointer {target = target} h small back rest) = omega (arith, StandsAt-length piece place (pointer_octets target) h)

-- a name that ends behind its place and within the octets
abbrev pub IsShortName : List ℕ → ℕ → Labels × ℕ → Type 0
IsShortName piece place found = (place < found.1) × (found.1 ≤ length piece) × (length (octets found.0) ≤ 255)

pub short-in : (piece message : List ℕ) (at : ℕ) → AreOctets piece → AreOctets message → IfOk (name_in piece message at) (IsShortName piece at)
short-in piece message at below below_m = by (name_in piece message at) refl
  where
    by : (r : Read) → name_in piece message at ≡ r → IfOk r (IsShortName piece at)
    by (Err fault) e = tt
    by (Ok found) e =
        let is = name_in-found piece message at found.1 found.0 (λ i lt. below i 0 lt) (λ i lt. below_m i 0 lt) e in
        (name_takes message piece at at found.1 found.0 is.stands, name_within message piece at at found.1 found.0 is.stands, is.is_name.size)

-- the first octets are octets
pub octets-take : (n : ℕ) (text : List ℕ) → AreOctets text → AreOctets (take n text)
octets-take n text below = All-take (λ o. o < 256) n text below
