-- Which octets of a message spell rdata (RFC 1035, 3.3 and 4.1.4).
--     SpellsStrings      counted strings, one behind the other
--     SpellsFields      from a place to another the message spells the fields of a shape's parts
--     SpellsShape      the same for the whole rdata; without a shape any octets do
use Rattle.std.specs.Prelude.{◌≡◌, ℕ, ◌+◌, ◌≤◌, ◌<◌, All, List, [], ◌∷◌, length, Option, Some, None, slice_range, flat_map}
use Rattle.dnsname.specs.Spelling.{SpellsNameAt}
use Rattle.rrset.specs.Rdata.{Part, some_octets, one_name, strings, Field, raw, named, field_octets}

-- counted strings, one behind the other (RFC 1035, 3.3)
abbrev pub SpellsStrings : List ℕ → Type 0
SpellsStrings bytes = (texts : List (List ℕ)) × All (λ t. length t < 256) texts × (bytes ≡ flat_map (λ t. length t ∷ t) texts)

-- the parts of a shape, one behind the other, from a place up to the rdata's end; a pointer may lead out of it (RFC 1035, 4.1.4)
abbrev pub SpellsFields : List ℕ → ℕ → ℕ → List Part → List Field → Type 0
SpellsFields message end at [] [] = at ≡ end
SpellsFields message end at (some_octets n ∷ parts) (raw bytes ∷ fields) = (at + n ≤ end) × (bytes ≡ slice_range message at (at + n)) × SpellsFields message end (at + n) parts fields
SpellsFields message end at (one_name ∷ parts) (named name ∷ fields) = (after : ℕ) × SpellsNameAt message at name after × (after ≤ end) × SpellsFields message end after parts fields
SpellsFields message end at (strings ∷ parts) (raw bytes ∷ fields) = (at ≤ end) × (bytes ≡ slice_range message at end) × SpellsStrings bytes × SpellsFields message end end parts fields
SpellsFields message end at _ _ = ⊥

abbrev pub SpellsShape : Option (List Part) → List ℕ → ℕ → ℕ → List ℕ → Type 0
SpellsShape None message at after rdata = rdata ≡ slice_range message at after
SpellsShape (Some parts) message at after rdata = (fields : List Field) × SpellsFields message after at parts fields × (rdata ≡ flat_map field_octets fields)
