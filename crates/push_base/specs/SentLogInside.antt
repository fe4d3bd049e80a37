-- What the fields of the datagrams that were sent stand for.
--     octets_at, datagrams_of, sent_datagrams      the datagrams, which stand one behind the other
--     AreParts      each part begins where the one before it ends
--     IsLaidOut      how the octets are laid out, and that the room was made
use Rattle.std.specs.Prelude.{◌≡◌, ℕ, ◌+◌, ◌≤◌, List, [], ◌∷◌, length, map, vec_capacity}
use Rattle.std.specs.List.{slice_range}
use Rattle.push_base.specs.SentLog.{SentDatagrams}
use Rattle.push_base.specs.declared.sent_log.Part.{Part}
use Rattle.push_base.specs.declared.sent_log.SentLog.TheInside.{Inside}

-- the octets of one part
abbrev pub octets_at : List ℕ → Part → List ℕ
octets_at octets part = slice_range octets part.start part.end

abbrev pub datagrams_of : List ℕ → List Part → List (List ℕ)
datagrams_of octets parts = map (octets_at octets) parts

-- these parts begin at this place, each begins where the one before it ends, and the last one ends where all ends
abbrev pub AreParts : ℕ → List Part → ℕ → Type 0
AreParts start [] end = start ≡ end
AreParts start (part ∷ parts) end = (part.start ≡ start) × (start ≤ part.end) × AreParts part.end parts end

abbrev pub sent_datagrams : Inside → SentDatagrams
sent_datagrams s = record { datagrams = datagrams_of s.octets.items s.parts.items; room = s.room }

-- there is room for the octets, and for a part at each two of them
pub record IsLaidOut (s : Inside) : Type 0 where
  pub parts : AreParts 0 s.parts.items (length s.octets.items)
  pub octets_fit : s.room ≤ vec_capacity s.octets
  pub parts_fit : s.room ≤ vec_capacity s.parts + vec_capacity s.parts + 1
