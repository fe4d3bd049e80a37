-- The labels that octets spell: how a `Name` is seen, whose octets are spelled by their labels.
--     labels_of octets      the labels
--     IsSpelling octets is_lower      the octets of a name, and whether no letter among them is a capital
use Rattle.std.specs.Prelude.{◌≡◌, ℕ, zero, suc, Bool, not, List, [], ◌∷◌, length, take, drop}
use Rattle.std.specs.Char.{is_ascii_uppercase}
use Rattle.std.specs.List.{list_any}
use Rattle.dnsname.specs.Names.{Labels, SpellsName}

-- at most this many labels
abbrev pub labels_in : ℕ → List ℕ → Labels
labels_in zero bytes = []
labels_in (suc more) [] = []
labels_in (suc more) (zero ∷ bytes) = []
labels_in (suc more) (suc n ∷ bytes) = take (suc n) bytes ∷ labels_in more (drop (suc n) bytes)

abbrev pub labels_of : List ℕ → Labels
labels_of bytes = labels_in (length bytes) bytes

-- the octets of a name, and whether no letter among them is a capital
pub record IsSpelling (bytes : List ℕ) (is_lower : Bool) : Type 0 where
  pub spells : SpellsName bytes (labels_of bytes)
  pub lower : is_lower ≡ not (list_any is_ascii_uppercase bytes)
