-- What a part of a name is, where it stands.
--     PartAt octets place size part      the part stands at the place, behind so many octets of the name
use Rattle.std.specs.Prelude.{ℕ, ◌+◌, ◌≤◌, List, [], ◌∷◌, length}
use Rattle.dnsname.specs.declared.part.Part.{Part}
use Rattle.dnsname.specs.declared.part.Part.TheVariants.{Root, Label, Pointer}
use Rattle.dnsname.specs.Spelling.{StandsAt, IsLength}

abbrev pub PartAt : List ℕ → ℕ → ℕ → Part → Type 0
PartAt bytes place size Root = StandsAt bytes place (0 ∷ [])
PartAt bytes place size (Label n) = StandsAt bytes place (n ∷ []) × IsLength size n × (place + 1 + n ≤ length bytes)
PartAt bytes place size Pointer = (n : ℕ) × StandsAt bytes place (n ∷ []) × (192 ≤ n)
