-- What is noted at names.
--     Renoted name held old new      at a name this is noted, and at all others what was
--     noted_at name notes      what is noted at a name, but for case: nothing where it isn't among the names
use Rattle.std.specs.Prelude.{◌≡◌, List, [], unwrap_or, if◌then◌else◌}
use Rattle.std.specs.Map.{lookup}
use Rattle.dnsname.specs.Names.{Labels, same_name}

abbrev pub noted_at : {X : Type 0} → Labels → List (Labels × List X) → List X
noted_at name notes = unwrap_or (lookup (same_name name) notes) []

abbrev pub Renoted : {X : Type 0} → Labels → List X → List (Labels × List X) → List (Labels × List X) → Type 0
Renoted name held old new = (other : Labels) → noted_at other new ≡ (if same_name name other then held else noted_at other old)
