-- What the fields of octets stand for.
--     kept_octets, FitsIn      the octets; few enough for the places in the value
use Rattle.std.specs.Prelude.{ℕ, ◌≤◌, List, take}
use Rattle.std.specs.Arc.{arc_value}
use Rattle.push_base.specs.declared.kept.Kept.{Kept}
use Rattle.push_base.specs.declared.kept.Kept.TheVariants.{Few, Own, Shared}
use Rattle.push_base.specs.declared.kept.TheConstants as constants

abbrev pub most_few : ℕ
most_few = constants.FEW

abbrev pub kept_octets : Kept → List ℕ
kept_octets (Few count places) = take count places
kept_octets (Own octets) = octets.items
kept_octets (Shared octets) = (arc_value octets).items

abbrev pub FitsIn : Kept → Type 0
FitsIn (Few count places) = count ≤ most_few
FitsIn (Own octets) = Unit {0}
FitsIn (Shared octets) = Unit {0}
