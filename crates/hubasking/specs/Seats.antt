-- A session that is to come.
--     HasPlace hub old new      it has a place, without reasons, where a seat is free
use Rattle.std.specs.Prelude.{◌≡◌, ◌⊎◌, List, [], ◌∷◌, ◌++◌, Some, None}
use Rattle.linkreasons.specs.AllReasons.{AllReasons, KeepsBounds}
use Rattle.pushserver.specs.Hubs.{connect}
use Rattle.pushserver.specs.KeptHubs.{KeptHub}

pub record IsPlaced (hub : KeptHub) (old new : AllReasons) : Type 0 where
  pub seat : (connect hub).0 ≡ Some hub.numbers_given
  pub sessions : new.sessions ≡ old.sessions ++ (hub.numbers_given, []) ∷ []
  pub links : new.links ≡ old.links

abbrev pub HasPlace : KeptHub → AllReasons → AllReasons → Type 0
HasPlace hub old new = IsPlaced hub old new ⊎ (((connect hub).0 ≡ None) × (new ≡ old))
