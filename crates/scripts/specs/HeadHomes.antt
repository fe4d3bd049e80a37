-- Homes as the lines of a head have made them.
--     NamedHomes      zones and links, with the links' words
--     no_named_homes      no home
--     AreNamed homes      there is a word for each link, and none has heard anything
use Rattle.std.specs.Prelude.{◌≡◌, List, [], length, All}
use Rattle.history.specs.Kept.{HomesKept, state_of}
use Rattle.scripts.specs.Lines.{Word}

-- zones and links, with the links' words in their order
pub record NamedHomes : Type 0 where
  pub homes : HomesKept
  pub words : List Word

abbrev pub no_homes : HomesKept
no_homes = record { zones = []; links = []; names = [] }

abbrev pub no_named_homes : NamedHomes
no_named_homes = record { homes = no_homes; words = [] }

-- a word for each link, and none has heard anything
pub record AreNamed (named : NamedHomes) : Type 0 where
  pub each : length named.words ≡ length (state_of named.homes).links
  pub silent : All (λ l. l.rows ≡ []) (state_of named.homes).links
