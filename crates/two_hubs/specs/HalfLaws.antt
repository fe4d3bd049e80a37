-- A script of two hubs is, to each of them, a script of one.
--     HalvesAreWorlds      each of the two worlds is that of its own lines
--     AreWholeLines      the lines of a text that is a script
--     NearAreLines, FarAreLines, FarHeadsFollow      so each half is, to its hub
use Rattle.std.specs.Prelude.{◌≡◌, true, ◌&&◌, ◌<◌, ◌≤◌, ◌^◌, List, [], ◌∷◌, length, Some, IsTrue}
use Rattle.std.specs.List.{list_any, AllByRecursion}
use Rattle.std.specs.Str.{bytes_eq}
use Rattle.dnsname.specs.Names.{is_name, same_name}
use Rattle.scripts.specs.Lines.{Word}
use Rattle.scripts.specs.Scripts.{nothing_known, is_among, max_script}
use Rattle.replay.specs.TextWords.{by_history}
use Rattle.replay.specs.Text.{world_after}
use Rattle.script_laws.specs.Lines.{IsWord, AreWithin, Follow, AreLines}
use Rattle.scripts.specs.WholeLines.{WholeLine, one, far_zone, far_client, carry}
use Rattle.scripts.specs.WholeScripts.{Carrier, BothKnown, none_known, fits_both, made_by, near_lines, near_lines_from, far_heads}
use Rattle.replay.specs.TwoWorlds.{Worlds, start_worlds, worlds_after, far_lines_after}
use Rattle.two_hubs.specs.Carrying.{CarriesAreWritten}

abbrev pub HalvesAreWorlds : Type 0
HalvesAreWorlds = (lines : List WholeLine) (worlds : Worlds)
    → ((worlds_after by_history lines worlds).near ≡ world_after (near_lines_from worlds.fars lines) worlds.near)
    × ((worlds_after by_history lines worlds).far ≡ world_after (far_lines_after by_history lines worlds) worlds.far)

-- each may stand where it stands
abbrev pub FollowBoth : List Word → List Carrier → BothKnown → List WholeLine → Type 0
FollowBoth all carriers known [] = Unit {0}
FollowBoth all carriers known (line ∷ lines) = (later : BothKnown) × (fits_both all carriers known line ≡ Some later) × FollowBoth all carriers later lines

-- what is read of a line is within bounds
abbrev pub IsWithinWhole : WholeLine → Type 0
IsWithinWhole (one line) = AreWithin line
IsWithinWhole (far_zone apex serial) = IsTrue (is_name apex) × (serial < 2 ^ 32)
IsWithinWhole (far_client w) = IsWord w
IsWithinWhole (carry w name written) = IsTrue (is_name name)

-- and the word of a client that it makes is among those of all clients
pub record IsReadWhole (all : List Word) (line : WholeLine) : Type 0 where
  pub within : IsWithinWhole line
  pub named : (w : Word) → made_by line ≡ Some w → IsTrue (is_among all w)

-- a carry is one of these
abbrev pub IsCarriedAmong : List Carrier → WholeLine → Type 0
IsCarriedAmong carriers (carry w name written) = list_any (λ c. bytes_eq c.0 w && same_name c.1 name) carriers ≡ true
IsCarriedAmong carriers _ = Unit {0}

pub record AreWholeLines (script : List WholeLine) : Type 0 where
  pub all : List Word
  pub carriers : List Carrier
  pub words : AllByRecursion IsWord all
  pub follow : FollowBoth all carriers none_known script
  pub read : AllByRecursion (IsReadWhole all) script
  pub carried : AllByRecursion (IsCarriedAmong carriers) script
  pub few : length script ≤ max_script

-- to the first hub it is a script of one hub
abbrev pub NearAreLines : Type 0
NearAreLines = (script : List WholeLine) → AreWholeLines script → AreLines (near_lines script)

-- so it is to the second, if the messages that carries make are octets, and short
abbrev pub FarAreLines : Type 0
FarAreLines = (script : List WholeLine) → AreWholeLines script → CarriesAreWritten script (start_worlds script) → AreLines (far_lines_after by_history script (start_worlds script))

-- and to the second, but for the updates that carries make of it
abbrev pub FarHeadsFollow : Type 0
FarHeadsFollow = (script : List WholeLine) (are : AreWholeLines script) → Follow are.all nothing_known (far_heads script)
