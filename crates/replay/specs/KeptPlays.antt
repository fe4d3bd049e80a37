-- A script of two hubs while it runs, as the program holds it.
--     IsHalf links clients world lines happened      the lines that happen are what the events say, in a world before them
--     IsPlayed .. lines kept left turns text whole last      what was written, and the text and the worlds from these lines on
--     Plays script kept left turns text      whatever lines it is of, the script is played so
use Rattle.std.specs.Prelude.{◌≡◌, ℕ, List, ◌++◌, filter_map}
use Rattle.hubasking.specs.LinkAskings.{Askings}
use Rattle.scripts.specs.Lines.{Word, ScriptLine}
use Rattle.scripts.specs.Scripts.{happening, client_word, AreDistinct}
use Rattle.scripts.specs.Words.{ended_lines}
use Rattle.scripts.specs.KeptLines.{words_of}
use Rattle.scripts.specs.Events.{known_clients, each_said, Follow}
use Rattle.scripts.specs.KeptWhole.{turns_from}
use Rattle.scripts.specs.WholeLines.{WholeLine}
use Rattle.scripts.specs.WholeScripts.{near_lines, near_lines_from, far_heads_from}
use Rattle.scripts.specs.declared.clients.KnownClient.{KnownClient}
use Rattle.scripts.specs.declared.event.Event.{Event}
use Rattle.scripts.specs.declared.whole_script.Turn.{Turn}
use Rattle.scripts.specs.declared.whole_script.WholeScript.{WholeScript}
use Rattle.replay.specs.World.{World}
use Rattle.replay.specs.TextWords.{by_notices}
use Rattle.replay.specs.Askings.{AreOrdered, lines_asks, start_askings}
use Rattle.replay.specs.TwoWorlds.{Worlds, start_worlds, worlds_after}
use Rattle.replay.specs.WholeTexts.{whole_printed, whole_text_by}
use Rattle.replay.specs.KeptWorlds.{words_in}
use Rattle.replay.specs.KeptTwoWorlds.{AreLeft, AreWorlds, TellsLines}
use Rattle.replay.specs.declared.two_worlds.Worlds as program

-- The lines that happen are what the events say. Each client of the world, and each that is to come, has a word of its own.
pub record IsHalf (links : List Word) (clients : List KnownClient) (world : World) (lines : List ScriptLine) (happened : List Event) : Type 0 where
  pub says : happening lines ≡ each_said links (known_clients clients) happened
  pub distinct : AreDistinct (words_in world ++ filter_map client_word (each_said links (known_clients clients) happened))
  pub links_are : world.links ≡ links
  pub follow : Follow links (known_clients clients) (words_in world) happened

-- the text, the worlds and what links are asked from there on
abbrev pub Last : Type 0
Last = Worlds × Askings

abbrev pub whole_from : Worlds → Askings → List WholeLine → List ℕ
whole_from worlds askings lines = ended_lines (whole_printed by_notices lines worlds askings)

abbrev pub last_from : Worlds → Askings → List WholeLine → Last
last_from worlds askings lines = (worlds_after by_notices lines worlds, lines_asks (near_lines_from worlds.fars lines) worlds.near askings)

-- the words of the links of each hub; clients and events are those that are left
pub record IsPlayed (near_links far_links : List Word) (lines : List WholeLine) (kept : program.Worlds) (left : AreLeft) (turns : List Turn) (text whole : List ℕ) (last : Last) : Type 0 where
  pub worlds : Worlds
  pub stands : AreWorlds kept worlds
  pub near_half : IsHalf near_links left.near_clients worlds.near (near_lines_from worlds.fars lines) left.near
  pub far_half : IsHalf far_links left.far_clients worlds.far (far_heads_from worlds.fars lines) left.far
  pub come : turns_from worlds.fars lines ≡ turns
  pub near_ordered : AreOrdered kept.near.hub.askings
  pub far_ordered : AreOrdered kept.far.hub.askings
  pub said : text ++ whole_from worlds kept.near.hub.askings lines ≡ whole
  pub leads : last_from worlds kept.near.hub.askings lines ≡ last

abbrev pub last_of : List WholeLine → Last
last_of lines = last_from (start_worlds lines) (start_askings (near_lines lines)) lines

-- lines that are left
pub record IsPlaying (near_links far_links : List Word) (kept : program.Worlds) (left : AreLeft) (turns : List Turn) (text whole : List ℕ) (last : Last) : Type 0 where
  pub lines : List WholeLine
  pub played : IsPlayed near_links far_links lines kept left turns text whole last

unfoldable pub Plays : WholeScript → program.Worlds → AreLeft → List Turn → List ℕ → Type 0
Plays script kept left turns text = (lines : List WholeLine) → TellsLines lines script
    → IsPlaying (words_of script.near.links.items) (words_of script.far.links.items) kept left turns text (whole_text_by by_notices lines) (last_of lines)
