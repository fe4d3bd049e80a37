-- The worlds in which a script is to happen, and what was made of it.
--     AreStaged script near far apex turns      these are the script's
--     HasPlayed lines played      the text, the worlds and what links are asked are those of the lines
use Rattle.std.specs.Prelude.{◌≡◌, List, Option, string_bytes}
use Rattle.dnsname.specs.Names.{Labels}
use Rattle.scripts.specs.WholeLines.{WholeLine}
use Rattle.scripts.specs.WholeScripts.{near_lines}
use Rattle.scripts.specs.declared.script.Script.{Script}
use Rattle.scripts.specs.declared.whole_script.Turn.{Turn}
use Rattle.scripts.specs.declared.whole_script.WholeScript.{WholeScript}
use Rattle.replay.specs.World.{start_world}
use Rattle.replay.specs.TextWords.{by_notices}
use Rattle.replay.specs.Askings.{lines_asks, start_askings}
use Rattle.replay.specs.TwoWorlds.{start_worlds, worlds_after}
use Rattle.replay.specs.WholeTexts.{whole_text_by}
use Rattle.replay.specs.KeptScripts.{askings_at_start, world_at_start}
use Rattle.replay.specs.KeptWorlds.{IsWorld}
use Rattle.replay.specs.KeptTwoWorlds.{AreWorlds}
use Rattle.replay.specs.declared.script_text.Played.{Played}
use Rattle.replay.specs.declared.script_text.Stage.{Stage}

pub record IsStaged (script : Script) (stage : Stage) : Type 0 where
  pub world : IsWorld stage.world (world_at_start script)
  pub asks : stage.world.hub.askings ≡ askings_at_start script
  pub clients : stage.clients ≡ script.clients
  pub events : stage.events ≡ script.events

pub record AreStaged (script : WholeScript) (near far : Stage) (apex : Option Labels) (turns : List Turn) : Type 0 where
  pub near_staged : IsStaged script.near near
  pub far_staged : IsStaged script.far far
  pub apex_is : apex ≡ script.apex
  pub turns_are : turns ≡ script.turns.items

pub record HasPlayed (lines : List WholeLine) (played : Played) : Type 0 where
  pub text : string_bytes played.text ≡ whole_text_by by_notices lines
  pub worlds : AreWorlds played.worlds (worlds_after by_notices lines (start_worlds lines))
  pub asks : played.worlds.near.hub.askings ≡ lines_asks (near_lines lines) (start_world (near_lines lines)) (start_askings (near_lines lines))
