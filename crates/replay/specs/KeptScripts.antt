-- The world with which a script that was read starts.
--     world_at_start script, askings_at_start script      its hub, and the words of its links; what these are asked
use Rattle.scripts.specs.KeptScripts.{head_kept}
use Rattle.scripts.specs.declared.script.Script.{Script}
use Rattle.hubasking.specs.LinkAskings.{Askings, new_askings}
use Rattle.replay.specs.World.{World, world_of}

abbrev pub world_at_start : Script → World
world_at_start script = world_of (head_kept script)

abbrev pub askings_at_start : Script → Askings
askings_at_start script = new_askings (head_kept script).start
