-- What a script leaves, as the program holds it.
--     AreEndsOf script worlds ends      the hubs and the clients stand for those of the worlds behind the lines of a script
--     AreEnds octets ends      so it is of the script that octets are, and links are asked what they are behind its last line
--     EndsWhenDone outcome ends, ends_with outcome ends      ends are there exactly where the whole text of a script was written
use Rattle.std.specs.Prelude.{◌≡◌, ℕ, List, Option, Some, None, Ok, IfSome, is_some}
use Rattle.std.specs.List.{AllZip}
use Rattle.pushserver.specs.KeptHubs.{StandsFor}
use Rattle.pushclient.specs.Rule.{KeptClient}
use Rattle.scripts.specs.WholeLines.{WholeLine}
use Rattle.scripts.specs.WholeScripts.{whole_script_of, apex_in, near_lines}
use Rattle.replay.specs.World.{start_world}
use Rattle.replay.specs.TextWords.{by_notices}
use Rattle.replay.specs.Text.{world_after}
use Rattle.replay.specs.Askings.{lines_asks, start_askings}
use Rattle.replay.specs.Promises.{ClientStandsFor, EndsStandFor}
use Rattle.replay.specs.TwoWorlds.{Worlds, start_worlds, worlds_after, woven}
use Rattle.scripts.specs.declared.outcome.Outcome.{Outcome}
use Rattle.scripts.specs.declared.outcome.Outcome.TheVariants.{Done}
use Rattle.replay.specs.declared.ends.Ends.{Ends}

-- The first hub and its clients stand for those that the first hub's half of the lines leaves, the clients of the second for theirs, and its hub, which
-- is there exactly where the script has one, for the second. The clients stand in the order of their lines.
pub record AreEndsOf (script : List WholeLine) (worlds : Worlds) (ends : Ends) : Type 0 where
  pub near : List KeptClient
  pub far : List KeptClient
  pub clients : ends.clients.items ≡ woven worlds.order near far
  pub first : EndsStandFor by_notices ends.hub.hub near (world_after (near_lines script) (start_world (near_lines script)))
  pub there : is_some ends.far ≡ is_some (apex_in script)
  pub second : IfSome ends.far (λ hub. StandsFor hub.hub worlds.far.hub)
  pub others : AllZip (ClientStandsFor by_notices worlds.far) far worlds.far.seats

-- so behind the last line, and links are asked what they are behind it
unfoldable pub AreEnds : List ℕ → Ends → Type 0
AreEnds octets ends = (script : List WholeLine) → whole_script_of octets ≡ Ok script
    → AreEndsOf script (worlds_after by_notices script (start_worlds script)) ends × (ends.hub.askings ≡ lines_asks (near_lines script) (start_world (near_lines script)) (start_askings (near_lines script)))

-- there are ends exactly with this outcome
abbrev pub EndsWhenDone : Outcome → Option Ends → Type 0
EndsWhenDone Done None = ⊥
EndsWhenDone Done (Some ends) = Unit {0}
EndsWhenDone _ None = Unit {0}
EndsWhenDone _ (Some ends) = ⊥

-- of these, those that are handed back
abbrev pub ends_with : Outcome → Option Ends → Option Ends
ends_with Done ends = ends
ends_with _ ends = None
