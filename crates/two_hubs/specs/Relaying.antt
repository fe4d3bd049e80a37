-- What holds throughout a script of two hubs.
--     far_lines script      what its lines are to the second hub
--     AreHalves script      behind some of its lines each world is that of what they are to its hub
--     RelaysTruly script, EveryScriptRelays      all of it, of a script and of every text that is one
--     AreMirrors script ends, WholeReplaysMirror      the sets of the clients that ran it are the histories'
use Rattle.std.specs.Prelude.{◌≡◌, ℕ, List, ◌++◌, Ok, IfSome}
use Rattle.std.specs.List.{AllZip}
use Rattle.pushserver.specs.KeptHubs.{StandsFor}
use Rattle.pushclient.specs.Rule.{KeptClient}
use Rattle.scripts.specs.Lines.{ScriptLine}
use Rattle.scripts.specs.WholeLines.{WholeLine}
use Rattle.scripts.specs.WholeScripts.{whole_script_of, near_lines}
use Rattle.replay.specs.KeptEnds.{AreEnds}
use Rattle.replay.specs.Promises.{ClientStandsFor, EndsStandFor}
use Rattle.replay.specs.Text.{world_after}
use Rattle.replay.specs.TextWords.{by_history}
use Rattle.replay.specs.TwoWorlds.{start_worlds, worlds_after, far_lines_after, woven}
use Rattle.replay.specs.World.{start_world}
use Rattle.replay.specs.declared.ends.Ends.{Ends}
use Rattle.script_laws.specs.Throughout.{HoldsThroughout}
use Rattle.two_hubs.specs.RelayLaws.{CarriesAnswerIn, CarriesRiseIn, ShowsCarriedIn, NeverEarlierIn, NewestIsCarriedIn}

-- what the lines are to the second hub, carries among them
abbrev pub far_lines : List WholeLine → List ScriptLine
far_lines script = far_lines_after by_history script (start_worlds script)

abbrev pub AreHalves : List WholeLine → Type 0
AreHalves script = (before after : List WholeLine) → script ≡ before ++ after
    → let worlds = worlds_after by_history before (start_worlds script) in
    (worlds.near ≡ world_after (near_lines before) (start_world (near_lines script)))
    × (worlds.far ≡ world_after (far_lines_after by_history before (start_worlds script)) (start_world (far_lines script)))

pub record RelaysTruly (script : List WholeLine) : Type 0 where
  -- each half holds all that a script of one hub does
  pub near : HoldsThroughout (near_lines script)
  pub far : HoldsThroughout (far_lines script)
  -- and the worlds are those of the halves
  pub halves : AreHalves script
  -- a carry is answered 0, and the second zone has the set, or refused where it would have too many records
  pub answers : CarriesAnswerIn script
  -- later carries of a name carry no earlier points
  pub rise : CarriesRiseIn script
  -- what a far client shows of a name was true of the first hub, at the point that was carried last before the one that it shows
  pub shows : ShowsCarriedIn script
  -- it never shows an earlier state than before
  pub never : NeverEarlierIn script
  -- and right after a settle it shows what was carried last
  pub newest : NewestIsCarriedIn script

-- of every text that is a script
abbrev pub EveryScriptRelays : Type 0
EveryScriptRelays = (octets : List ℕ) (script : List WholeLine) → whole_script_of octets ≡ Ok script → RelaysTruly script

-- The clients that are handed back are those of both hubs, in the order of their lines, and their sets are the records of their hub's history.
pub record AreMirrors (script : List WholeLine) (ends : Ends) : Type 0 where
  pub near : List KeptClient
  pub far : List KeptClient
  pub clients : ends.clients.items ≡ woven (worlds_after by_history script (start_worlds script)).order near far
  pub first : EndsStandFor by_history ends.hub.hub near (worlds_after by_history script (start_worlds script)).near
  pub second : IfSome ends.far (λ hub. StandsFor hub.hub (worlds_after by_history script (start_worlds script)).far.hub)
  pub others : AllZip (ClientStandsFor by_history (worlds_after by_history script (start_worlds script)).far) far (worlds_after by_history script (start_worlds script)).far.seats

abbrev pub WholeReplaysMirror : Type 0
WholeReplaysMirror = (octets : List ℕ) (ends : Ends) (script : List WholeLine) → AreEnds octets ends → whole_script_of octets ≡ Ok script → AreMirrors script ends
