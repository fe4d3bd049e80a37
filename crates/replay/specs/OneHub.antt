-- A script of one hub is answered as it was before there was a second one.
--     OneHubIsAnswered      where it is run
--     OneHubIsChecked      where it is only read
--     OneHubLeaves      and leaves no second hub
use Rattle.std.specs.Prelude.{◌≡◌, ℕ, List, None, Ok}
use Rattle.scripts.specs.Lines.{ScriptLine}
use Rattle.scripts.specs.Scripts.{script_of}
use Rattle.replay.specs.Askings.{lines_asks, start_askings}
use Rattle.replay.specs.Checks.{checked}
use Rattle.replay.specs.KeptEnds.{AreEnds}
use Rattle.replay.specs.Promises.{EndsStandFor}
use Rattle.replay.specs.ScriptReplies.{reply_to_script}
use Rattle.replay.specs.Text.{world_after}
use Rattle.replay.specs.TextWords.{HeldRecords, by_notices}
use Rattle.replay.specs.WholeTexts.{whole_reply, whole_checked}
use Rattle.replay.specs.World.{start_world}
use Rattle.replay.specs.declared.ends.Ends.{Ends}

abbrev pub OneHubIsAnswered : Type 0
OneHubIsAnswered = (records : HeldRecords) (octets : List ℕ) (script : List ScriptLine) → script_of octets ≡ Ok script → whole_reply records octets ≡ reply_to_script records octets

abbrev pub OneHubIsChecked : Type 0
OneHubIsChecked = (octets : List ℕ) (script : List ScriptLine) → script_of octets ≡ Ok script → whole_checked octets ≡ checked octets

-- the hub and the clients stand for those of the world behind the script's last line, and links are asked what they are behind it
abbrev pub OneHubLeaves : Type 0
OneHubLeaves = (octets : List ℕ) (ends : Ends) (script : List ScriptLine) → AreEnds octets ends → script_of octets ≡ Ok script
    → (ends.far ≡ None) × EndsStandFor by_notices ends.hub.hub ends.clients.items (world_after script (start_world script)) × (ends.hub.askings ≡ lines_asks script (start_world script) (start_askings script))
