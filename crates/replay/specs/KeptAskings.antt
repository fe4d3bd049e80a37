-- The hub that a run keeps, which stands for a plain one, and what its links are asked.
--     StandsFor kept hub      its history and its sessions stand for those of the plain hub
--     AsksAfter calls hub before later      behind these calls of the plain hub its links are asked what they are asked later
use Rattle.std.specs.Prelude.{◌≡◌, List}
use Rattle.pushserver.specs.Calls.{HubCall}
use Rattle.pushserver.specs.KeptHubs as hubs
use Rattle.pushserver.specs.PlainHubs.{Hub}
use Rattle.hubasking.specs.AskingHubs.{AskingHub}
use Rattle.hubasking.specs.LinkAskings.{Askings}
use Rattle.replay.specs.Askings.{calls_asks}

abbrev pub StandsFor : AskingHub → Hub → Type 0
StandsFor kept hub = hubs.StandsFor kept.hub hub

abbrev pub AsksAfter : List HubCall → Hub → Askings → Askings → Type 0
AsksAfter calls hub before later = later ≡ calls_asks calls hub before
