-- What is asked is told by what is kept as by the plain hub that it stands for.
--     OneAsking      behind each call
use Rattle.std.specs.Prelude.{◌≡◌}
use Rattle.pushserver.specs.Calls.{HubCall, called}
use Rattle.pushserver.specs.KeptHubs.{KeptHub, Forgets, StandsFor}
use Rattle.pushserver.specs.PlainHubs.{Hub}
use Rattle.hubasking.specs.LinkAskings.{Askings, asking_after, kept_questions, plain_questions}

abbrev pub OneAsking : Type 0
OneAsking = (call : HubCall) (kept later : KeptHub) (hub : Hub) (askings : Askings) → StandsFor kept hub → Forgets (called call kept) later → StandsFor later (called call hub)
    → asking_after kept_questions call kept askings ≡ asking_after plain_questions call hub askings
