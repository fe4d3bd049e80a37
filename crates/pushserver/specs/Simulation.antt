-- What the calls do to the hub that is kept is what they do to the plain hub that it stands for.
--     UpdatesStand, HearsStand, GoingsStand, MomentsStand, ConnectsStand, TakesStand, StopsStand, EndsStand, GivesStand      each call
--     HubsTell      what is told of records can be told
--     CountsStand      both count alike
--     ForgettingStands      where the oldest entries are forgotten
use Rattle.std.specs.Prelude.{◌≡◌, ℕ, List, Some}
use Rattle.coalesce.specs.Waiting.{CanBePacked}
use Rattle.history.specs.Totals.{totals}
use Rattle.pushsession.specs.Kept.{KeptSession}
use Rattle.dsotlv.specs.Laws.{AreOctets}
use Rattle.pushserver.specs.PlainHubs.{Hub, Giving}
use Rattle.pushserver.specs.Hubs.{session_of, records_now, update, hear, link_gone, moment, connect, taken_by, take_octets, stop, disconnect}
use Rattle.pushserver.specs.Giving.{give}
use Rattle.pushserver.specs.KeptHubs.{KeptHub, KeptGiving, StandsFor, Forgets}
use Rattle.pushserver.specs.Rows.{AreTold}

-- one answer, and the kept hub stands for the plain one
abbrev pub BothAnswer : {X : Type 0} → X × KeptHub → X × Hub → Type 0
BothAnswer k p = (k.0 ≡ p.0) × StandsFor k.1 p.1

abbrev pub UpdatesStand : Type 0
UpdatesStand = (k : KeptHub) (hub : Hub) (message : List ℕ) → StandsFor k hub → AreOctets message → BothAnswer (update k message) (update hub message)

abbrev pub HearsStand : Type 0
HearsStand = (k : KeptHub) (hub : Hub) (link : ℕ) (datagram : List ℕ) → StandsFor k hub → AreOctets datagram → BothAnswer (hear k link datagram) (hear hub link datagram)

abbrev pub GoingsStand : Type 0
GoingsStand = (k : KeptHub) (hub : Hub) (link : ℕ) → StandsFor k hub → BothAnswer (link_gone k link) (link_gone hub link)

abbrev pub MomentsStand : Type 0
MomentsStand = (k : KeptHub) (hub : Hub) (t : ℕ) → StandsFor k hub → StandsFor (moment k t) (moment hub t)

abbrev pub ConnectsStand : Type 0
ConnectsStand = (k : KeptHub) (hub : Hub) → StandsFor k hub → BothAnswer (connect k) (connect hub)

abbrev pub TakesStand : Type 0
TakesStand = (k : KeptHub) (hub : Hub) (number : ℕ) (piece : List ℕ) → StandsFor k hub → AreOctets piece
    → BothAnswer (taken_by k number piece, take_octets k number piece) (taken_by hub number piece, take_octets hub number piece)

abbrev pub StopsStand : Type 0
StopsStand = (k : KeptHub) (hub : Hub) (number rcode delay : ℕ) → StandsFor k hub → StandsFor (stop k number rcode delay) (stop hub number rcode delay)

abbrev pub EndsStand : Type 0
EndsStand = (k : KeptHub) (hub : Hub) (number : ℕ) → StandsFor k hub → StandsFor (disconnect k number) (disconnect hub number)

pub record BothGive (k : KeptGiving) (p : Giving) : Type 0 where
  pub octets : k.octets ≡ p.octets
  pub given : k.given ≡ p.given
  pub hub : StandsFor k.hub p.hub

abbrev pub GivesStand : Type 0
GivesStand = (k : KeptHub) (hub : Hub) (number room : ℕ) → StandsFor k hub → BothGive (give k number room) (give hub number room)

-- the records now, and the copies of a session's names, are such as nets are made of
abbrev pub HubsTell : Type 0
HubsTell = (k : KeptHub) (hub : Hub) → StandsFor k hub
    → AreTold (records_now k) × ((number : ℕ) (session : KeptSession) → session_of k number ≡ Some session → CanBePacked (records_now k) session.queue)

-- as many entries of each group, and as many sessions ever made
abbrev pub CountsStand : Type 0
CountsStand = (k : KeptHub) (hub : Hub) → StandsFor k hub → (k.seen.counts ≡ totals hub.history) × (k.numbers_given ≡ hub.numbers_given)

-- where the oldest entries are forgotten, the same plain hub is stood for
abbrev pub ForgettingStands : Type 0
ForgettingStands = (k new : KeptHub) (hub : Hub) → StandsFor k hub → Forgets k new → StandsFor new hub
