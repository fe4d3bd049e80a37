-- Octets between a client and its session in the hub, as they are kept.
--     HasPassed, Passes passing calls      what one passing did, and what its calls of the hub make links asked, in every world that is stood for
--     Turns number      one round
--     way_text way w count      the line of a way
--     HasMoved, Moves passing calls      how many octets passed, how it ended, and the hub behind it
--     HasEnded, EndsSo, EndsAt      a passing and what follows its end, of a client and of the one at a place
use Rattle.std.specs.Prelude.{◌≡◌, ◌++◌, ◌∷◌, [], List, not, ℕ, Bool, Option, codes, decimal}
use Rattle.dsosession.specs.declared.session.EndReason.{EndReason}
use Rattle.dsosession.specs.declared.session.CloseReason.{CloseReason}
use Rattle.pushserver.specs.Calls.{HubCall}
use Rattle.hubasking.specs.AskingHubs.{AskingHub}
use Rattle.hubasking.specs.LinkAskings.{Askings}
use Rattle.pushclient.specs.Clients.{closed_as}
use Rattle.scripts.specs.Lines.{Word}
use Rattle.replay.specs.World.{World, Seat, is_over, cut_if, hub_cut_if}
use Rattle.replay.specs.PassedOctets.{Passed, is_still, round}
use Rattle.scripts.specs.declared.line.Way.{Way}
use Rattle.scripts.specs.declared.line.Way.TheVariants as ways
use Rattle.replay.specs.Askings.{calls_asks}
use Rattle.replay.specs.LineCalls.{round_calls, cut_calls}
use Rattle.replay.specs.KeptAskings.{StandsFor}
use Rattle.replay.specs.KeptWorlds.{KeptSeat, Seated, StandsForSeat}
use Rattle.replay.specs.KeptSeats.{Makes, Calls}

-- a passing moved so many octets, and what is kept behind it stands for the hub and the seat
pub record HasPassed (p : Passed) (asked : Askings) (hub : AskingHub) (after : KeptSeat) (count : ℕ) (reacted : Bool) (over : Option EndReason) : Type 0 where
  pub moved : count ≡ p.count
  pub reacts : reacted ≡ p.reacted
  pub end_told : over ≡ p.over
  pub stands : StandsFor hub p.world.hub
  pub asks : hub.askings ≡ asked
  pub seat : StandsForSeat after p.seat

-- in every world and of every seat that are stood for; the client keeps its word
unfoldable pub Passes : (World → Seat → Passed) → (World → Seat → List HubCall) → AskingHub → KeptSeat → ℕ → Bool → Option EndReason → AskingHub → KeptSeat → Type 0
Passes passing calls hub before count reacted over hub_later after = (after.word ≡ before.word) × ((world : World) (seat : Seat) → StandsFor hub world.hub → StandsForSeat before seat → HasPassed (passing world seat) (calls_asks (calls world seat) world.hub hub.askings) hub_later after count reacted over)

-- ---- rounds

-- a round moved something or didn't, and what is kept behind it stands for the hub and the seat
pub record HasTurned (p : Passed) (asked : Askings) (hub : AskingHub) (after : KeptSeat) (moves : Bool) (over : Option EndReason) : Type 0 where
  pub moved : moves ≡ not (is_still p)
  pub end_told : over ≡ p.over
  pub stands : StandsFor hub p.world.hub
  pub asks : hub.askings ≡ asked
  pub seat : StandsForSeat after p.seat

-- in every world and of every seat that are stood for
unfoldable pub Turns : ℕ → AskingHub → KeptSeat → Bool → Option EndReason → AskingHub → KeptSeat → Type 0
Turns number hub before moves over hub_later after = (after.word ≡ before.word) × ((world : World) (seat : Seat) → StandsFor hub world.hub → StandsForSeat before seat → HasTurned (round number world seat) (calls_asks (round_calls number world seat) world.hub hub.askings) hub_later after moves over)

-- ---- ways

-- the line itself
abbrev pub way_text : Way → Word → ℕ → List ℕ
way_text (ways.Say n) w count = codes "say " ++ (w ++ 32 ∷ (decimal count ++ 10 ∷ []))
way_text (ways.Up n) w count = codes "up " ++ (w ++ 32 ∷ (decimal count ++ 10 ∷ []))
way_text (ways.Emit n) w count = codes "emit " ++ (w ++ 32 ∷ (decimal count ++ 10 ∷ []))
way_text (ways.Down n) w count = codes "down " ++ (w ++ 32 ∷ (decimal count ++ 10 ∷ []))
way_text ways.Settle w count = codes "settle " ++ (w ++ 10 ∷ [])

-- a passing moved so many octets and ended so, and what is kept behind it stands for the hub and the seat
pub record HasMoved (p : Passed) (asked : Askings) (hub : AskingHub) (after : KeptSeat) (count : ℕ) (over : Option EndReason) : Type 0 where
  pub moved : count ≡ p.count
  pub end_told : over ≡ p.over
  pub stands : StandsFor hub p.world.hub
  pub asks : hub.askings ≡ asked
  pub seat : StandsForSeat after p.seat

-- in every world and of every seat that are stood for
unfoldable pub Moves : (World → Seat → Passed) → (World → Seat → List HubCall) → AskingHub → KeptSeat → ℕ → Option EndReason → AskingHub → KeptSeat → Type 0
Moves passing calls hub before count over hub_later after = (after.word ≡ before.word) × ((world : World) (seat : Seat) → StandsFor hub world.hub → StandsForSeat before seat → HasMoved (passing world seat) (calls_asks (calls world seat) world.hub hub.askings) hub_later after count over)

-- ---- a passing to its end

-- a passing moved so many octets and ended so, and the hub behind the cut, if there is one
pub record HasEnded (p : Passed) (asked : Askings) (hub : AskingHub) (count : ℕ) (over : Option EndReason) (closing : Option CloseReason) : Type 0 where
  pub moved : count ≡ p.count
  pub end_told : over ≡ p.over
  pub closes : closing ≡ closed_as p.seat.client
  pub stands : StandsFor hub (hub_cut_if (is_over over closing) p.seat p.world.hub)
  pub asks : hub.askings ≡ asked

-- of a client, in every world that is stood for
unfoldable pub EndsSo : (World → Seat → Passed) → (World → Seat → List HubCall) → AskingHub → KeptSeat → ℕ → Option EndReason → Option CloseReason → AskingHub → KeptSeat → Type 0
EndsSo passing calls hub before count over closing hub_later after = (world : World) → StandsFor hub world.hub → Makes (λ s. HasEnded (passing world s) (calls_asks (calls world s ++ cut_calls (passing world s)) world.hub hub.askings) hub_later count over closing) (λ s. cut_if (is_over over closing) (passing world s).seat) before after

-- of the client at a place
unfoldable pub EndsAt : (World → Seat → Passed) → (World → Seat → List HubCall) → AskingHub → Seated → ℕ → ℕ → Option EndReason → Option CloseReason → AskingHub → Seated → Type 0
EndsAt passing calls hub before place count over closing hub_later later = (world : World) → StandsFor hub world.hub → Calls (λ s. HasEnded (passing world s) (calls_asks (calls world s ++ cut_calls (passing world s)) world.hub hub.askings) hub_later count over closing) (λ s. cut_if (is_over over closing) (passing world s).seat) before place later
