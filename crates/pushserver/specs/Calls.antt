-- Calls of the hub as data.
--     HubCall, called      the calls; the hub after one
--     after_calls      the hub after several
--     BringsOctets      what comes as octets are octets
use Rattle.std.specs.Prelude.{ℕ, List, fold}
use Rattle.dsotlv.specs.Laws.{AreOctets}
use Rattle.pushserver.specs.Hubs.{SessionKind, HubOf, update, hear, link_gone, moment, connect, take_octets, stop, disconnect}
use Rattle.pushserver.specs.Giving.{give}

pub data HubCall : Type 0 where
  updates : List ℕ → HubCall
  hears : ℕ → List ℕ → HubCall
  goes : ℕ → HubCall
  moves : ℕ → HubCall
  connects : HubCall
  takes : ℕ → List ℕ → HubCall
  gives : ℕ → ℕ → HubCall
  stops : ℕ → ℕ → ℕ → HubCall
  ends : ℕ → HubCall

abbrev pub called : {A Q M S : Type 0} {kind : SessionKind A Q M S} → HubCall → HubOf kind → HubOf kind
called (updates message) hub = (update hub message).1
called (hears link datagram) hub = (hear hub link datagram).1
called (goes link) hub = (link_gone hub link).1
called (moves t) hub = moment hub t
called connects hub = (connect hub).1
called (takes number piece) hub = take_octets hub number piece
called (gives number room) hub = (give hub number room).hub
called (stops number rcode delay) hub = stop hub number rcode delay
called (ends number) hub = disconnect hub number

-- one after the other
abbrev pub after_calls : {A Q M S : Type 0} {kind : SessionKind A Q M S} → List HubCall → HubOf kind → HubOf kind
after_calls calls hub = fold (λ h c. called c h) hub calls

-- what comes as octets are octets
abbrev pub BringsOctets : HubCall → Type 0
BringsOctets (updates message) = AreOctets message
BringsOctets (hears link datagram) = AreOctets datagram
BringsOctets (takes number piece) = AreOctets piece
BringsOctets _ = Unit {0}
