-- A hub to which calls lead is sound: what is kept stands for it behind each call.
--     after-stands      the calls lead both on
--     reached-sound
use Rattle.std.proofs.Common.{List, [], ◌∷◌, sym, subst}
use Rattle.dsosession.specs.declared.session.Timers.{Timers}
use Rattle.history.specs.States.{State}
use Rattle.pushserver.specs.Calls.{HubCall, updates, hears, goes, moves, connects, takes, gives, stops, ends, called, after_calls}
use Rattle.pushserver.specs.Giving.{give}
use Rattle.pushserver.specs.Hubs.{update, hear, link_gone, moment, connect, take_octets, stop, disconnect}
use Rattle.pushserver.specs.KeptHubs.{KeptHub, StandsFor, new_kept}
use Rattle.pushserver.specs.PlainHubs.{Hub, new_hub}
use Rattle.pushserver.specs.SoundHubs.{IsSoundHub}
use Rattle.pushserver.proofs.hub_steps.Calls.{updates_stand, hears_stand, goings_stand, moments_stand, connects_stand, takes_stand, stops_stand, ends_stand}
use Rattle.pushserver.proofs.hub_steps.Giving.{gives_stand}
use Rattle.pushserver.proofs.told_rows.Hubs.{new_stands}
use Rattle.pushtelling.specs.Laws.{IsStartOfHomes}
use Rattle.pushtelling.proofs.Calls.{start-at-home}
use Rattle.script_laws.specs.Reached.{FitsCall, FitCalls, ReachedOnesAreSound}

-- something that is kept stands for the hub
abbrev IsStoodFor : Hub → Type 0
IsStoodFor hub = (k : KeptHub) × StandsFor k hub

-- ---- each call

called-stands : (call : HubCall) (hub : Hub) → FitsCall call → IsStoodFor hub → IsStoodFor (called call hub)
called-stands (updates message) hub fit (k, s) = ((update k message).1, (updates_stand k hub message s fit.0).1)
called-stands (hears link datagram) hub fit (k, s) = ((hear k link datagram).1, (hears_stand k hub link datagram s fit.0).1)
called-stands (goes link) hub fit (k, s) = ((link_gone k link).1, (goings_stand k hub link s).1)
called-stands (moves t) hub fit (k, s) = (moment k t, moments_stand k hub t s)
called-stands connects hub fit (k, s) = ((connect k).1, (connects_stand k hub s).1)
called-stands (takes number piece) hub fit (k, s) = (take_octets k number piece, (takes_stand k hub number piece s fit.0).1)
called-stands (gives number room) hub fit (k, s) = ((give k number room).hub, (gives_stand k hub number room s).hub)
called-stands (stops number rcode delay) hub fit (k, s) = (stop k number rcode delay, stops_stand k hub number rcode delay s)
called-stands (ends number) hub fit (k, s) = (disconnect k number, ends_stand k hub number s)

after-stands : (calls : List HubCall) (hub : Hub) → FitCalls calls → IsStoodFor hub → IsStoodFor (after_calls calls hub)
after-stands [] hub fit s = s
after-stands (call ∷ calls) hub fit s = after-stands calls (called call hub) fit.1 (called-stands call hub fit.0 s)

new-stands : (start : State) (timers : Timers) → IsStartOfHomes start → IsStoodFor (new_hub start timers)
new-stands start timers is = (new_kept start timers, new_stands start timers is.begins (start-at-home start is) is.names)

pub reached-sound : ReachedOnesAreSound
reached-sound hub r =
    let first = new_hub r.start r.timers in
    let stood : IsStoodFor (after_calls r.calls first) = after-stands r.calls first r.fit (new-stands r.start r.timers r.homes) in
    subst IsSoundHub (sym r.is) stood.1.sound
