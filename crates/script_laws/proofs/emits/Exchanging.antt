-- An exchange with the session of a peer is calls for this session alone.
--     exchanges-are-calls
use Rattle.std.proofs.Common.{ℕ, List, refl}
use Rattle.dsotlv.specs.Laws.{AreOctets}
use Rattle.pushserver.specs.Calls.{gives, takes}
use Rattle.pushserver.specs.Giving.{give}
use Rattle.pushserver.specs.Hubs.{take_octets}
use Rattle.pushserver.specs.PlainHubs.{Hub}
use Rattle.replay.proofs.worlds.InputOctets.{octets-parts}
use Rattle.replay.proofs.worlds.Keeping.{keeps-exchanged}
use Rattle.script_laws.specs.Walk.{ExchangesAreCalls}
use Rattle.script_laws.proofs.emits.Leading.{IsLedTo, led-none, led-one, led-both}

pub exchanges-are-calls : ExchangesAreCalls
exchanges-are-calls turns number octets so_far hub good =
    let led = keeps-exchanged (IsLedTo number hub) number gave AreOctets octets-parts took turns octets hub so_far good (led-none number hub) in
    record { calls = led.calls; fit = led.fit; own = led.own; hub_is = led.is }
  where
    gave : (h : Hub) (room : ℕ) → IsLedTo number hub h → IsLedTo number hub (give h number room).hub
    gave h room led = led-both number hub h (give h number room).hub led (led-one number h (gives number room) (tt, tt) refl)

    took : (h : Hub) (piece : List ℕ) → AreOctets piece → IsLedTo number hub h → IsLedTo number hub (take_octets h number piece)
    took h piece good led = led-both number hub h (take_octets h number piece) led (led-one number h (takes number piece) (good, tt) refl)
