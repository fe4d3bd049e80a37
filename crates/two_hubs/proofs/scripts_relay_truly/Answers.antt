use Rattle.two_hubs.proofs.Relaying.{relays-truly}
use Rattle.two_hubs.proofs.scripts_relay_truly.Goals as goal

pub returns : goal.returns
returns c = record { relays = relays-truly }
