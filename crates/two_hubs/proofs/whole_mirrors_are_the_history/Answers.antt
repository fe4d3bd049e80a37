use Rattle.two_hubs.proofs.Relaying.{whole-replays-mirror}
use Rattle.two_hubs.proofs.whole_mirrors_are_the_history.Goals as goal

pub returns : goal.returns
returns c = record { mirrors = whole-replays-mirror }
