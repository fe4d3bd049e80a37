use Rattle.two_hubs.proofs.Written.{carries-written}
use Rattle.two_hubs.proofs.carries_are_written.Goals as goal

pub returns : goal.returns
returns c = carries-written
