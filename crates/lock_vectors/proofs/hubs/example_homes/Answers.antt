-- The zone is new.
use Rattle.std.proofs.Common.{true}
use Rattle.history.proofs.Starts.{is_new}
use Rattle.lock_vectors.proofs.hubs.example_homes.Goals as goal

pub homes_of-requires : goal.homes_of-requires
homes_of-requires c = is_new c.in_ok-zone.zone.state c.in_ok-apex.apex 1 true c.in_ok-zone.ensures.made
