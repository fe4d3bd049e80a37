use Rattle.flight_laws.proofs.Taking.{delay-taken, grants-taken}
use Rattle.flight_laws.proofs.TakingPushes.{pushes-taken}
use Rattle.flight_laws.proofs.taking_fits.Goals as goal

pub returns : goal.returns
returns c = record { delays = delay-taken; grants = grants-taken; pushes = pushes-taken }
