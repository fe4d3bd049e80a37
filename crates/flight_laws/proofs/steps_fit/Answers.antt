use Rattle.flight_laws.proofs.OnOctets.{steps-taken, steps-wait}
use Rattle.flight_laws.proofs.steps_fit.Goals as goal

pub returns : goal.returns
returns c = record { taken = steps-taken; waits = steps-wait }
