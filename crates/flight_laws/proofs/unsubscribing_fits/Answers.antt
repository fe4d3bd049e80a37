use Rattle.flight_laws.proofs.Ended.{held-dropped}
use Rattle.flight_laws.proofs.unsubscribing_fits.Goals as goal

pub returns : goal.returns
returns c = record { held = held-dropped }
