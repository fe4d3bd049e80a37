use Rattle.flight_laws.proofs.Stopping.{stops-written}
use Rattle.flight_laws.proofs.stopping_fits.Goals as goal

pub returns : goal.returns
returns c = record { stops = stops-written }
