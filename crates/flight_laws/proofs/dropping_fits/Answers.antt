use Rattle.flight_laws.proofs.Dropping.{dropped-waits}
use Rattle.flight_laws.proofs.Forgotten.{refused-dropped}
use Rattle.flight_laws.proofs.dropping_fits.Goals as goal

pub returns : goal.returns
returns c = record { waiting = dropped-waits; refused = refused-dropped }
