use Rattle.flight_laws.proofs.Accepting.{accepts-held, accepts-ended}
use Rattle.flight_laws.proofs.accepting_fits.Goals as goal

pub returns : goal.returns
returns c = record { held = accepts-held; ended = accepts-ended }
