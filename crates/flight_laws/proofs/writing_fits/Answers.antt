use Rattle.flight_laws.proofs.Writing.{keepalive-fits, reconfirm-fits}
use Rattle.flight_laws.proofs.writing_fits.Goals as goal

pub returns : goal.returns
returns c = record { keepalives = keepalive-fits; reconfirms = reconfirm-fits }
