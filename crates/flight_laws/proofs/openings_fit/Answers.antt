use Rattle.flight_laws.proofs.Opening.{connections-open}
use Rattle.flight_laws.proofs.openings_fit.Goals as goal

pub returns : goal.returns
returns c = record { opens = connections-open }
