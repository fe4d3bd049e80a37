use Rattle.flight_laws.proofs.FirstFits.{first-fits}
use Rattle.flight_laws.proofs.first_messages_fit.Goals as goal

pub returns : goal.returns
returns c = record { first = first-fits }
