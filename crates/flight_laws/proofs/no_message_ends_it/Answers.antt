use Rattle.flight_laws.proofs.GoesOn.{sessions-go-on, clients-go-on}
use Rattle.flight_laws.proofs.no_message_ends_it.Goals as goal

pub returns : goal.returns
returns c = record { ends = record { session = sessions-go-on; client = clients-go-on } }
