use Rattle.flight_laws.proofs.Beginning.{begins}
use Rattle.flight_laws.proofs.new_connections_fit.Goals as goal

pub returns : goal.returns
returns c = record { begins = begins }
