use Rattle.flight_laws.proofs.ReadBack.{read-back, read-again, carried}
use Rattle.flight_laws.proofs.messages_are_read_back.Goals as goal

pub returns : goal.returns
returns c = record { read = read-back; again = record { again = read-again; carried = carried } }
