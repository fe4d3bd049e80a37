use Rattle.flight_laws.proofs.InUse.{next-is-free}
use Rattle.flight_laws.proofs.next_ids_are_free.Goals as goal

pub returns : goal.returns
returns c = record { free = next-is-free }
