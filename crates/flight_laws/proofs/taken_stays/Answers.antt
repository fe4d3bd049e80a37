use Rattle.flight_laws.proofs.TakenStays.{taken-is-counted, taken-stays}
use Rattle.flight_laws.proofs.taken_stays.Goals as goal

pub returns : goal.returns
returns c = record { counted = taken-is-counted; stays = taken-stays }
