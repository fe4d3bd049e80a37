use Rattle.flight_laws.proofs.TakenUp.{all_taken_up-part}
use Rattle.flight_laws.proofs.takes_with_fewer.Goals as goal

pub returns : goal.returns
returns c = record { takes = all_taken_up-part }
