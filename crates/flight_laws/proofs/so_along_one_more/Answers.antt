use Rattle.flight_laws.proofs.Along.{so-along-one-more}
use Rattle.flight_laws.proofs.so_along_one_more.Goals as goal

pub returns : goal.returns
returns c = record { along = so-along-one-more }
