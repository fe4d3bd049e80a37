use Rattle.flight_laws.proofs.Granting.{pushes-given, names-leave}
use Rattle.flight_laws.proofs.ToldEnds.{ends-told}
use Rattle.flight_laws.proofs.telling_fits.Goals as goal

pub returns : goal.returns
returns c = record { pushes = pushes-given; unsent = names-leave; told = ends-told }
