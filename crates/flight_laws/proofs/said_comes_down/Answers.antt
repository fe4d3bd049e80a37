use Rattle.flight_laws.proofs.SaidDown.{said-comes-down}
use Rattle.flight_laws.proofs.said_comes_down.Goals as goal

pub returns : goal.returns
returns c = record { down = said-comes-down }
