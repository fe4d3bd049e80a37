use Rattle.flight_laws.proofs.QuietTurns.{quiet-gives}
use Rattle.flight_laws.proofs.quiet_gives_fit.Goals as goal

pub returns : goal.returns
returns c = record { gives = quiet-gives }
