use Rattle.flight_laws.proofs.Refusals.{refusals-taken}
use Rattle.flight_laws.proofs.answers_fit.Goals as goal

pub returns : goal.returns
returns c = record { refusals = refusals-taken }
