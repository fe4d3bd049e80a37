use Rattle.flight_laws.proofs.OtherSteps.{other-calls-leave}
use Rattle.flight_laws.proofs.other_calls_leave.Goals as goal

pub returns : goal.returns
returns c = record { calls = other-calls-leave }
