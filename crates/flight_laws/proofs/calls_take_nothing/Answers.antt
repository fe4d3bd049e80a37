use Rattle.flight_laws.proofs.TakesNothing.{gives-take-nothing, others-take-nothing}
use Rattle.flight_laws.proofs.calls_take_nothing.Goals as goal

pub returns : goal.returns
returns c = record { gives = gives-take-nothing; others = others-take-nothing }
