use Rattle.flight_laws.proofs.ReadBack.{first-comes-up, taken-up-within}
use Rattle.flight_laws.proofs.first_comes_up.Goals as goal

pub returns : goal.returns
returns c = record { first = first-comes-up; within = taken-up-within }
