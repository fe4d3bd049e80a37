use Rattle.flight_laws.proofs.Passing.{said, went_up, came_out, came_in}
use Rattle.flight_laws.proofs.octets_pass.Goals as goal

pub returns : goal.returns
returns c = record { pass = record { said = said; went_up = went_up; came_out = came_out; came_in = came_in } }
