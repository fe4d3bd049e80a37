use Rattle.flight_laws.proofs.HeldHistory.{held-is-history}
use Rattle.flight_laws.proofs.held_is_history.Goals as goal

pub returns : goal.returns
returns c = record { held = held-is-history }
