use Rattle.flight_laws.proofs.Reacted.{reactions-leave}
use Rattle.flight_laws.proofs.reactions_leave.Goals as goal

pub returns : goal.returns
returns c = record { reactions = reactions-leave }
