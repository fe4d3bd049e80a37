use Rattle.flight_laws.proofs.Reacts.{reacts-so, verdicts-are-two}
use Rattle.flight_laws.proofs.GivesSo.{after-is}
use Rattle.flight_laws.proofs.sessions_react_so.Goals as goal

pub returns : goal.returns
returns c = record { reacts = reacts-so; verdicts = verdicts-are-two; fields = after-is }
