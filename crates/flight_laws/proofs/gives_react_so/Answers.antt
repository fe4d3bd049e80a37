use Rattle.flight_laws.proofs.GivesSo.{gives-so}
use Rattle.flight_laws.proofs.gives_react_so.Goals as goal

pub returns : goal.returns
returns c = record { gives = gives-so }
