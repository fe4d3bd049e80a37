use Rattle.services.proofs.Standing.{needs_stand}
use Rattle.services.proofs.laws.needs_stand.Goals as goal

pub returns : goal.returns
returns c = needs_stand
