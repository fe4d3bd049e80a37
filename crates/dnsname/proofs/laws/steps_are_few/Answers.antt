use Rattle.dnsname.proofs.PointerSteps.{steps_in-few}
use Rattle.dnsname.proofs.laws.steps_are_few.Goals as goal

pub returns : goal.returns
returns c = steps_in-few
