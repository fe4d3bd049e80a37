use Rattle.services.proofs.Telling.{told_again}
use Rattle.services.proofs.laws.told_again.Goals as goal

pub returns : goal.returns
returns c = told_again
