use Rattle.services.proofs.Telling.{same_is_silent}
use Rattle.services.proofs.laws.same_is_silent.Goals as goal

pub returns : goal.returns
returns c = same_is_silent
