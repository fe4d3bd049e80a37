use Rattle.linkask.proofs.ReasonSteps.{beginning_anew, unwanting_drops, wanting_wants}
use Rattle.linkask.proofs.laws.reasons.Goals as goal

pub returns-clause-wanting : goal.returns-clause-wanting
returns-clause-wanting c = wanting_wants

pub returns-clause-unwanting : goal.returns-clause-unwanting
returns-clause-unwanting c = unwanting_drops

pub returns-clause-anew : goal.returns-clause-anew
returns-clause-anew c = beginning_anew
