use Rattle.linkask.proofs.Keeping.{ending_keeps, hearing_keeps, reconfirming_keeps}
use Rattle.linkask.proofs.ReasonSteps.{going_keeps, reasons_keep}
use Rattle.linkask.proofs.laws.bounds.Goals as goal

pub returns-clause-ending : goal.returns-clause-ending
returns-clause-ending c = ending_keeps

pub returns-clause-reconfirming : goal.returns-clause-reconfirming
returns-clause-reconfirming c = reconfirming_keeps

pub returns-clause-hearing : goal.returns-clause-hearing
returns-clause-hearing c = hearing_keeps

pub returns-clause-going : goal.returns-clause-going
returns-clause-going c = going_keeps

pub returns-clause-reasons : goal.returns-clause-reasons
returns-clause-reasons c = reasons_keep
