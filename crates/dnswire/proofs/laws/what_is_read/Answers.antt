use Rattle.dnswire.proofs.Messages.{update-spelled, update-found, hearing-spelled, hearing-found}
use Rattle.dnswire.proofs.laws.what_is_read.Goals as goal

pub returns-clause-update : goal.returns-clause-update
returns-clause-update c = update-spelled

pub returns-clause-update_found : goal.returns-clause-update_found
returns-clause-update_found c = update-found

pub returns-clause-hearing : goal.returns-clause-hearing
returns-clause-hearing c = hearing-spelled

pub returns-clause-hearing_found : goal.returns-clause-hearing_found
returns-clause-hearing_found c = hearing-found
