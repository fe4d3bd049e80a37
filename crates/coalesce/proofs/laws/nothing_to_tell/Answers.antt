use Rattle.coalesce.proofs.Telling as telling
use Rattle.coalesce.proofs.laws.nothing_to_tell.Goals as goal

pub returns : goal.returns
returns c = telling.nothing_to_tell
