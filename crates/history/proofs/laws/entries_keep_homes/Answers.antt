use Rattle.history.proofs.HomesStay.{homes-kept}
use Rattle.history.proofs.laws.entries_keep_homes.Goals as goal

pub returns : goal.returns
returns c state entry home = homes-kept state entry home
