use Rattle.history.proofs.LinkChanges.{links_change-together}
use Rattle.history.proofs.laws.links_change_together.Goals as goal

pub returns : goal.returns
returns c state later now home zip = links_change-together state later now home zip
