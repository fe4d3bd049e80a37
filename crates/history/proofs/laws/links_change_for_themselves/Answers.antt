use Rattle.history.proofs.LinkChanges.{link_changes}
use Rattle.history.proofs.laws.links_change_for_themselves.Goals as goal

pub returns : goal.returns
returns c zones first last link later now later_now sound sound_later in_zones in_first in_last = link_changes zones first last link later now later_now sound sound_later in_zones in_first in_last
