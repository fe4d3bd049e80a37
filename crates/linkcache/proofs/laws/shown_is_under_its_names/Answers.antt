use Rattle.linkcache.proofs.ShownNames.{all-under}
use Rattle.linkcache.proofs.laws.shown_is_under_its_names.Goals as goal

pub returns : goal.returns
returns c rules rows sound = all-under rules rows sound
