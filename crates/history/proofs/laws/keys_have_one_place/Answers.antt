use Rattle.history.proofs.ShownAtHome.{keys-one}
use Rattle.history.proofs.laws.keys_have_one_place.Goals as goal

pub returns : goal.returns
returns c state home = keys-one state home
