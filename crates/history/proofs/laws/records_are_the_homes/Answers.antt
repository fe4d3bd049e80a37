use Rattle.history.proofs.ShownAtHome.{set-records, at_name-home}
use Rattle.history.proofs.laws.records_are_the_homes.Goals as goal

pub returns : goal.returns
returns c state home = (set-records state home, λ name. at_name-home state home name)
