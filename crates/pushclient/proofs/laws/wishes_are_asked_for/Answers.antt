use Rattle.pushclient.proofs.AskedFor.{called_pass}
use Rattle.pushclient.proofs.laws.wishes_are_asked_for.Goals as goal

pub returns : goal.returns
returns c = called_pass
