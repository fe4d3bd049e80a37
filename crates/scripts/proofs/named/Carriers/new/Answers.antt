use Rattle.scripts.proofs.wholes.Carried.{none-carries}
use Rattle.scripts.proofs.named.Carriers.new.Goals as goal

pub returns : goal.returns
returns c = none-carries c.new.result c.new.ensures.empty
