use Rattle.readable.proofs.TypedAgain.{reads_back}
use Rattle.readable.proofs.laws.reads_back.Goals as goal

pub returns : goal.returns
returns c = reads_back
