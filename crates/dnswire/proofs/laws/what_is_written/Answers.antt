use Rattle.dnswire.proofs.WrittenUpdates.{written-read}
use Rattle.dnswire.proofs.laws.what_is_written.Goals as goal

pub returns : goal.returns
returns c = written-read
