use Rattle.pushtelling.proofs.Running.{made_goes_out}
use Rattle.pushtelling.proofs.made_goes_out.Goals as goal

pub returns : goal.returns
returns c = record { goes_out = made_goes_out }
