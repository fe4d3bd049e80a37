use Rattle.pushtelling.proofs.Calls.{sessions_tell}
use Rattle.pushtelling.proofs.sessions_tell_the_history.Goals as goal

pub returns : goal.returns
returns c = record { after_calls = sessions_tell }
