use Rattle.pushtelling.proofs.Calls.{messages_stay}
use Rattle.pushtelling.proofs.messages_stay.Goals as goal

pub returns : goal.returns
returns c = record { behind = messages_stay }
