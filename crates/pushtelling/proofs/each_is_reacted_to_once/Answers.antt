use Rattle.pushtelling.proofs.Running.{each_is_reacted_to_once, give_reacts}
use Rattle.pushtelling.proofs.Closed.{closed_ones_rest}
use Rattle.pushtelling.proofs.each_is_reacted_to_once.Goals as goal

pub returns : goal.returns
returns c = record { once = each_is_reacted_to_once; reacts = give_reacts; closed = closed_ones_rest }
