use Rattle.replay.proofs.OneHub.{one-answered, one-checked, one-leaves}
use Rattle.replay.proofs.laws.one_hub_is_as_ever.Goals as goal

pub returns : goal.returns
returns c = record { answered = one-answered; checked = one-checked; leaves = one-leaves }
