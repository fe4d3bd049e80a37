use Rattle.script_laws.proofs.calls.EachTurn.{subscribes-are-answered}
use Rattle.script_laws.proofs.subscribes_are_answered.Goals as goal

pub returns : goal.returns
returns c = record { answered = subscribes-are-answered }
