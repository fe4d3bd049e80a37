use Rattle.two_hubs.proofs.Answering.{carries-answer}
use Rattle.two_hubs.proofs.carries_are_answered.Goals as goal

pub returns : goal.returns
returns c = carries-answer
