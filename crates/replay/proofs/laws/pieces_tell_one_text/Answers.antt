use Rattle.replay.proofs.pieces.OneText.{one-text, pieces-leave-peers}
use Rattle.replay.proofs.laws.pieces_tell_one_text.Goals as goal

pub returns-clause-left : goal.returns-clause-left
returns-clause-left c = pieces-leave-peers

pub returns-clause-same : goal.returns-clause-same
returns-clause-same c = one-text
