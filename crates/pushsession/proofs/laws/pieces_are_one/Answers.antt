use Rattle.pushsession.proofs.SessionLaws as laws
use Rattle.pushsession.proofs.laws.pieces_are_one.Goals as goal

pub returns : goal.returns
returns c = laws.pieces_are_one
