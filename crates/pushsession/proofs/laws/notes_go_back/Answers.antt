use Rattle.pushsession.proofs.SessionLaws as laws
use Rattle.pushsession.proofs.laws.notes_go_back.Goals as goal

pub returns : goal.returns
returns c = laws.notes_go_back
