use Rattle.pushsession.proofs.SessionLaws as laws
use Rattle.pushsession.proofs.laws.each_question_has_its_end.Goals as goal

pub returns : goal.returns
returns c = laws.each_question_has_its_end
