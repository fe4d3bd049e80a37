use Rattle.replay.proofs.rest.EveryScriptCut.{answers-every-cut-in}
use Rattle.replay.proofs.laws.sessions_answer_every_cut.Goals as goal

pub returns : goal.returns
returns c = answers-every-cut-in
