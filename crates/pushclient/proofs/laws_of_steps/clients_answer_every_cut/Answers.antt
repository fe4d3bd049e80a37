use Rattle.pushclient.proofs.EveryCut.{answers-every-cut, same-for-every-cut, has-room-while-it-waits}
use Rattle.pushclient.proofs.Outputs.{says-the-same}
use Rattle.pushclient.proofs.laws_of_steps.clients_answer_every_cut.Goals as goal

pub returns-clause-messages : goal.returns-clause-messages
returns-clause-messages c = answers-every-cut

pub returns-clause-alike : goal.returns-clause-alike
returns-clause-alike c = same-for-every-cut

pub returns-clause-said : goal.returns-clause-said
returns-clause-said c = says-the-same

pub returns-clause-room : goal.returns-clause-room
returns-clause-room c = has-room-while-it-waits
