use Rattle.pushclient.proofs.SoundSteps.{called_sound, clients_sound}
use Rattle.pushclient.proofs.laws.clients_stay_sound.Goals as goal

pub returns-clause-calls : goal.returns-clause-calls
returns-clause-calls c = called_sound

pub returns-clause-clients : goal.returns-clause-clients
returns-clause-clients c = clients_sound
