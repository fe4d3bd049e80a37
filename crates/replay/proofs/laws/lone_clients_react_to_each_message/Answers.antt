use Rattle.replay.proofs.feeding.FedTexts.{feeds-as-messages}
use Rattle.replay.proofs.laws.lone_clients_react_to_each_message.Goals as goal

pub returns : goal.returns
returns c = feeds-as-messages
