use Rattle.script_laws.proofs.Scripts.{no-message-ends}
use Rattle.script_laws.proofs.no_message_ends_a_script.Goals as goal

pub returns : goal.returns
returns c = record { ends = no-message-ends }
