use Rattle.script_laws.proofs.Scripts.{keep-promises}
use Rattle.script_laws.proofs.scripts_keep_promises.Goals as goal

pub returns : goal.returns
returns c = record { promises = keep-promises }
